use Rattle.std.proofs.Common.{◌≡◌, [], Some, None, refl, ap, rules}
use Rattle.loads.specs.Kinds.{sum, more}
use Rattle.loads.specs.Rows.{load_means}
use Rattle.nestformat.specs.declared.kinds.BodyKind.TheVariants.{Milliamperes}
use Rattle.finder.specs.Meanings.{milliamperes}
use Rattle.finder.proofs.Told.{entry_is, owned_is, loads_none, loads_some}
use Rattle.finder.proofs.veto.milliamperes_of.Goals as goal

pub returns-in_default : goal.returns-in_default
returns-in_default c =
    let none : c.entry_of.result ≡ None = search rules in
    ap (load_means 0 sum more) (loads_none c.args.problem.now milliamperes Milliamperes _ (owned_is c.new.result.rows c.empty.result [] c.new.ensures c.empty.ensures)
    (entry_is c.args.problem.now Milliamperes c.contents.result.now c.entry_of.result None c.contents.ensures c.entry_of.ensures none))

pub returns : goal.returns
returns c =
    ap (load_means 0 sum more) (loads_some c.args.problem.now milliamperes Milliamperes c.in-Some.entry.size _ c.milliamperes.result.now c.in-Some.entry (owned_is c.new-2.result.rows c.headed.result _ c.new-2.ensures c.headed.ensures) c.milliamperes.ensures.rows refl
    (entry_is c.args.problem.now Milliamperes c.contents.result.now c.entry_of.result (Some c.in-Some.entry) c.contents.ensures c.entry_of.ensures c.in-Some.is))
