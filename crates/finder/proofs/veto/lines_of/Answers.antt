use Rattle.std.proofs.Common.{◌≡◌, [], Some, None, ap, rules}
use Rattle.loads.specs.Kinds.{union, wider}
use Rattle.loads.specs.Rows.{load_means}
use Rattle.nestformat.specs.declared.kinds.BodyKind.TheVariants.{Lines}
use Rattle.finder.specs.Meanings.{lowest_lines}
use Rattle.finder.proofs.Fits.{lines_few}
use Rattle.finder.proofs.Told.{entry_is, owned_is, loads_none, loads_some}
use Rattle.finder.proofs.veto.lines_of.Goals as goal

pub returns-in_default : goal.returns-in_default
returns-in_default c =
    let none : c.entry_of.result ≡ None = search rules in
    ap (load_means 0 union wider) (loads_none c.args.problem.now lowest_lines Lines _ (owned_is c.new.result.rows c.empty.result [] c.new.ensures c.empty.ensures)
    (entry_is c.args.problem.now Lines c.contents.result.now c.entry_of.result None c.contents.ensures c.entry_of.ensures none))

pub lowest_lines-requires : goal.lowest_lines-requires
lowest_lines-requires c = lines_few c.args.problem.now c.in-Some.entry (entry_is c.args.problem.now Lines c.contents.result.now c.entry_of.result (Some c.in-Some.entry) c.contents.ensures c.entry_of.ensures c.in-Some.is)

pub returns : goal.returns
returns c =
    ap (load_means 0 union wider) (loads_some c.args.problem.now lowest_lines Lines c.lowest_lines.result _ c.lines.result.now c.in-Some.entry (owned_is c.new-2.result.rows c.headed.result _ c.new-2.ensures c.headed.ensures) c.lines.ensures.rows c.lowest_lines.ensures
    (entry_is c.args.problem.now Lines c.contents.result.now c.entry_of.result (Some c.in-Some.entry) c.contents.ensures c.entry_of.ensures c.in-Some.is))
