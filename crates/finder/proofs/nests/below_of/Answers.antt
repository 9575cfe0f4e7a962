use Rattle.std.proofs.Common.{◌≡◌, Some, None, refl, ap, ◌∙◌, rules}
use Rattle.tables.specs.Items.{entries}
use Rattle.clauses.specs.Books.{clauses_of}
use Rattle.nested.specs.Plans.{plan_of}
use Rattle.vetoes.specs.Meaning.{silent}
use Rattle.nestformat.specs.declared.kinds.BodyKind.TheVariants.{Below}
use Rattle.nestfile.specs.Problems.{told}
use Rattle.nestformat.specs.Bodies.{body_at}
use Rattle.finder.specs.Fitting.{with_all}
use Rattle.finder.proofs.Entries.{entry_missing}
use Rattle.finder.proofs.Fits.{below_described, named}
use Rattle.finder.proofs.Vetoes.{nest_is, nest_missing, not_refused_over}
use Rattle.finder.proofs.Told.{entry_is}
use Rattle.finder.proofs.nests.below_of.Goals as goal

pub returns-in_default : goal.returns-in_default
returns-in_default c =
    let h = c.args.problem.now in
    let none : c.entry_of.result ≡ None = search rules in
    nest_missing (body_at Below (told h).bodies) (plan_of c.new.result.shape) silent silent
    (entry_missing h Below (entry_is h Below c.contents.result.now c.entry_of.result None c.contents.ensures c.entry_of.ensures none)) c.new.ensures.plan

pub returns : goal.returns
returns c =
    let h = c.args.problem.now in
    let e = c.in-Some.entry in
    let b = c.in-Some-below.body.now in
    let d = below_described h e b (entry_is h Below c.contents.result.now c.entry_of.result (Some e) c.contents.ensures c.entry_of.ensures c.in-Some.is) c.in-Some-below.ensures.rows in
    let fits = not_refused_over (body_at Below (told h).bodies) 0 0 e.own (entries b.map) c.as_slice.result.now (clauses_of b.book) d refl c.as_slice.ensures in
    nest_is (body_at Below (told h).bodies) 0 e.own (entries b.map) (clauses_of b.book) (plan_of c.in-Ok.nest.shape) silent silent d
    (c.in-Ok.ensures.plan fits.0 fits.1 ∙ ap (λ m. Some (with_all m e.own (clauses_of b.book))) c.as_slice.ensures) refl

pub unreachable-requires : goal.unreachable-requires
unreachable-requires c =
    let h = c.args.problem.now in
    let e = c.in-Some.entry in
    named h Below e (entry_is h Below c.contents.result.now c.entry_of.result (Some e) c.contents.ensures c.entry_of.ensures c.in-Some.is) c.in_default-below.ensures.there

pub unreachable-requires-in-Err : goal.unreachable-requires-in-Err
unreachable-requires-in-Err c =
    let h = c.args.problem.now in
    let e = c.in-Some.entry in
    let b = c.in-Some-below.body.now in
    let d = below_described h e b (entry_is h Below c.contents.result.now c.entry_of.result (Some e) c.contents.ensures c.entry_of.ensures c.in-Some.is) c.in-Some-below.ensures.rows in
    let fits = not_refused_over (body_at Below (told h).bodies) 0 0 e.own (entries b.map) c.as_slice.result.now (clauses_of b.book) d refl c.as_slice.ensures in
    c.in-Err.ensures.plan fits.0 fits.1
