use Rattle.std.proofs.Common.{◌≡◌, Some, None, ap, ◌∙◌, rules}
use Rattle.tables.specs.Items.{entries}
use Rattle.clauses.specs.Books.{clauses_of}
use Rattle.nested.specs.Nests.{nest_means}
use Rattle.nested.specs.Plans.{plan_of}
use Rattle.vetoes.specs.Meaning.{Meaning, silent}
use Rattle.nestformat.specs.declared.kinds.BodyKind.TheVariants.{Nest}
use Rattle.nestfile.specs.Problems.{told}
use Rattle.nestformat.specs.Bodies.{body_at}
use Rattle.finder.specs.Meanings.{below_means}
use Rattle.finder.specs.Fitting.{with_all}
use Rattle.finder.proofs.Entries.{entry_missing}
use Rattle.finder.proofs.Fits.{nest_described, named}
use Rattle.finder.proofs.Vetoes.{nest_is, nest_missing, not_refused_over}
use Rattle.finder.proofs.Told.{entry_is}
use Rattle.finder.proofs.nests.nests_of.Goals as goal

pub returns-in_default : goal.returns-in_default
returns-in_default c =
    let h = c.args.problem.now in
    let none : c.entry_of.result ≡ None = search rules in
    nest_missing (body_at Nest (told h).bodies) (plan_of c.new.result.shape) _ (below_means (told h))
    (entry_missing h Nest (entry_is h Nest c.contents.result.now c.entry_of.result None c.contents.ensures c.entry_of.ensures none)) c.new.ensures.plan

pub returns : goal.returns
returns c =
    let h = c.args.problem.now in
    let e = c.in-Some.entry in
    let b = c.in-Some-nest.body.now in
    let d = nest_described h e b (entry_is h Nest c.contents.result.now c.entry_of.result (Some e) c.contents.ensures c.entry_of.ensures c.in-Some.is) c.in-Some-nest.ensures.rows in
    let under : nest_means (plan_of c.in-Ok.nest.below.shape) silent ≡ below_means (told h) = rw c.in-Ok.ensures.below c.below_of-below.ensures in
    let fits = not_refused_over (body_at Nest (told h).bodies) _ (below_means (told h)).reach e.own (entries b.map) c.as_slice.result.now (clauses_of b.book) d (ap (λ (x : Meaning). x.reach) c.below_of-below.ensures) c.as_slice.ensures in
    nest_is (body_at Nest (told h).bodies) (below_means (told h)).reach e.own (entries b.map) (clauses_of b.book) (plan_of c.in-Ok.nest.shape) (nest_means (plan_of c.in-Ok.nest.below.shape) silent) (below_means (told h)) d
    (c.in-Ok.ensures.plan fits.0 fits.1 ∙ ap (λ m. Some (with_all m e.own (clauses_of b.book))) c.as_slice.ensures) under

pub unreachable-requires : goal.unreachable-requires
unreachable-requires c =
    let h = c.args.problem.now in
    let e = c.in-Some.entry in
    named h Nest e (entry_is h Nest c.contents.result.now c.entry_of.result (Some e) c.contents.ensures c.entry_of.ensures c.in-Some.is) c.in_default-nest.ensures.there

pub unreachable-requires-in-Err : goal.unreachable-requires-in-Err
unreachable-requires-in-Err c =
    let h = c.args.problem.now in
    let e = c.in-Some.entry in
    let b = c.in-Some-nest.body.now in
    let d = nest_described h e b (entry_is h Nest c.contents.result.now c.entry_of.result (Some e) c.contents.ensures c.entry_of.ensures c.in-Some.is) c.in-Some-nest.ensures.rows in
    let fits = not_refused_over (body_at Nest (told h).bodies) _ (below_means (told h)).reach e.own (entries b.map) c.as_slice.result.now (clauses_of b.book) d (ap (λ (x : Meaning). x.reach) c.below_of-below.ensures) c.as_slice.ensures in
    c.in-Err.ensures.plan fits.0 fits.1
