use Rattle.std.proofs.Common.{eqb, length, get_or, ap, ◌∙◌, arith}
use Rattle.tables.specs.Items.{entries}
use Rattle.clauses.specs.declared.stretch.Stretch.{Stretch}
use Rattle.clauses.proofs.Laying.{no_stretch}
use Rattle.clauses.proofs.Fronts.{front_within}
use Rattle.clauses.proofs.book.ClauseBook.is_front.Goals as goal

pub returns-in-Some : goal.returns-in-Some
returns-in-Some c =
    let b = c.args.self.now in
    let k = c.args.to.clauses in
    let here = c.in-Some.ensures.lookup in
    ap (λ (s : Stretch). eqb s.start c.args.to.literals) (here.4 (omega arith) no_stretch ∙ ap (λ ss. get_or ss k no_stretch) c.as_slice.ensures)
    ∙ front_within (entries b.literals) (entries b.stretches) b.whole k c.args.to.literals (omega (arith, here.3.0, ap length c.as_slice.ensures))
