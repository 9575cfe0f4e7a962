use Rattle.std.proofs.Common.{◌≡◌, true, length, take, sym, ap, ◌∙◌, subst}
use Rattle.tables.specs.Items.{entries}
use Rattle.assignments.specs.Literals.{all_in_range}
use Rattle.clauses.specs.Stretches.{laid, parts}
use Rattle.clauses.proofs.Laying.{lens, front_laid, front_parts}
use Rattle.clauses.proofs.Fronts.{ranged_take, front_lens}
use Rattle.clauses.proofs.book.ClauseBook.cut_back.Goals as goal

pub invariant_of-self : goal.invariant_of-self
invariant_of-self c =
    let b = c.args.self.now in
    let ls = entries b.literals in
    let ss = entries b.stretches in
    let k = c.args.to.clauses in
    let m = c.args.to.literals in
    let lits : entries c.truncate-2.new.self ≡ take m ls = c.truncate-2.ensures in
    let stretches : entries c.truncate.new.self ≡ take k ss = c.truncate.ensures in
    let e : m ≡ lens (take k ss) = front_lens ls ss b.whole k m c.if-not-is_front.ensures in
    record {
      few = b.few;
      ranged = subst (λ l. all_in_range b.atoms l ≡ true) (sym lits) (ranged_take b.atoms ls m b.ranged);
      whole = subst (λ l. laid 0 l (length (entries c.truncate-2.new.self)) ≡ true) (sym stretches)
          (subst (λ l. laid 0 (take k ss) (length l) ≡ true) (sym lits) (front_laid ss ls b.whole k m e));
    }

pub returns-clause-clauses : goal.returns-clause-clauses
returns-clause-clauses c =
    let b = c.args.self.now in
    let ls = entries b.literals in
    let ss = entries b.stretches in
    let k = c.args.to.clauses in
    let m = c.args.to.literals in
    let e : m ≡ lens (take k ss) = front_lens ls ss b.whole k m c.if-not-is_front.ensures in
    ap (λ l. parts l (entries c.truncate.new.self)) c.truncate-2.ensures ∙ ap (parts (take m ls)) c.truncate.ensures ∙ front_parts ss ls b.whole k m e
