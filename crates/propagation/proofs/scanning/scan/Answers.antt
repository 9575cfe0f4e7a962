use Rattle.std.proofs.Common.{◌≡◌, ◌⊎◌, inl, inr, true, [], take, drop, ⊎_elim, subst, sym, ap, ◌∙◌}
use Rattle.assignments.specs.Literals.{met, all_met}
use Rattle.clauses.specs.Books.{clauses_of}
use Rattle.clauses.specs.Listing.{left}
use Rattle.propagation.specs.States.{Filled, Told, TwoOpen, Waiting}
use Rattle.propagation.specs.declared.scanning.State.TheVariants.{Met, Undecided}
use Rattle.propagation.proofs.ClauseSteps.{all_more, two_not_filled, waiting_more}
use Rattle.propagation.proofs.Listed.{first_left}
use Rattle.propagation.proofs.scanning.scan.Goals as goal

pub loop-index-preserved : goal.loop-index-preserved
loop-index-preserved c =
    let p = c.args.assignment.now in
    let cs = clauses_of c.args.book.now in
    let n = c.loop-index.index-iterator.count in
    let s = c.in-Some.ensures.steps in
    let t = first_left cs n [] c.in-Some.clause.now (left c.next.new.self.iter) (sym c.loop-index.invariant.ahead ∙ s.0) in
    let here : (met p c.in-Some.clause.now ≡ true) ⊎ TwoOpen c.args.from p c.in-Some.clause.now = ⊎_elim
    (λ (e : c.state_of.result ≡ Met). inl (subst (Told c.args.from p c.in-Some.clause.now) e c.state_of.ensures))
    (λ (e : c.state_of.result ≡ Undecided). inr (subst (Told c.args.from p c.in-Some.clause.now) e c.state_of.ensures))
    c.in-Met.is in
    let full_met : Filled c.args.from p → met p c.in-Some.clause.now ≡ true = λ full. ⊎_elim (λ e. e) (λ o. absurd (two_not_filled _ _ _ o full)) here in
    record {
      ahead = sym t.2 ∙ ap (λ k. drop k cs) (sym s.2);
      met = λ full. subst (λ k. all_met p (take k cs) ≡ true) (sym s.2) (all_more p cs n t.0 (c.loop-index.invariant.met full) (ap (met p) t.1 ∙ full_met full));
      first = subst (Waiting c.args.from p cs) (sym s.2) (waiting_more _ _ cs n c.loop-index.invariant.first (subst (λ z. (met p z ≡ true) ⊎ TwoOpen c.args.from p z) (sym t.1) here));
    }
