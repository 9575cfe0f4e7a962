use Rattle.std.proofs.Common.{◌≡◌, ℕ, drop, get_or}
use Rattle.clauses.specs.Listing.{left}
use Rattle.nested.specs.Plans.{plan_in}
use Rattle.nested.proofs.Marking.{EachBacked}
use Rattle.nested.proofs.explaining.mark_supports.Given as goal

abbrev pub invariant-loop-clause : goal.invariant-loop-clause
invariant-loop-clause l =
    let before = l.fn.reason in
    let now = l.reason in
    let f = plan_in l.shape in
    record {
      of : now.assignment.now ≡ before.assignment.now;
      grows : (i : ℕ) → get_or before.marks i 0 ≡ 1 → get_or now.marks i 0 ≡ 1;
      done : (n : ℕ) × (left l.clause-iterator ≡ drop n f.clauses) × EachBacked before.assignment.now f.map l.values f.clauses n now.marks;
    }
