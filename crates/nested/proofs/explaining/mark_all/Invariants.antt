use Rattle.std.proofs.Common.{◌≡◌, ℕ, ◌<◌, get_or}
use Rattle.nested.specs.Completing.{IsMarked}
use Rattle.nested.proofs.explaining.mark_all.Given as goal

abbrev pub invariant-loop-atom : goal.invariant-loop-atom
invariant-loop-atom l =
    let before = l.fn.reason in
    let now = l.reason in
    record {
      of : now.assignment.now ≡ before.assignment.now;
      grows : (i : ℕ) → get_or before.marks i 0 ≡ 1 → get_or now.marks i 0 ≡ 1;
      each : (i : ℕ) → i < l.atom-index → IsMarked before.assignment.now (get_or l.atoms i 0) now.marks;
    }
