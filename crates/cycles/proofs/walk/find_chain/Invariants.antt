use Rattle.std.proofs.Common.{◌≡◌, ℕ, ◌<◌, ◌≤◌, false, get_or}
use Rattle.cycles.specs.Walks.{Ends}
use Rattle.cycles.proofs.walk.find_chain.Given as goal

abbrev pub invariant-loop-at : goal.invariant-loop-at
invariant-loop-at l = (l.walk.arcs.now ≡ l.arcs)
    × (l.walk.reason.assignment.now ≡ l.assignment)
    × ((s : ℕ) → get_or l.walk.on s false ≡ false)
    × ((s : ℕ) → 1 ≤ s → s < l.at → Ends l.arcs l.assignment s)
