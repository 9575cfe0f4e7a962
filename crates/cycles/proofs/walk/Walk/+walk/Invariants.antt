use Rattle.std.proofs.Common.{◌≡◌, ℕ, ◌<◌, get_or}
use Rattle.assignments.specs.Assignments.{atom}
use Rattle.cycles.specs.Arcs.{counted_arc}
use Rattle.cycles.specs.Graphs.{no_arc}
use Rattle.cycles.specs.Walks.{Ends}
use Rattle.cycles.proofs.WalkLaws.{free}
use Rattle.cycles.proofs.walk.Walk.+walk.Given as goal

abbrev pub decreases-walk : goal.decreases-walk
decreases-walk l = free l.self.now.on

abbrev pub invariant-loop-arc : goal.invariant-loop-arc
invariant-loop-arc l = (l.self.arcs.now ≡ l.initial.self.arcs.now)
    × (l.self.reason.assignment.now ≡ l.initial.self.reason.assignment.now)
    × (l.self.on ≡ l.initial.self.on)
    × ((k : ℕ) → k < l.arc-index → (get_or l.arc-items k no_arc).from ≡ l.at → atom l.self.reason.assignment.now (counted_arc (get_or l.arc-items k no_arc)) ≡ 1 → Ends l.arc-items l.self.reason.assignment.now (get_or l.arc-items k no_arc).to)
