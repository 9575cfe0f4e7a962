use Rattle.std.proofs.Common.{◌≡◌}
use Rattle.runs.proofs.Playing.{Played}
use Rattle.runs.proofs.play.play.Given as goal

abbrev pub invariant-loop-turn : goal.invariant-loop-turn
invariant-loop-turn g l = (g.V.Veto.means l.session.veto ≡ g.V.Veto.means l.initial.session.veto)
    × Played (g.V.Veto.means l.initial.session.veto) l.session.table l.initial.turn-items l.turn-items l.turn-index
