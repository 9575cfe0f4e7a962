use Rattle.std.proofs.Common.{length, ap, ◌∙◌, subst, rules}
use Rattle.ledgers.specs.Law.{Lawful}
use Rattle.runs.specs.Histories.{history}
use Rattle.runs.proofs.Playing.{played_more, played_all}
use Rattle.runs.proofs.play.play.Goals as goal

pub loop-turn-preserved : goal.loop-turn-preserved
loop-turn-preserved g c = (
  c.apply-turn.ensures.meaning ∙ c.loop-turn.invariant.0,
  played_more _ _ _ _ _ _ _ _ _ c.loop-turn.invariant.0 c.loop-turn.invariant.1 (search rules) c.apply-turn.ensures.keeps c.apply-turn.ensures.arguments,
)

pub returns-clause-lawful : goal.returns-clause-lawful
returns-clause-lawful g c = subst (λ m. Lawful m (history (length c.args.turns.now) c.args.turns.now c.loop-turn.turn-items)) (ap g.V.Veto.means c.new-session.ensures.veto)
    (played_all _ c.args.turns.now _ c.loop-turn.turn-items c.loop-turn.turn-index c.loop-turn-test.false c.loop-turn.auto.turn-index-end c.loop-turn.invariant.1).0

pub returns-clause-stands : goal.returns-clause-stands
returns-clause-stands g c =
    (played_all _ c.args.turns.now _ c.loop-turn.turn-items c.loop-turn.turn-index c.loop-turn-test.false c.loop-turn.auto.turn-index-end c.loop-turn.invariant.1).1
