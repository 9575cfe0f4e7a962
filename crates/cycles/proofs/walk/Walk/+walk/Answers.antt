use Rattle.std.proofs.Common.{◌≡◌, true, false, get_or, set, sym, ap, ◌∙◌, subst, subst₂, arith}
use Rattle.vetoes.specs.Marks.{marked}
use Rattle.vetoes.specs.Verdicts.{ticked}
use Rattle.cycles.specs.Graphs.{no_arc, Chain, last}
use Rattle.cycles.specs.Walks.{Ends, Done}
use Rattle.cycles.proofs.WalkLaws.{restored, one_done, all_end, live_at, edge_marked, chain_marked, closes_here}
use Rattle.cycles.proofs.walk.Walk.+walk.Goals as goal

pub returns-then-self-to-clause-walked : goal.returns-then-self-to-clause-walked
returns-then-self-to-clause-walked t c =
    let w = c.args.self.now in
    let xs = w.arcs.now in
    let p = w.reason.assignment.now in
    let k = c.loop-arc.arc-index in
    let now = c.loop-arc.self in
    let x = get_or xs k no_arc in
    let same = c.loop-arc.invariant.1 in
    let on = live_at p _ x (c.assignment.ensures ∙ same) c.if-not-is_live.ensures in
    let marks : c.mark.new.self.marks ≡ marked p x.atom now.reason.marks = c.mark.ensures.marks ∙ ap (λ q. marked q x.atom now.reason.marks) same in
    let seen : get_or (set w.on c.args.at true) x.to false ≡ true = subst (λ l. get_or l x.to false ≡ true) c.loop-arc.invariant.2 c.if-self-to.true in
    closes_here xs p w.on now.on now.done _ c.args.at x.to c.closing.result c.closing.ensures seen
    (subst (λ m. Chain xs (ticked p m) c.args.at x.to) (sym marks) (last (edge_marked xs p k c.loop-arc-test.true c.args.at c.if-arc-at.false on now.reason.marks now.reason.known.long)))

pub returns-in-Closing-clause-walked : goal.returns-in-Closing-clause-walked
returns-in-Closing-clause-walked t c =
    let w = c.args.self.now in
    let xs = w.arcs.now in
    let p = w.reason.assignment.now in
    let k = c.loop-arc.arc-index in
    let s = c.in-Closing.signal in
    let now = c.walk.new.self in
    let x = get_or xs k no_arc in
    let same = c.loop-arc.invariant.1 in
    let on = live_at p _ x (c.assignment.ensures ∙ same) c.if-not-is_live.ensures in
    let marks : c.mark-in-Closing.new.self.marks ≡ marked p x.atom now.reason.marks = c.mark-in-Closing.ensures.marks ∙ ap (λ q. marked q x.atom now.reason.marks) (c.in-Closing.ensures.assignment ∙ same) in
    let seen : get_or (set w.on c.args.at true) s false ≡ true = subst (λ l. get_or l s false ≡ true) c.loop-arc.invariant.2 c.in-Closing.ensures.walked.0 in
    let chain = subst₂ (λ l q. Chain l (ticked q now.reason.marks) x.to s) c.loop-arc.invariant.0 same c.in-Closing.ensures.walked.1 in
    closes_here xs p w.on now.on now.done _ c.args.at s c.closing-in-Closing.result c.closing-in-Closing.ensures seen
    (subst (λ m. Chain xs (ticked p m) c.args.at s) (sym marks) (chain_marked xs p k c.loop-arc-test.true c.args.at c.if-arc-at.false on now.reason.marks now.reason.known.long s chain))

pub invariant_of-self-2 : goal.invariant_of-self-2
invariant_of-self-2 t c =
    let xs = c.args.self.now.arcs.now in
    let now = c.loop-arc.self in
    let q = now.reason.assignment.now in
    let here : Ends xs q c.args.at = all_end xs q c.args.at (λ k h. c.loop-arc.invariant.3 k (omega arith)) in
    record { sound = one_done now.arcs.now q now.done c.args.at now.sound (subst (λ l. Ends l q c.args.at) (sym c.loop-arc.invariant.0) here) }

pub returns-clause-walked : goal.returns-clause-walked
returns-clause-walked t c =
    let w = c.args.self.now in
    let xs = w.arcs.now in
    let now = c.loop-arc.self in
    let here = subst (λ q. Ends xs q c.args.at) c.loop-arc.invariant.1 (all_end xs now.reason.assignment.now c.args.at (λ k h. c.loop-arc.invariant.3 k (omega arith))) in (
      here,
      ap (λ l. set l c.args.at false) c.loop-arc.invariant.2 ∙ restored w.on c.args.at c.requires.fresh,
      one_done xs w.reason.assignment.now now.done c.args.at (subst₂ (λ l q. Done l q now.done) c.loop-arc.invariant.0 c.loop-arc.invariant.1 now.sound) here,
    )
