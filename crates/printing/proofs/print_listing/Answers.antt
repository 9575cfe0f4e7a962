use Rattle.std.proofs.Common.{◌≡◌, ◌+◌, ◌-◌, suc, refl, ◌∙◌, subst, Some, arith}
use Rattle.listing.specs.Lines.{said}
use Rattle.listing.specs.Standing.{Gives}
use Rattle.printing.proofs.SoFar.{line_limit, none_yet, one_more}
use Rattle.printing.proofs.print_listing.Goals as goal

pub loop-turn-init : goal.loop-turn-init
loop-turn-init g c = record {
  meaning = refl;
  so_far = λ ls w. none_yet _ c.args.listing.now.session.table c.args.listing.now.progress _ ls w;
}

pub loop-turn-preserved : goal.loop-turn-preserved
loop-turn-preserved g c =
    let before = c.loop-turn.listing in
    let after = c.next_line.new.self in
    let turns : line_limit - c.loop-turn._turn ≡ suc (line_limit - (c.loop-turn._turn + 1)) = omega (arith, c.loop-turn-test.true) in
    let gives : Gives (g.V.Veto.means c.args.listing.now.session.veto) before.session.table after.session.table before.progress after.progress (Some (said c.in-Some.line)) =
    subst (λ m. Gives m before.session.table after.session.table before.progress after.progress (Some (said c.in-Some.line))) c.loop-turn.invariant.meaning c.in-Some.ensures.gives in
    record {
      meaning = c.next_line.ensures.meaning ∙ c.loop-turn.invariant.meaning;
      so_far = λ ls w. one_more (g.V.Veto.means c.args.listing.now.session.veto) before.session.table after.session.table before.progress after.progress (g.W.Write.contents c.args.out.now) (g.W.Write.contents c.loop-turn.out) (g.W.Write.contents c.writeln.new.self) _ _ ls (said c.in-Some.line) turns gives c.in_ok-writeln.ensures.bytes (c.loop-turn.invariant.so_far ls w);
    }
