use Rattle.std.proofs.Common.{◌≡◌, ◌-◌, List}
use Rattle.listing.specs.Lines.{Said}
use Rattle.listing.specs.Standing.{Lists}
use Rattle.printing.proofs.SoFar.{line_limit, SoFar}
use Rattle.printing.proofs.print_listing.Given as goal

abbrev pub invariant-loop-turn : goal.invariant-loop-turn
invariant-loop-turn g l = record {
  meaning : g.V.Veto.means l.listing.session.veto ≡ g.V.Veto.means l.fn.listing.session.veto;
  so_far : (ls : List Said) → Lists (g.V.Veto.means l.fn.listing.session.veto) l.fn.listing.session.table l.fn.listing.progress ls → SoFar (g.V.Veto.means l.fn.listing.session.veto) l.listing.session.table l.listing.progress (g.W.Write.contents l.fn.out) (g.W.Write.contents l.out) (line_limit - l._turn) ls;
}
