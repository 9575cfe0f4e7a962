use Rattle.std.proofs.Common.{◌≡◌, length}
use Rattle.clauses.specs.Books.{clauses_of}
use Rattle.search.specs.Completions.{Allowed}
use Rattle.seeking.specs.Choosing.{Clashed}
use Rattle.seeking.proofs.Shrinking.{Shrunk}
use Rattle.seeking.proofs.cores.minimize.Given as goal

abbrev pub invariant-loop-index : goal.invariant-loop-index
invariant-loop-index g l = record {
  meaning : g.V.Veto.means l.veto ≡ g.V.Veto.means l.initial.veto;
  shrunk : Clashed (Allowed (clauses_of l.book) (g.V.Veto.means l.initial.veto).speaks) (length l.initial.work) l.assumed l.initial.ticks → Shrunk (Allowed (clauses_of l.book) (g.V.Veto.means l.initial.veto).speaks) (length l.initial.work) l.assumed l.initial.ticks l.ticks l.index;
}
