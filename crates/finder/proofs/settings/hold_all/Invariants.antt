use Rattle.std.proofs.Common.{◌≡◌, ℕ, [], true}
use Rattle.clauses.specs.Books.{clauses_of}
use Rattle.clauses.specs.Listing.{left}
use Rattle.session.specs.Standing.{Stands}
use Rattle.finder.specs.Fitting.{fit}
use Rattle.finder.specs.Sessions.{started}
use Rattle.finder.proofs.Holding.{HeldSoFar}
use Rattle.finder.proofs.settings.hold_all.Given as goal

abbrev pub invariant-loop-clause : goal.invariant-loop-clause
invariant-loop-clause g l = record {
  meaning : g.V.Veto.means l.session.veto ≡ g.V.Veto.means l.fn.session.veto;
  held : (n : ℕ) → Stands l.fn.session.table (started n []) → fit n [] (clauses_of l.book) ≡ true → HeldSoFar n l.session.table (clauses_of l.book) (left l.clause-iterator);
}
