use Rattle.std.proofs.Common.{◌≡◌, ℕ, ◌+◌, List, [], length, true, Some}
use Rattle.clauses.specs.Books.{clauses_of}
use Rattle.clauses.specs.Listing.{left}
use Rattle.nested.specs.Plans.{plan_of}
use Rattle.nested.specs.Shaping.{shaped}
use Rattle.finder.specs.Fitting.{fit}
use Rattle.finder.proofs.Vetoes.{AddedSoFar}
use Rattle.finder.proofs.nests.add_all.Given as goal

abbrev pub invariant-loop-clause : goal.invariant-loop-clause
invariant-loop-clause g l = record {
  below : l.nest.below ≡ l.fn.nest.below;
  added : (m : List ℕ) (k : ℕ) → plan_of l.fn.nest.shape ≡ Some (shaped m k) → fit (length m + k) [] (clauses_of l.book) ≡ true → AddedSoFar m k (plan_of l.nest.shape) (clauses_of l.book) (left l.clause-iterator);
}
