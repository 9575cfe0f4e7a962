-- What an iterator over a book's clauses has left. Assumes nothing.
use Rattle.std.specs.Prelude.{List, drop, ℤ}
use Rattle.clauses.specs.declared.listing.Clauses.{Clauses}
use Rattle.clauses.specs.Books.{clauses_of}

abbrev pub left : Clauses → List (List ℤ)
left s = drop s.index (clauses_of s.book.now)
