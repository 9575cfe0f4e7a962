use Rattle.std.proofs.Common.{◌≡◌, true, take, drop}
use Rattle.assignments.specs.Literals.{all_met}
use Rattle.clauses.specs.Books.{clauses_of}
use Rattle.clauses.specs.Listing.{left}
use Rattle.propagation.specs.States.{Filled, Waiting}
use Rattle.propagation.proofs.scanning.scan.Given as goal

abbrev pub invariant-loop-index : goal.invariant-loop-index
invariant-loop-index l =
    let cs = clauses_of l.book in
    record {
      ahead : left l.index-iterator.iter ≡ drop l.index-iterator.count cs;
      met : Filled l.from l.assignment → all_met l.assignment (take l.index-iterator.count cs) ≡ true;
      first : Waiting l.from l.assignment cs l.index-iterator.count;
    }
