use Rattle.std.proofs.Common.{◌+◌, ◌≤◌, length, sym, subst, arith}
use Rattle.clauses.specs.declared.stretch.Stretch.{Stretch}
use Rattle.clauses.proofs.Laying.{no_stretch}
use Rattle.clauses.proofs.Fronts.{within}
use Rattle.clauses.proofs.book.ClauseBook.clause.Goals as goal

pub part_of-requires : goal.part_of-requires
part_of-requires c =
    let ls = c.as_slice-2.result.now in
    let here = c.in_ok-stretch.ensures.lookup in
    let w = within c.args.self.now ls c.as_slice.result.now c.as_slice-2.ensures c.as_slice.ensures c.args.index here.3.0 in
    subst (λ (s : Stretch). s.start + s.len ≤ length ls) (sym (here.4 (omega arith) no_stretch)) w.0
