use Rattle.std.proofs.Common.{◌≡◌, true, false, arith}
use Rattle.std.proofs.lemmas.Grind.{common_steps}
use Rattle.std.proofs.lemmas.Bool.Decides.{Decides-at}
use Rattle.assignments.specs.Literals.{all_met}
use Rattle.clauses.specs.Books.{clauses_of}
use Rattle.clauses.proofs.Fronts.{within}
use Rattle.clauses.proofs.Evaluating.{met_decides}
use Rattle.clauses.proofs.book.ClauseBook.is_met_by.Goals as goal

pub part_of-literal-items-requires : goal.part_of-literal-items-requires
part_of-literal-items-requires c =
    let w = within c.args.self.now c.as_slice-literals.result.now c.as_slice-stretch-items.result.now c.as_slice-literals.ensures c.as_slice-stretch-items.ensures c.clauses.stretch-index c.clauses-test.true in
    omega (arith, w.0)

pub returns-in-clauses-clause-decides : goal.returns-in-clauses-clause-decides
returns-in-clauses-clause-decides c =
    let p = c.args.assignment.now in
    let cs = clauses_of c.args.self.now in
    let is : false ≡ all_met p cs = grind (arith, common_steps) in
    Decides-at false (all_met p cs) is (met_decides p cs)

pub returns-clause-decides : goal.returns-clause-decides
returns-clause-decides c =
    let p = c.args.assignment.now in
    let cs = clauses_of c.args.self.now in
    let is : true ≡ all_met p cs = grind (arith, common_steps) in
    Decides-at true (all_met p cs) is (met_decides p cs)
