use Rattle.worked_cases.proofs.Stand.{no_atoms, one_of_two, clause_between, nest_alone, order_over_nest, two_arcs, half_an_ampere, nest_over_nest}
use Rattle.worked_cases.proofs.cases.cases.Goals as goal

pub returns : goal.returns
returns c = record {
  no_atoms = no_atoms;
  one_of_two = one_of_two;
  clause_between = clause_between;
  nest_alone = nest_alone;
  order_over_nest = order_over_nest;
  two_arcs = two_arcs;
  half_an_ampere = half_an_ampere;
  nest_over_nest = nest_over_nest;
}
