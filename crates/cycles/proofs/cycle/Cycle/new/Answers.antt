use Rattle.cycles.specs.Warshall.{cyclic_decides}
use Rattle.cycles.proofs.cycle.Cycle.new.Goals as goal

pub returns-clause-speaks : goal.returns-clause-speaks
returns-clause-speaks g c = cyclic_decides (g.S.Lent.items c.args.arcs)
