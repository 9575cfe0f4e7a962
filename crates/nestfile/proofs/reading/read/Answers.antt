use Rattle.nestfile.proofs.Outcomes.{accepted, faulty, spelt_ok, spelt_err}
use Rattle.nestfile.specs.Problems.{told}
use Rattle.nestfile.proofs.reading.read.Goals as goal

pub returns-in-Ok-clause-accepted : goal.returns-in-Ok-clause-accepted
returns-in-Ok-clause-accepted c = accepted c.args.text.now c.in-Ok.found c.in-Ok.ensures

pub returns-in-Ok-clause-spelt : goal.returns-in-Ok-clause-spelt
returns-in-Ok-clause-spelt c = spelt_ok {T = Unit {0}} tt c.args.text.now c.in-Ok.found c.in-Ok.ensures

pub returns-in-Err-clause-spelt : goal.returns-in-Err-clause-spelt
returns-in-Err-clause-spelt c = spelt_err (Unit {0}) c.args.text.now c.in-Err.fault (told c.empty.result) c.in-Err.ensures

pub returns-in-Err-clause-refused : goal.returns-in-Err-clause-refused
returns-in-Err-clause-refused c = faulty c.args.text.now c.in-Err.fault c.in-Err.ensures
