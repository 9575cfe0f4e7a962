use Rattle.vetoes.proofs.Marking.{blank_replicate}
use Rattle.vetoes.proofs.marks.blank_marks.Goals as goal

pub returns-clause-blank : goal.returns-clause-blank
returns-clause-blank c = blank_replicate 200
