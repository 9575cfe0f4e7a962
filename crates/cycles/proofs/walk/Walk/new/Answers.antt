use Rattle.std.proofs.lemmas.Bool.{both_ways}
use Rattle.cycles.proofs.WalkLaws.{none_replicate}
use Rattle.cycles.proofs.walk.Walk.new.Goals as goal

pub invariant_of-result : goal.invariant_of-result
invariant_of-result c = record { sound = λ s h. absurd (both_ways _ (none_replicate 65 s) h) }

pub returns-clause-none_on : goal.returns-clause-none_on
returns-clause-none_on c = none_replicate 65
