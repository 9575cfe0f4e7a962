use Rattle.std.proofs.Common.{◌≡◌, drop}
use Rattle.std.specs.List.{flat_map}
use Rattle.writing.specs.Texts.{joined}
use Rattle.writing.specs.Buffers.{held}
use Rattle.nestwrite.specs.Texts.{contents_text}
use Rattle.nestwrite.proofs.problems.put_contents.Given as goal

abbrev pub invariant-loop-entry : goal.invariant-loop-entry
invariant-loop-entry l = joined (held l.out) (flat_map contents_text (drop l.entry-index l.entries)) ≡ joined (held l.initial.out) (flat_map contents_text l.entries)
