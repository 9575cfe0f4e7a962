use Rattle.std.proofs.Common.{◌≡◌, drop}
use Rattle.std.specs.List.{flat_map}
use Rattle.writing.specs.Texts.{joined}
use Rattle.writing.specs.Buffers.{held}
use Rattle.nestwrite.specs.Texts.{row_text}
use Rattle.nestwrite.proofs.rows.put_rows.Given as goal

abbrev pub invariant-loop-row : goal.invariant-loop-row
invariant-loop-row g l = joined (held l.out) (flat_map (λ x. row_text (g.R.FileRow.numbers x)) (drop l.row-index l.rows)) ≡ joined (held l.initial.out) (flat_map (λ x. row_text (g.R.FileRow.numbers x)) l.rows)
