use Rattle.std.proofs.Common.{◌≡◌, take}
use Rattle.writing.specs.Texts.{joined}
use Rattle.writing.specs.Buffers.{held}
use Rattle.writing.proofs.Rows.{numbers_text}
use Rattle.writing.proofs.TextOut.put_row.Given as goal

abbrev pub invariant-loop-number : goal.invariant-loop-number
invariant-loop-number g l = held l.self ≡ joined (held l.initial.self) (numbers_text g.I.Integer.text (take l.number-index l.numbers))
