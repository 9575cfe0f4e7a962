-- The number and the text of each refusal, as users see them. Assumes nothing.
use Rattle.std.specs.Prelude.{ℕ, List, None, codes}
use Rattle.refusals.specs.declared.Fault.{Fault}
use Rattle.refusals.specs.declared.Refusal.{Refusal}
use Rattle.refusals.specs.declared.Refusal.TheVariants.{NotSized, BufferShort, CountOutOfRange, ReachOutOfRange, LiteralOutOfRange, ClauseTableFull, LiteralTableFull, ScopeTableFull, NoScope, TextTooLong, BadByte, BadNumber, BadHeading, BadContents, BadBody, RowRefused, BadEnd}

-- its place in the list
abbrev pub number_of : Refusal → ℕ
number_of NotSized = 1
number_of BufferShort = 2
number_of CountOutOfRange = 3
number_of ReachOutOfRange = 4
number_of LiteralOutOfRange = 5
number_of ClauseTableFull = 6
number_of LiteralTableFull = 7
number_of ScopeTableFull = 8
number_of NoScope = 9
number_of TextTooLong = 10
number_of BadByte = 11
number_of BadNumber = 12
number_of BadHeading = 13
number_of BadContents = 14
number_of BadBody = 15
number_of RowRefused = 16
number_of BadEnd = 17

abbrev pub text_of : Refusal → List ℕ
text_of NotSized = codes "not sized"
text_of BufferShort = codes "buffer short"
text_of CountOutOfRange = codes "count out of range"
text_of ReachOutOfRange = codes "reach out of range"
text_of LiteralOutOfRange = codes "literal out of range"
text_of ClauseTableFull = codes "clause table full"
text_of LiteralTableFull = codes "literal table full"
text_of ScopeTableFull = codes "scope table full"
text_of NoScope = codes "no scope"
text_of TextTooLong = codes "text too long"
text_of BadByte = codes "bad byte"
text_of BadNumber = codes "bad number"
text_of BadHeading = codes "bad heading"
text_of BadContents = codes "bad contents"
text_of BadBody = codes "bad body"
text_of RowRefused = codes "row refused"
text_of BadEnd = codes "bad end"

-- the fault of a refusal outside a text: no cause, no line, and a minus (45) for the body
abbrev pub outside : Refusal → Fault
outside e = record { refusal = e; cause = None; line = 0; body = 45 }
