-- The line of a fault. Assumes nothing.
use Rattle.std.specs.Prelude.{ℕ, List, [], ◌++◌, Option, Some, None, codes, decimal, encode_utf8}
use Rattle.refusals.specs.declared.Fault.{Fault}
use Rattle.refusals.specs.declared.Refusal.{Refusal}
use Rattle.refusals.specs.Refusals.{number_of, text_of}

-- the text of the cause after a comma; nothing where there is none
abbrev pub cause_text : Option Refusal → List ℕ
cause_text None = []
cause_text (Some r) = codes ", " ++ text_of r

-- number, line, letter of the body, text, and the cause
abbrev pub fault_text : Fault → List ℕ
fault_text f =
    codes "refused " ++ decimal (number_of f.refusal)
    ++ codes " line " ++ decimal f.line
    ++ codes " body " ++ encode_utf8 f.body
    ++ codes ": " ++ text_of f.refusal ++ cause_text f.cause
