-- A line of the contents by its tokens. Assumes nothing.
use Rattle.std.specs.Prelude.{Bool, true, cond, ◌&&◌, ◌||◌, List, ℤ, Ok, Err, Some, None, codes, Option, Result, nat_le}
use Rattle.refusals.specs.declared.Refusal.TheVariants.{BadNumber, BadContents, CountOutOfRange}
use Rattle.assignments.specs.Limits.{atom_limit}
use Rattle.lexer.specs.Scans.{Seen, numeral}
use Rattle.nestformat.specs.declared.faults.LineFault.{LineFault}
use Rattle.nestformat.specs.declared.kinds.BodyKind.{BodyKind}
use Rattle.nestformat.specs.declared.kinds.Contents.{Contents}
use Rattle.nestformat.specs.Limits.{Range, from_to, positive_within}
use Rattle.nestformat.specs.Kinds.{size_range, own_range, rows_range, atoms_told, atoms_in}
use Rattle.nestformat.specs.Faults.{plain, caused}
use Rattle.nestformat.specs.Due.{natural, in_order}
use Rattle.nestformat.specs.Reading.{over_atoms}
use Rattle.nestlines.specs.declared.ranges.Span.{Span}
use Rattle.nestlines.specs.Tokens.{is_word, is_bad, is_end, kind_seen}

abbrev pub told_range : Span → Range
told_range s = from_to s.low s.high

abbrev pub entry_said : BodyKind → ℤ → ℤ → ℤ → Contents
entry_said k a b r = record { kind = k; size = natural a; own = natural b; rows = natural r }

-- each number is in its range
abbrev pub entry_fits : BodyKind → ℤ → ℤ → ℤ → Bool
entry_fits k a b r = positive_within (size_range k) a && (positive_within (own_range k) b && (positive_within (rows_range k) r && nat_le (atoms_in (entry_said k a b r)) atom_limit))

abbrev pub entry_told : BodyKind → ℤ → ℤ → ℤ → Option Contents
entry_told k a b r = cond (entry_fits k a b r) (Some (entry_said k a b r)) None

abbrev pub contents_fault_told : BodyKind → ℤ → ℤ → LineFault
contents_fault_told k a b = cond (over_atoms (atoms_told k a b)) (caused BadContents CountOutOfRange) (plain BadContents)

-- the entry after others, or its fault
abbrev pub right_or_fault : BodyKind → ℤ → ℤ → ℤ → List Contents → Result Contents LineFault
right_or_fault k a b r es = cond (entry_fits k a b r && in_order k es) (Ok (entry_said k a b r)) (Err (contents_fault_told k a b))

-- the number that it is
abbrev pub value_seen : Seen → Option ℤ
value_seen (numeral b z) = Some z
value_seen _ = None

abbrev pub contents_if : Bool → Option BodyKind → Option ℤ → Option ℤ → Option ℤ → List Contents → Result Contents LineFault
contents_if true (Some k) (Some a) (Some b) (Some r) es = right_or_fault k a b r es
contents_if _ _ _ _ _ es = Err (plain BadContents)

-- the entry by its first six tokens
abbrev pub contents_told : Seen → Seen → Seen → Seen → Seen → Seen → List Contents → Result Contents LineFault
contents_told f k a b r l es =
    cond (is_bad a || (is_bad b || is_bad r)) (Err (plain BadNumber))
    (contents_if (is_word (codes "t") f && is_end l) (kind_seen k) (value_seen a) (value_seen b) (value_seen r) es)
