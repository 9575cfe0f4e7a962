-- Tokens by what a line asks of them. Assumes nothing.
use Rattle.std.specs.Prelude.{ℕ, Bool, true, false, cond, ◌&&◌, ◌||◌, List, Ok, Err, Some, None, codes, Option, Result, ◌==◌}
use Rattle.std.specs.Str.{bytes_eq}
use Rattle.refusals.specs.declared.Refusal.TheVariants.{BadNumber, BadHeading, BadBody}
use Rattle.lexer.specs.Scans.{Seen, word, numeral, line_end}
use Rattle.nestformat.specs.declared.faults.LineFault.{LineFault}
use Rattle.nestformat.specs.declared.kinds.BodyKind.{BodyKind}
use Rattle.nestformat.specs.declared.kinds.Heading.{Heading}
use Rattle.nestformat.specs.Limits.{Range, from_to, positive_within, map_limit, body_limit}
use Rattle.nestformat.specs.Kinds.{kind_named, same_kind}
use Rattle.nestformat.specs.Faults.{plain}
use Rattle.nestformat.specs.Due.{natural}

abbrev pub is_word : List ℕ → Seen → Bool
is_word w (word b) = bytes_eq b w
is_word w (numeral b z) = bytes_eq b w
is_word w line_end = false

-- no number
abbrev pub is_bad : Seen → Bool
is_bad (word b) = true
is_bad _ = false

abbrev pub is_end : Seen → Bool
is_end line_end = true
is_end _ = false

-- the kind that it names
abbrev pub kind_seen : Seen → Option BodyKind
kind_seen (word b) = kind_named b
kind_seen (numeral b z) = kind_named b
kind_seen line_end = None

-- a number within the range
abbrev pub ranged : Range → Seen → Option ℕ
ranged r (numeral b z) = cond (positive_within r z) (Some (natural z)) None
ranged r _ = None

abbrev pub heading_if : Bool → Option ℕ → Option ℕ → Result Heading LineFault
heading_if true (Some m) (Some k) = Ok (record { map = m; bodies = k })
heading_if _ _ _ = Err (plain BadHeading)

-- the heading by its first five tokens
abbrev pub heading_told : Seen → Seen → Seen → Seen → Seen → Result Heading LineFault
heading_told a b m k e =
    cond (is_bad m || is_bad k) (Err (plain BadNumber))
    (heading_if (is_word (codes "p") a && (is_word (codes "nest") b && is_end e)) (ranged (from_to 1 map_limit) m) (ranged (from_to 1 body_limit) k))

abbrev pub opening_if : Bool → Option BodyKind → Option ℕ → BodyKind → ℕ → Result Unit LineFault
opening_if true (Some k) (Some m) kind map = cond (same_kind k kind && m == map) (Ok tt) (Err (plain BadBody))
opening_if _ _ _ kind map = Err (plain BadBody)

-- whether the first four tokens open the body of that kind under that map
abbrev pub opening_told : Seen → Seen → Seen → Seen → BodyKind → ℕ → Result Unit LineFault
opening_told a k m e kind map =
    cond (is_bad m) (Err (plain BadNumber))
    (opening_if (is_word (codes "b") a && is_end e) (kind_seen k) (ranged (from_to 1 map_limit) m) kind map)
