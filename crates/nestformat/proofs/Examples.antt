-- The definitions, at texts. Assumes nothing.
use Rattle.std.proofs.Common.{◌≡◌, ℕ, true, List, [], ◌∷◌, ◌++◌, replicate, pos, negsuc, Some, None, Ok, Err, codes, Option, Result, flat_map, refl, is_ok, arith}
use Rattle.std.specs.Fmt.{digits}
use Rattle.refusals.specs.declared.Fault.{Fault}
use Rattle.refusals.specs.declared.Refusal.{Refusal}
use Rattle.refusals.specs.declared.Refusal.TheVariants.{CountOutOfRange, LiteralOutOfRange, ClauseTableFull, LiteralTableFull, TextTooLong, BadByte, BadNumber, BadHeading, BadContents, BadBody, RowRefused, BadEnd}
use Rattle.nestformat.specs.declared.kinds.BodyKind.TheVariants.{Outer, Nest, Below, Loop, Milliamperes, Lines}
use Rattle.nestformat.specs.Items.{Item, Problem, items_of}
use Rattle.nestformat.specs.Due.{start}
use Rattle.nestformat.specs.Reading.{reading, written, whole}
use Rattle.nestformat.specs.Earliest.{TooManyAtoms}

-- a problem with each kind of body, and a text of it
abbrev sample : Problem
sample = record {
  map = 200;
  bodies =
      record { contents = record { kind = Outer; size = 3; own = 0; rows = 2 }; rows = (pos 1 ∷ pos 2 ∷ []) ∷ (negsuc 2 ∷ []) ∷ [] }
      ∷ record { contents = record { kind = Loop; size = 4; own = 0; rows = 1 }; rows = (pos 1 ∷ pos 4 ∷ pos 2 ∷ []) ∷ [] }
      ∷ record { contents = record { kind = Nest; size = 2; own = 1; rows = 3 }; rows = (pos 1 ∷ pos 3 ∷ []) ∷ (pos 1 ∷ negsuc 2 ∷ []) ∷ [] ∷ [] }
      ∷ record { contents = record { kind = Milliamperes; size = 500; own = 0; rows = 2 }; rows = (pos 1 ∷ pos 60000 ∷ []) ∷ (pos 1 ∷ pos 200 ∷ []) ∷ [] }
      ∷ record { contents = record { kind = Below; size = 1; own = 0; rows = 2 }; rows = (pos 3 ∷ []) ∷ (pos 1 ∷ []) ∷ [] }
      ∷ record { contents = record { kind = Lines; size = 16; own = 0; rows = 1 }; rows = (pos 2 ∷ pos 65535 ∷ []) ∷ [] }
      ∷ [];
}

abbrev text : List ℕ
text = codes "p nest 200 6\nc any\ttext\n t  o 3 0 2\n\nt l 4 0 1\nt n 2 1 3\nt d 500 0 2\nt m 1 0 2\nt w 16 0 1\n  cat\nb o 200\n1 2 0\n-3 0\nb l 200\n1 4 2 0\nb n 200\n1 3 0\n1  -3   0  \n0\nb d 200\n1 60000 0\n1 200 0\nb m 200\n3 0\n1 0\nb w 200\n2 65535 0\nc\u{1}"

pub accepted : reading text ≡ Ok (items_of sample)
unfolding digits
accepted = refl

pub right : whole start (items_of sample) ≡ true
unfolding digits
right = refl

pub as_written : written (items_of sample) ≡ codes "p nest 200 6\nt o 3 0 2\nt l 4 0 1\nt n 2 1 3\nt d 500 0 2\nt m 1 0 2\nt w 16 0 1\nb o 200\n1 2 0\n-3 0\nb l 200\n1 4 2 0\nb n 200\n1 3 0\n1 -3 0\n0\nb d 200\n1 60000 0\n1 200 0\nb m 200\n3 0\n1 0\nb w 200\n2 65535 0\n"
unfolding digits
as_written = refl

abbrev refused : Refusal → Option Refusal → ℕ → ℕ → Result (List Item) Fault
refused r c l b = Err (record { refusal = r; cause = c; line = l; body = b })

-- the heading

pub no_line : reading [] ≡ refused BadEnd None 1 45
unfolding digits
no_line = refl

pub only_comments : reading (codes "c\n\n   \n") ≡ refused BadEnd None 4 45
unfolding digits
only_comments = refl

pub number_in_a_wrong_heading : reading (codes "p net 200 x\n") ≡ refused BadNumber None 1 45
unfolding digits
number_in_a_wrong_heading = refl

pub past_the_numbers : reading (codes "p nest 200 2 x\n") ≡ refused BadHeading None 1 45
unfolding digits
past_the_numbers = refl

pub no_nest : reading (codes "pnest 200 2\n") ≡ refused BadHeading None 1 45
unfolding digits
no_nest = refl

pub needless_zero : reading (codes "p nest 0200 2\n") ≡ refused BadNumber None 1 45
unfolding digits
needless_zero = refl

pub map_zero : reading (codes "p nest 0 2\n") ≡ refused BadHeading None 1 45
unfolding digits
map_zero = refl

pub seven_bodies : reading (codes "p nest 1 7\n") ≡ refused BadHeading None 1 45
unfolding digits
seven_bodies = refl

pub row_before_the_heading : reading (codes "c\n1x\n") ≡ refused BadHeading None 2 45
unfolding digits
row_before_the_heading = refl

pub tab_before_the_heading : reading (codes "\t\n") ≡ refused BadByte None 1 45
unfolding digits
tab_before_the_heading = refl

-- the contents

pub many_atoms : reading (codes "p nest 1 1\nt o 201 7 600\n") ≡ refused BadContents (Some CountOutOfRange) 2 45
unfolding digits
many_atoms = refl

pub many_own_atoms : reading (codes "p nest 1 2\nt o 0 0 0\nt n 200 1 1\n") ≡ refused BadContents (Some CountOutOfRange) 3 45
unfolding digits
many_own_atoms = refl

pub few_atoms : reading (codes "p nest 1 2\nt o 0 0 0\nt n 201 -1 1\n") ≡ refused BadContents None 3 45
unfolding digits
few_atoms = refl

pub many_atoms_before_nest : reading (codes "p nest 1 2\nt o 0 0 0\nt m 150 51 0\n") ≡ refused BadContents (Some CountOutOfRange) 3 45
unfolding digits
many_atoms_before_nest = refl

pub many_signals : reading (codes "p nest 1 2\nt o 0 0 0\nt l 201 0 0\n") ≡ refused BadContents None 3 45
unfolding digits
many_signals = refl

pub many_atoms_and_tokens : reading (codes "p nest 1 1\nt o 201 0 0 0\n") ≡ refused BadContents None 2 45
unfolding digits
many_atoms_and_tokens = refl

pub many : TooManyAtoms (codes "t" ∷ codes "n" ∷ codes "200" ∷ codes "1" ∷ codes "-7" ∷ [])
unfolding digits
many = record { kind = Nest; numerals = codes "200" ∷ codes "1" ∷ codes "-7" ∷ []; size = pos 200; own = pos 1; rows = negsuc 6; atoms = 201; tokened = refl; numbers = refl; told = refl; many = omega arith }

pub many_rows : reading (codes "p nest 1 1\nt o 200 0 501\n") ≡ refused BadContents None 2 45
unfolding digits
many_rows = refl

pub number_of_no_kind : reading (codes "p nest 1 1\nt z 1 y 1\n") ≡ refused BadNumber None 2 45
unfolding digits
number_of_no_kind = refl

pub no_kind : reading (codes "p nest 1 1\nt 5 1 0 0\n") ≡ refused BadContents None 2 45
unfolding digits
no_kind = refl

pub too_few_numbers : reading (codes "p nest 1 1\nt o x\n") ≡ refused BadNumber None 2 45
unfolding digits
too_few_numbers = refl

pub below_before_nest : reading (codes "p nest 1 3\nt o 1 0 0\nt m 1 0 1\nt n 1 0 1\n") ≡ refused BadContents None 3 45
unfolding digits
below_before_nest = refl

pub kind_twice : reading (codes "p nest 1 2\nt o 1 0 0\nt o 1 0 0\n") ≡ refused BadContents None 3 45
unfolding digits
kind_twice = refl

pub not_first : reading (codes "p nest 1 2\nt l 1 0 0\nt o 1 0 0\n") ≡ refused BadContents None 2 45
unfolding digits
not_first = refl

pub body_too_early : reading (codes "p nest 1 2\nt o 1 0 0\nb o 1\n") ≡ refused BadContents None 3 45
unfolding digits
body_too_early = refl

pub bad_byte_first : reading (codes "p nest 1 1\nt o 1 0 X\n") ≡ refused BadByte None 2 45
unfolding digits
bad_byte_first = refl

-- the bodies

pub contents_too_many : reading (codes "p nest 1 1\nt o 1 0 0\nt l 1 0 0\n") ≡ refused BadBody None 3 45
unfolding digits
contents_too_many = refl

pub another_map : reading (codes "p nest 1 1\nt o 1 0 0\nb o 2\n") ≡ refused BadBody None 3 45
unfolding digits
another_map = refl

pub another_kind : reading (codes "p nest 1 2\nt o 1 0 0\nt l 1 0 0\nb o 1\nb w 1\n") ≡ refused BadBody None 5 111
unfolding digits
another_kind = refl

pub too_few_rows : reading (codes "p nest 1 2\nt o 2 0 1\nt l 1 0 0\nb o 1\nb l 1\n") ≡ refused BadBody None 5 111
unfolding digits
too_few_rows = refl

pub too_many_rows : reading (codes "p nest 1 2\nt o 2 0 0\nt l 1 0 0\nb o 1\n0\nb l 1\n") ≡ refused BadBody None 5 111
unfolding digits
too_many_rows = refl

pub letter_in_a_row's_place : reading (codes "p nest 1 1\nt o 2 0 1\nb o 1\nx 0\n") ≡ refused BadBody None 4 111
unfolding digits
letter_in_a_row's_place = refl

-- the rows

pub row_number : reading (codes "p nest 1 1\nt o 2 0 1\nb o 1\n1 2 0 x\n") ≡ refused BadNumber None 4 111
unfolding digits
row_number = refl

pub closing_zero : reading (codes "p nest 1 1\nt o 2 0 1\nb o 1\n1 2 00\n") ≡ refused BadNumber None 4 111
unfolding digits
closing_zero = refl

pub number_over_the_limit : reading (codes "p nest 1 1\nt o 2 0 1\nb o 1\n-1000001 0\n") ≡ refused BadNumber None 4 111
unfolding digits
number_over_the_limit = refl

pub minus_zero : reading (codes "p nest 1 1\nt o 2 0 1\nb o 1\n-0\n") ≡ refused BadNumber None 4 111
unfolding digits
minus_zero = refl

pub not_closed : reading (codes "p nest 1 1\nt o 2 0 1\nb o 1\n1 2") ≡ refused RowRefused None 4 111
unfolding digits
not_closed = refl

pub closed_twice : reading (codes "p nest 1 1\nt o 2 0 1\nb o 1\n9 0 2 0\n") ≡ refused RowRefused None 4 111
unfolding digits
closed_twice = refl

pub literal_past_the_atoms : reading (codes "p nest 1 1\nt o 2 0 1\nb o 1\n1 -3 0") ≡ refused RowRefused (Some LiteralOutOfRange) 4 111
unfolding digits
literal_past_the_atoms = refl

pub literal_past_a_byte : reading (codes "p nest 1 1\nt o 2 0 1\nb o 1\n65537 0") ≡ refused RowRefused (Some LiteralOutOfRange) 4 111
unfolding digits
literal_past_a_byte = refl

pub short_map : reading (codes "p nest 1 2\nt o 2 0 0\nt n 2 0 1\nb o 1\nb n 1\n9 0\n") ≡ refused RowRefused None 6 110
unfolding digits
short_map = refl

pub map_past_the_host : reading (codes "p nest 1 2\nt o 2 0 0\nt n 2 1 1\nb o 1\nb n 1\n1 3 0\n") ≡ refused RowRefused (Some LiteralOutOfRange) 6 110
unfolding digits
map_past_the_host = refl

pub negative_map : reading (codes "p nest 1 2\nt o 2 0 0\nt n 1 1 1\nb o 1\nb n 1\n-1 0\n") ≡ refused RowRefused (Some LiteralOutOfRange) 6 110
unfolding digits
negative_map = refl

pub map_below : reading (codes "p nest 1 3\nt o 2 0 0\nt n 1 2 1\nt m 1 1 2\nb o 1\nb n 1\n1 0\nb m 1\n3 0\n3 0\n") ≡ refused RowRefused (Some LiteralOutOfRange) 10 109
unfolding digits
map_below = refl

pub four_numbers_of_an_arc : reading (codes "p nest 1 2\nt o 2 0 0\nt l 4 0 1\nb o 1\nb l 1\n3 1 2 3 0\n") ≡ refused RowRefused None 6 108
unfolding digits
four_numbers_of_an_arc = refl

pub signal_past_the_signals : reading (codes "p nest 1 2\nt o 2 0 0\nt l 4 0 1\nb o 1\nb l 1\n3 1 5 0\n") ≡ refused RowRefused None 6 108
unfolding digits
signal_past_the_signals = refl

pub arc_past_the_atoms : reading (codes "p nest 1 2\nt o 2 0 0\nt l 4 0 1\nb o 1\nb l 1\n3 1 4 0\n") ≡ refused RowRefused (Some LiteralOutOfRange) 6 108
unfolding digits
arc_past_the_atoms = refl

pub load_past_the_limit : reading (codes "p nest 1 2\nt o 2 0 0\nt d 4 0 1\nb o 1\nb d 1\n1 60001 0\n") ≡ refused RowRefused None 6 100
unfolding digits
load_past_the_limit = refl

pub negative_load_atom : reading (codes "p nest 1 2\nt o 2 0 0\nt w 4 0 1\nb o 1\nb w 1\n-1 65535 0\n") ≡ refused RowRefused (Some LiteralOutOfRange) 6 119
unfolding digits
negative_load_atom = refl

pub as_many_clauses : is_ok (reading (codes "p nest 9999 1\nt o 200 0 400\nb o 9999\n" ++ flat_map (λ c. c) (replicate 400 (codes "-200 0\n")))) ≡ true
unfolding digits
as_many_clauses = refl

pub as_many_literals : is_ok (reading (codes "p nest 1 1\nt o 2 0 1\nb o 1\n" ++ (flat_map (λ c. c) (replicate 2000 (codes "1 ")) ++ codes "0"))) ≡ true
unfolding digits
as_many_literals = refl

pub full_clause_table : reading (codes "p nest 1 1\nt o 2 0 401\nb o 1\n" ++ flat_map (λ c. c) (replicate 401 (codes "0\n"))) ≡ refused RowRefused (Some ClauseTableFull) 404 111
unfolding digits
full_clause_table = refl

pub full_literal_table : reading (codes "p nest 1 1\nt o 2 0 1\nb o 1\n" ++ (flat_map (λ c. c) (replicate 2001 (codes "1 ")) ++ codes "0")) ≡ refused RowRefused (Some LiteralTableFull) 4 111
unfolding digits
full_literal_table = refl

-- the end

pub early : reading (codes "c\n\np nest 1 1\nt o 2 0 1\nb o 1\n") ≡ refused BadEnd None 6 111
unfolding digits
early = refl

pub late : reading (codes "p nest 1 1\nt o 2 0 0\nb o 1\nc\n1 0\n") ≡ refused BadEnd None 5 111
unfolding digits
late = refl

pub bad_byte_late : reading (codes "p nest 1 1\nt o 2 0 0\nb o 1\n.") ≡ refused BadByte None 4 111
unfolding digits
bad_byte_late = refl

pub comment_late : reading (codes "p nest 1 1\nt o 2 0 0\nb o 1\n c.") ≡ Ok (items_of (record { map = 1; bodies = record { contents = record { kind = Outer; size = 2; own = 0; rows = 0 }; rows = [] } ∷ [] }))
unfolding digits
comment_late = refl

pub long : reading (replicate 60001 10) ≡ refused TextTooLong None 0 45
unfolding digits
long = refl
