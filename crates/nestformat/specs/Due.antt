-- What is due after the lines read so far, and which line is right there. Assumes nothing.
use Rattle.std.specs.Prelude.{ℕ, ◌-◌, Bool, true, false, cond, not, ◌&&◌, ◌||◌, List, [], ◌∷◌, ◌++◌, map, length, drop, replicate, ℤ, pos, negsuc, Some, None, Option, unwrap_or, is_none, ◌==◌, slice_index_or, unsigned_abs}
use Rattle.std.specs.List.{list_all}
use Rattle.std.specs.Str.{bytes_eq}
use Rattle.refusals.specs.declared.Refusal.{Refusal}
use Rattle.refusals.specs.declared.Refusal.TheVariants.{LiteralOutOfRange}
use Rattle.clauses.specs.Adding.{refusal_of_adding}
use Rattle.lexer.specs.Numbers.{number_limit, reads}
use Rattle.nestformat.specs.declared.kinds.BodyKind.{BodyKind}
use Rattle.nestformat.specs.declared.kinds.BodyKind.TheVariants.{Outer, Nest, Below, Loop, Milliamperes, Lines}
use Rattle.nestformat.specs.declared.kinds.Contents.{Contents}
use Rattle.nestformat.specs.Limits.{map_limit, body_limit, milliampere_load_limit, line_load_limit, from_to, within, positive_within}
use Rattle.nestformat.specs.Kinds.{letter_of, kind_named, same_kind, has_clauses, has_map, atoms_in, in_ranges}
use Rattle.nestformat.specs.Items.{Item, heading_line, contents_line, body_line, row_line, item_line}

-- the line that is due: of the contents, of a body, a body's map, one of its other rows, or none
pub data Slot : Type 0 where
  heading_due : Slot
  contents_due : Slot
  body_due : Contents → Slot
  map_due : Contents → Slot
  row_due : Contents → Slot
  end_due : Slot

-- what the lines read so far leave behind: the lines to come, the map and the contents that were read,
-- the letter of the body that was begun last (45, a minus, before the first), and its clauses
pub record State : Type 0 where
  pub todo : List Slot
  pub map : ℕ
  pub contents : List Contents
  pub letter : ℕ
  pub clauses : List (List ℤ)

abbrev pub start : State
start = record { todo = heading_due ∷ []; map = 0; contents = []; letter = 45; clauses = [] }

abbrev pub due : List Slot → Slot
due [] = end_due
due (x ∷ xs) = x

abbrev pub rows_due : Contents → List Slot
rows_due e = cond (has_map e.kind) (map_due e ∷ replicate (e.rows - 1) (row_due e)) (replicate e.rows (row_due e))

-- the bodies in the order of the contents
abbrev pub bodies_due : List Contents → List Slot
bodies_due [] = []
bodies_due (e ∷ es) = body_due e ∷ (rows_due e ++ bodies_due es)

-- after the last contents line the bodies are due
abbrev pub or_bodies : List Slot → List Contents → List Slot
or_bodies [] es = bodies_due es
or_bodies (x ∷ xs) es = x ∷ xs

-- the clauses with those of a row more
abbrev pub clauses_with : Slot → List ℤ → List (List ℤ) → List (List ℤ)
clauses_with (row_due e) zs cs = cs ++ zs ∷ []
clauses_with _ zs cs = cs

abbrev pub advance : State → Item → State
advance s (heading_line h) = record s { todo = replicate h.bodies contents_due; map = h.map }
advance s (contents_line e) = record s { todo = or_bodies (drop 1 s.todo) (s.contents ++ e ∷ []); contents = s.contents ++ e ∷ [] }
advance s (body_line k m) = record s { todo = drop 1 s.todo; letter = letter_of k; clauses = [] }
advance s (row_line zs) = record s { todo = drop 1 s.todo; clauses = clauses_with (due s.todo) zs s.clauses }

-- a line of the contents is right after others

abbrev pub listed : BodyKind → List Contents → Bool
listed k [] = false
listed k (e ∷ es) = same_kind k e.kind || listed k es

-- o is first, m follows n somewhere, and no kind stands twice
abbrev pub in_order : BodyKind → List Contents → Bool
in_order k [] = same_kind k Outer
in_order k (e ∷ es) = not (listed k (e ∷ es)) && cond (same_kind k Below) (listed Nest (e ∷ es)) true

-- the atoms of the body of that kind, or none
abbrev pub atoms_at : BodyKind → List Contents → ℕ
atoms_at k [] = 0
atoms_at k (e ∷ es) = cond (same_kind k e.kind) (atoms_in e) (atoms_at k es)

-- a row is of the right form

-- a number of a row before the closing 0
abbrev pub in_row : ℤ → Bool
in_row z = within (from_to 1 number_limit) (unsigned_abs z)

-- atom, from, to: two signals of n
abbrev pub is_arc : ℕ → List ℤ → Bool
is_arc n (atom ∷ from ∷ to ∷ []) = positive_within (from_to 1 n) from && positive_within (from_to 1 n) to
is_arc n _ = false

-- atom, load: up to n
abbrev pub is_load : ℕ → List ℤ → Bool
is_load n (atom ∷ load ∷ []) = positive_within (from_to 1 n) load
is_load n _ = false

abbrev pub row_form : BodyKind → ℕ → List ℤ → Bool
row_form Loop n zs = is_arc n zs
row_form Milliamperes n zs = is_load milliampere_load_limit zs
row_form Lines n zs = is_load line_load_limit zs
row_form _ n zs = true

abbrev pub form : Slot → List ℤ → Bool
form (map_due e) zs = length zs == e.size
form (row_due e) zs = row_form e.kind e.size zs
form _ zs = false

abbrev pub well_formed : Slot → List ℤ → Bool
well_formed x zs = list_all in_row zs && form x zs

-- a row is not refused below

abbrev pub unless_out : Bool → Option Refusal
unless_out b = cond b None (Some LiteralOutOfRange)

abbrev pub is_atom : ℕ → ℤ → Bool
is_atom n z = positive_within (from_to 1 n) z

abbrev pub first_is_atom : ℕ → List ℤ → Bool
first_is_atom n [] = false
first_is_atom n (z ∷ zs) = is_atom n z

-- the kind of the body whose atoms the map of a nest names
abbrev pub host_of : BodyKind → BodyKind
host_of Below = Nest
host_of _ = Outer

-- the refusal of a map of the right form, where these are the contents
abbrev pub map_refusal : Contents → List Contents → List ℤ → Option Refusal
map_refusal e es zs = unless_out (list_all (is_atom (atoms_at (host_of e.kind) es)) zs)

-- the refusal of another row of the right form: of a clause, where cs are held, that of the book; else of the atom
abbrev pub row_refusal : Contents → List Contents → List (List ℤ) → List ℤ → Option Refusal
row_refusal e es cs zs = cond (has_clauses e.kind) (refusal_of_adding (atoms_in e) cs zs) (unless_out (first_is_atom (atoms_at Outer es) zs))

abbrev pub refusal_below : Slot → State → List ℤ → Option Refusal
refusal_below (map_due e) s zs = map_refusal e s.contents zs
refusal_below (row_due e) s zs = row_refusal e s.contents s.clauses zs
refusal_below _ s zs = None

abbrev pub row_fits : Slot → State → List ℤ → Bool
row_fits x s zs = well_formed x zs && is_none (refusal_below x s zs)

abbrev pub is_map : ℕ → Bool
is_map m = within (from_to 1 map_limit) m

-- the line that says it is right where x is due
abbrev pub fits_at : Slot → State → Item → Bool
fits_at heading_due s (heading_line h) = is_map h.map && within (from_to 1 body_limit) h.bodies
fits_at contents_due s (contents_line e) = in_ranges e && in_order e.kind s.contents
fits_at (body_due e) s (body_line k m) = same_kind k e.kind && (m == s.map && is_map m)
fits_at (map_due e) s (row_line zs) = row_fits (map_due e) s zs
fits_at (row_due e) s (row_line zs) = row_fits (row_due e) s zs
fits_at _ s it = false

abbrev pub fits : State → Item → Bool
fits s it = fits_at (due s.todo) s it

-- what tokens say, if they are of the sort due

abbrev pub token_at : ℕ → List (List ℕ) → List ℕ
token_at i ts = slice_index_or ts i []

abbrev pub number_at : ℕ → List (List ℕ) → ℤ
number_at i ts = reads (token_at i ts)

abbrev pub natural : ℤ → ℕ
natural (pos n) = n
natural (negsuc n) = 0

abbrev pub natural_at : ℕ → List (List ℕ) → ℕ
natural_at i ts = natural (number_at i ts)

abbrev pub kind_at : ℕ → List (List ℕ) → BodyKind
kind_at i ts = unwrap_or (kind_named (token_at i ts)) Outer

-- all but the last
abbrev pub front : List (List ℕ) → List (List ℕ)
front [] = []
front (t ∷ []) = []
front (t ∷ u ∷ us) = t ∷ front (u ∷ us)

-- the numbers of a row before its last token
abbrev pub numbers_said : List (List ℕ) → List ℤ
numbers_said ts = map reads (front ts)

-- whatever the tokens are, it is some item: right only if it is written as they are
abbrev pub says : Slot → List (List ℕ) → Item
says heading_due ts = heading_line (record { map = natural_at 2 ts; bodies = natural_at 3 ts })
says contents_due ts = contents_line (record { kind = kind_at 1 ts; size = natural_at 2 ts; own = natural_at 3 ts; rows = natural_at 4 ts })
says (body_due e) ts = body_line (kind_at 1 ts) (natural_at 2 ts)
says (map_due e) ts = row_line (numbers_said ts)
says (row_due e) ts = row_line (numbers_said ts)
says end_due ts = row_line (numbers_said ts)

abbrev pub same_line : List (List ℕ) → List (List ℕ) → Bool
same_line [] [] = true
same_line [] (y ∷ ys) = false
same_line (x ∷ xs) [] = false
same_line (x ∷ xs) (y ∷ ys) = bytes_eq x y && same_line xs ys

-- the line is what is written of what it says
abbrev pub as_written : Slot → List (List ℕ) → Bool
as_written x ts = same_line ts (item_line (says x ts))
