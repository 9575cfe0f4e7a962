-- The kinds of bodies: their letters, and the numbers that a contents line may give. Assumes nothing.
use Rattle.std.specs.Prelude.{ℕ, ◌+◌, Bool, true, false, cond, ◌&&◌, List, [], ◌∷◌, ℤ, pos, ◌+ℤ◌, Some, None, Option, ◌==◌, nat_le}
use Rattle.assignments.specs.Limits.{atom_limit}
use Rattle.cycles.specs.Limits.{signal_limit}
use Rattle.nestformat.specs.declared.kinds.BodyKind.{BodyKind}
use Rattle.nestformat.specs.declared.kinds.BodyKind.TheVariants.{Outer, Nest, Below, Loop, Milliamperes, Lines}
use Rattle.nestformat.specs.declared.kinds.Contents.{Contents}
use Rattle.nestformat.specs.Limits.{clause_row_limit, row_limit, milliampere_limit, line_limit, Range, from_to, within}

-- o, n, m, l, d, w
abbrev pub letter_of : BodyKind → ℕ
letter_of Outer = 111
letter_of Nest = 110
letter_of Below = 109
letter_of Loop = 108
letter_of Milliamperes = 100
letter_of Lines = 119

abbrev pub kind_of_letter : ℕ → Option BodyKind
kind_of_letter b =
    cond (b == letter_of Outer) (Some Outer)
    (cond (b == letter_of Nest) (Some Nest)
    (cond (b == letter_of Below) (Some Below)
    (cond (b == letter_of Loop) (Some Loop)
    (cond (b == letter_of Milliamperes) (Some Milliamperes)
    (cond (b == letter_of Lines) (Some Lines) None)))))

-- the kind that a token names: one letter
abbrev pub kind_named : List ℕ → Option BodyKind
kind_named [] = None
kind_named (b ∷ []) = kind_of_letter b
kind_named (b ∷ c ∷ bs) = None

abbrev pub same_kind : BodyKind → BodyKind → Bool
same_kind j k = letter_of j == letter_of k

-- the rows are clauses
abbrev pub has_clauses : BodyKind → Bool
has_clauses Outer = true
has_clauses Nest = true
has_clauses Below = true
has_clauses _ = false

-- the first row is a map
abbrev pub has_map : BodyKind → Bool
has_map Nest = true
has_map Below = true
has_map _ = false

-- what the first number counts or limits: atoms, seen atoms, signals, milliamperes, lines
abbrev pub size_range : BodyKind → Range
size_range Outer = from_to 0 atom_limit
size_range Nest = from_to 0 atom_limit
size_range Below = from_to 0 atom_limit
size_range Loop = from_to 1 signal_limit
size_range Milliamperes = from_to 0 milliampere_limit
size_range Lines = from_to 0 line_limit

-- own atoms, which only nests have
abbrev pub own_range : BodyKind → Range
own_range Nest = from_to 0 atom_limit
own_range Below = from_to 0 atom_limit
own_range _ = from_to 0 0

abbrev pub rows_range : BodyKind → Range
rows_range Outer = from_to 0 clause_row_limit
rows_range Nest = from_to 1 clause_row_limit
rows_range Below = from_to 1 clause_row_limit
rows_range _ = from_to 0 row_limit

-- the atoms that two numbers of a contents line come to
abbrev pub atoms_told : BodyKind → ℤ → ℤ → ℤ
atoms_told Outer a b = a
atoms_told Nest a b = a +ℤ b
atoms_told Below a b = a +ℤ b
atoms_told _ a b = pos 0

-- the atoms of a body: what its clauses speak of
abbrev pub atoms_in : Contents → ℕ
atoms_in e = cond (has_clauses e.kind) (e.size + e.own) 0

-- the numbers of the contents line are in their ranges
abbrev pub in_ranges : Contents → Bool
in_ranges e = (within (size_range e.kind) e.size && within (own_range e.kind) e.own) && (within (rows_range e.kind) e.rows && nat_le (atoms_in e) atom_limit)
