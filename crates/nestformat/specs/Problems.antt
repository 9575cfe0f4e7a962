-- Which problems the format has. Assumes nothing.
use Rattle.std.specs.Prelude.{◌≡◌, ℕ, ◌≤◌, Bool, true, ◌&&◌, List, [], ◌∷◌, ◌++◌, length, ℤ}
use Rattle.std.specs.List.{AllByRecursion, list_all}
use Rattle.assignments.specs.Literals.{all_in_range}
use Rattle.clauses.specs.Limits.{clause_limit, literal_limit}
use Rattle.clauses.specs.Adding.{literal_count}
use Rattle.nestformat.specs.declared.kinds.BodyKind.{BodyKind}
use Rattle.nestformat.specs.declared.kinds.BodyKind.TheVariants.{Outer, Nest, Below}
use Rattle.nestformat.specs.declared.kinds.Contents.{Contents}
use Rattle.nestformat.specs.Limits.{body_limit, from_to, within}
use Rattle.nestformat.specs.Kinds.{atoms_in, in_ranges}
use Rattle.nestformat.specs.Items.{Body, Problem, contents_of}
use Rattle.nestformat.specs.Due.{in_order, atoms_at, host_of, in_row, is_map, is_atom, first_is_atom, row_form}

-- each contents line has numbers in its ranges, and a kind that is right after those before it
abbrev pub contents_right : List Contents → List Contents → Bool
contents_right before [] = true
contents_right before (e ∷ es) = (in_ranges e && in_order e.kind before) && contents_right (before ++ e ∷ []) es

-- clauses over n atoms, as many as a book holds
pub record RightClauses (n : ℕ) (cs : List (List ℤ)) : Type 0 where
  pub each : AllByRecursion (λ c. all_in_range n c ≡ true) cs
  pub few : length cs ≤ clause_limit
  pub short : literal_count cs ≤ literal_limit

-- a map of k atoms to atoms of n
pub record RightMap (n k : ℕ) (zs : List ℤ) : Type 0 where
  pub exact : length zs ≡ k
  pub each : list_all (is_atom n) zs ≡ true

-- a map, and clauses over seen and own atoms
abbrev pub RightNest : List Contents → Contents → List (List ℤ) → Type 0
RightNest es e [] = ⊥
RightNest es e (zs ∷ cs) = RightMap (atoms_at (host_of e.kind) es) e.size zs × RightClauses (atoms_in e) cs

-- an arc or a load, of an atom of the outer body
pub record RightRow (es : List Contents) (e : Contents) (zs : List ℤ) : Type 0 where
  pub formed : row_form e.kind e.size zs ≡ true
  pub atom : first_is_atom (atoms_at Outer es) zs ≡ true

-- the rows of a body, by its kind
abbrev pub RightRows : BodyKind → List Contents → Contents → List (List ℤ) → Type 0
RightRows Outer es e rows = RightClauses (atoms_in e) rows
RightRows Nest es e rows = RightNest es e rows
RightRows Below es e rows = RightNest es e rows
RightRows _ es e rows = AllByRecursion (RightRow es e) rows

-- as many rows as the contents es say, all of numbers but 0, and right for the kind
pub record RightBody (es : List Contents) (b : Body) : Type 0 where
  pub count : length b.rows ≡ b.contents.rows
  pub numbers : AllByRecursion (λ zs. list_all in_row zs ≡ true) b.rows
  pub rows : RightRows b.contents.kind es b.contents b.rows

pub record RightProblem (p : Problem) : Type 0 where
  pub map : is_map p.map ≡ true
  pub some : within (from_to 1 body_limit) (length p.bodies) ≡ true
  pub contents : contents_right [] (contents_of p.bodies) ≡ true
  pub bodies : AllByRecursion (RightBody (contents_of p.bodies)) p.bodies
