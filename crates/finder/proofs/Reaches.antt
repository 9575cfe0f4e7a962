-- How far the vetoes of a problem reach. Assumes nothing.
use Rattle.std.proofs.Common.{◌≡◌, ℕ, ◌≤◌, max, Bool, true, false, cond, ◌&&◌, nat_le, List, [], ◌∷◌, ◌++◌, map, ℤ, pos, negsuc, Option, Some, None, is_none, sym, refl, ap, ◌∙◌, subst, arith}
use Rattle.std.specs.List.{list_all}
use Rattle.std.proofs.lemmas.Bool.{both_ways, and_parts, and_from, cond-true, cond-false, leb-true}
use Rattle.assignments.specs.Limits.{atom_limit}
use Rattle.clauses.specs.Adding.{refusal_of_adding}
use Rattle.vetoes.specs.Counted.{highest_of}
use Rattle.vetoes.specs.Meaning.{Meaning}
use Rattle.cycles.specs.Arcs.{counted_arc, is_signal}
use Rattle.loads.specs.Rows.{counted_row, later}
use Rattle.nested.specs.Nests.{highest_mapped, nest_means}
use Rattle.nestformat.specs.declared.kinds.BodyKind.{BodyKind}
use Rattle.nestformat.specs.declared.kinds.BodyKind.TheVariants.{Outer, Nest, Loop, Milliamperes, Lines}
use Rattle.nestformat.specs.declared.kinds.Contents.{Contents}
use Rattle.nestformat.specs.Kinds.{has_clauses, has_map, atoms_in}
use Rattle.nestformat.specs.Bodies.{body_at, rows_in, rows_at}
use Rattle.nestformat.specs.Due.{row_due, map_due, is_atom, first_is_atom, unless_out, atoms_at, host_of, natural, well_formed, map_refusal, row_refusal}
use Rattle.nestfile.specs.declared.Problem.{Problem as Held}
use Rattle.nestfile.specs.Problems.{told}
use Rattle.finder.specs.Bodies.{entry_at, atoms_of}
use Rattle.finder.specs.Meanings.{plan_with, plan_in, below_means, nests_mean, arc_in, loop_means, load_in, loads_in, milliamperes, lowest_lines, milliamperes_mean, lines_mean, file_means}
use Rattle.finder.proofs.Wholes.{right_rows, right_map, right_mapped}
use Rattle.finder.proofs.Entries.{contents_told, Entry, entry_told, entry_missing}

pub not_out : (b : Bool) → is_none (unless_out b) ≡ true → b ≡ true
not_out true h = refl
not_out false h = h

-- atoms that are within n

pub natural_within : (n : ℕ) (z : ℤ) → is_atom n z ≡ true → natural z ≤ n
natural_within n (pos k) h = leb-true k n (and_parts (nat_le 1 k) (nat_le k n) h).1
natural_within n (negsuc k) h = omega arith

cond_few : (b : Bool) (x n : ℕ) → x ≤ n → cond b x 0 ≤ n
cond_few true x n h = h
cond_few false x n h = omega arith

arc_few : (n : ℕ) (zs : List ℤ) → first_is_atom n zs ≡ true → counted_arc (arc_in zs) ≤ n
arc_few n [] h = omega arith
arc_few n (a ∷ []) h = omega arith
arc_few n (a ∷ f ∷ []) h = omega arith
arc_few n (a ∷ f ∷ t ∷ []) h = cond_few (nat_le (natural a) atom_limit && (is_signal (natural f) && is_signal (natural t))) (natural a) n (natural_within n a h)
arc_few n (a ∷ f ∷ t ∷ u ∷ zs) h = omega arith

load_few : (n : ℕ) (zs : List ℤ) → first_is_atom n zs ≡ true → counted_row (load_in zs) ≤ n
load_few n [] h = omega arith
load_few n (a ∷ []) h = omega arith
load_few n (a ∷ l ∷ []) h = cond_few (nat_le (natural a) atom_limit) (natural a) n (natural_within n a h)
load_few n (a ∷ l ∷ u ∷ zs) h = omega arith

-- what each of the rows gives is few, so the highest is
highest_rows : {X : Type 0} (f : X → ℕ) (g : List ℤ → X) (n : ℕ) → ((zs : List ℤ) → first_is_atom n zs ≡ true → f (g zs) ≤ n) → (rs : List (List ℤ)) → list_all (first_is_atom n) rs ≡ true → highest_of f (map g rs) ≤ n
highest_rows f g n few [] h = omega arith
highest_rows f g n few (zs ∷ rs) h =
    let p = and_parts (first_is_atom n zs) (list_all (first_is_atom n) rs) h in
    let a = few zs p.0 in
    let b = highest_rows f g n few rs p.1 in
    omega arith

mapped_few : (n : ℕ) (zs : List ℤ) → list_all (is_atom n) zs ≡ true → highest_mapped (map natural zs) ≤ n
mapped_few n [] h = omega arith
mapped_few n (z ∷ zs) h =
    let p = and_parts (is_atom n z) (list_all (is_atom n) zs) h in
    let a = natural_within n z p.0 in
    let b = mapped_few n zs p.1 in
    omega arith

-- the rows of a body without clauses name atoms of the outer body
atoms_right : (e : Contents) (es : List Contents) → has_clauses e.kind ≡ false → (rs cs : List (List ℤ)) → right_rows e es cs rs ≡ true → list_all (first_is_atom (atoms_at Outer es)) rs ≡ true
atoms_right e es k [] cs h = refl
atoms_right e es k (zs ∷ rs) cs h =
    let p = and_parts (well_formed (row_due e) zs && is_none (row_refusal e es cs zs)) (right_rows e es (cs ++ zs ∷ []) rs) h in
    let q = and_parts (well_formed (row_due e) zs) (is_none (row_refusal e es cs zs)) p.0 in
    let none : is_none (unless_out (first_is_atom (atoms_at Outer es) zs)) ≡ true = sym (ap is_none (cond-false (has_clauses e.kind) (refusal_of_adding (atoms_in e) cs zs) (unless_out (first_is_atom (atoms_at Outer es) zs)) k)) ∙ q.1 in
    and_from (first_is_atom (atoms_at Outer es) zs) (list_all (first_is_atom (atoms_at Outer es)) rs) (not_out _ none) (atoms_right e es k rs (cs ++ zs ∷ []) p.1)

module _ (h : Held) where
  -- a body without map and clauses
  abbrev outside : ℕ
  outside = atoms_at Outer (contents_told h)

  plain_rows : (k : BodyKind) (e : Contents) → has_map k ≡ false → has_clauses k ≡ false → Entry h k e → list_all (first_is_atom outside) (rows_at k (told h).bodies) ≡ true
  plain_rows k e m c x =
      let rs = rows_at k (told h).bodies in
      let no_map : has_map e.kind ≡ false = subst (λ j. has_map j ≡ false) x.kind m in
      let no_clauses : has_clauses e.kind ≡ false = subst (λ j. has_clauses j ≡ false) x.kind c in
      atoms_right e (contents_told h) no_clauses rs [] (sym (cond-false (has_map e.kind) (right_mapped e (contents_told h) rs) (right_rows e (contents_told h) [] rs) no_map) ∙ x.right)

  loop_by : (o : Option Contents) → entry_at Loop (contents_told h) ≡ o → (loop_means (told h)).reach ≤ outside
  loop_by None q = let b = entry_missing h Loop q in subst (λ x. highest_of counted_arc (map arc_in (rows_in x)) ≤ outside) (sym b) (omega arith)
  loop_by (Some e) q =
      let x = entry_told h Loop e q in
      subst (λ y. highest_of counted_arc (map arc_in (rows_in y)) ≤ outside) (sym x.body)
      (highest_rows counted_arc arc_in outside (arc_few outside) (rows_at Loop (told h).bodies) (plain_rows Loop e refl refl x))

  loads_by : (k : BodyKind) (limit : ℕ → ℕ) → has_map k ≡ false → has_clauses k ≡ false → (o : Option Contents) → entry_at k (contents_told h) ≡ o → highest_of counted_row (later (loads_in limit (body_at k (told h).bodies))) ≤ outside
  loads_by k limit m c None q = let b = entry_missing h k q in subst (λ x. highest_of counted_row (later (loads_in limit x)) ≤ outside) (sym b) (omega arith)
  loads_by k limit m c (Some e) q =
      let x = entry_told h k e q in
      subst (λ y. highest_of counted_row (later (loads_in limit y)) ≤ outside) (sym x.body)
      (highest_rows counted_row load_in outside (load_few outside) (rows_at k (told h).bodies) (plain_rows k e m c x))

  -- a nest reaches no further than its host has atoms
  mapped_reach : (e : Contents) (b : Meaning) (rs : List (List ℤ)) → right_mapped e (contents_told h) rs ≡ true → (nest_means (Some (plan_with e.own rs)) b).reach ≤ atoms_at (host_of e.kind) (contents_told h)
  mapped_reach e b [] r = absurd (both_ways false refl r)
  mapped_reach e b (zs ∷ cs) r =
      let n = atoms_at (host_of e.kind) (contents_told h) in
      let p = and_parts (right_map e (contents_told h) zs) (right_rows e (contents_told h) [] cs) r in
      let q = and_parts (well_formed (map_due e) zs) (is_none (map_refusal e (contents_told h) zs)) p.0 in
      mapped_few n zs (not_out (list_all (is_atom n) zs) q.1)

  pub nest_by : (k : BodyKind) (b : Meaning) → has_map k ≡ true → (o : Option Contents) → entry_at k (contents_told h) ≡ o → (nest_means (plan_in (body_at k (told h).bodies)) b).reach ≤ atoms_at (host_of k) (contents_told h)
  nest_by k b m None q = let y = entry_missing h k q in subst (λ x. (nest_means (plan_in x) b).reach ≤ atoms_at (host_of k) (contents_told h)) (sym y) (omega arith)
  nest_by k b m (Some e) q =
      let x = entry_told h k e q in
      let rs = rows_at k (told h).bodies in
      let mapped : has_map e.kind ≡ true = subst (λ j. has_map j ≡ true) x.kind m in
      let right = sym (cond-true (has_map e.kind) (right_mapped e (contents_told h) rs) (right_rows e (contents_told h) [] rs) mapped) ∙ x.right in
      subst (λ y. (nest_means (plan_in y) b).reach ≤ atoms_at (host_of k) (contents_told h)) (sym x.body)
      (subst (λ j. (nest_means (Some (plan_with e.own rs)) b).reach ≤ atoms_at (host_of j) (contents_told h)) (sym x.kind) (mapped_reach e b rs right))

  most_of_four : (a b c d n : ℕ) → a ≤ n → b ≤ n → c ≤ n → d ≤ n → max a (max b (max c d)) ≤ n
  most_of_four a b c d n p q r s = omega arith

  pub file_reach : (file_means (told h)).reach ≤ atoms_of (told h)
  file_reach =
      let p = told h in
      most_of_four (nests_mean p).reach (loop_means p).reach (milliamperes_mean p).reach (lines_mean p).reach (atoms_of p)
      (nest_by Nest (below_means p) refl (entry_at Nest (contents_told h)) refl)
      (loop_by (entry_at Loop (contents_told h)) refl)
      (loads_by Milliamperes milliamperes refl refl (entry_at Milliamperes (contents_told h)) refl)
      (loads_by Lines lowest_lines refl refl (entry_at Lines (contents_told h)) refl)
