-- What is right of the bodies of a problem whose items are whole. Assumes nothing.
use Rattle.std.proofs.Common.{◌≡◌, ℕ, zero, suc, ◌-◌, Bool, true, false, cond, ◌&&◌, List, [], ◌∷◌, ◌++◌, map, flat_map, length, replicate, ℤ, Some, is_none, append_assoc, sym, refl, ap, ◌∙◌, subst, ⊎_elim}
use Rattle.std.specs.List.{list_all}
use Rattle.std.proofs.lemmas.Bool.{both_ways, and_from, and_parts, cond-true, cond-false, cases_Bool}
use Rattle.nestformat.specs.declared.kinds.BodyKind.TheVariants.{Outer}
use Rattle.nestformat.specs.declared.kinds.Contents.{Contents}
use Rattle.nestformat.specs.declared.kinds.Heading.{Heading}
use Rattle.nestformat.specs.Kinds.{letter_of, same_kind, has_map, in_ranges}
use Rattle.nestformat.specs.Items.{Item, heading_line, contents_line, body_line, row_line, Body, contents_of, body_items, items_of}
use Rattle.nestformat.specs.Due.{Slot, contents_due, body_due, map_due, row_due, State, start, rows_due, bodies_due, advance, fits, in_order, is_map, well_formed, map_refusal, row_refusal}
use Rattle.nestformat.specs.Reading.{whole}
use Rattle.nestformat.proofs.KindLaws.{same_kind_is}
use Rattle.finder.specs.Bodies.{entry_at}

-- what is right of rows

abbrev pub right_row : Contents → List Contents → List (List ℤ) → List ℤ → Bool
right_row e es cs zs = well_formed (row_due e) zs && is_none (row_refusal e es cs zs)

abbrev pub right_rows : Contents → List Contents → List (List ℤ) → List (List ℤ) → Bool
right_rows e es cs [] = true
right_rows e es cs (zs ∷ rs) = right_row e es cs zs && right_rows e es (cs ++ zs ∷ []) rs

abbrev pub right_map : Contents → List Contents → List ℤ → Bool
right_map e es zs = well_formed (map_due e) zs && is_none (map_refusal e es zs)

abbrev pub right_mapped : Contents → List Contents → List (List ℤ) → Bool
right_mapped e es [] = false
right_mapped e es (zs ∷ rs) = right_map e es zs && right_rows e es [] rs

abbrev pub right_kind : Contents → List Contents → List (List ℤ) → Bool
right_kind e es rs = cond (has_map e.kind) (right_mapped e es rs) (right_rows e es [] rs)

abbrev pub right_body : List Contents → Body → Bool
right_body es b = right_kind b.contents es b.rows

abbrev at_state : ℕ → List Contents → List Slot → ℕ → List (List ℤ) → State
at_state m es todo l cs = record { todo = todo; map = m; contents = es; letter = l; clauses = cs }

-- a row where a body is due, and a body where a row is due

no_row : (m l : ℕ) (es next : List Contents) (cs : List (List ℤ)) (zs : List ℤ) (its : List Item) → whole (at_state m es (bodies_due next) l cs) (row_line zs ∷ its) ≡ true → ⊥
no_row m l es [] cs zs its h = both_ways false refl h
no_row m l es (e ∷ next) cs zs its h = both_ways false refl h

lacks_row : (m l : ℕ) (es : List Contents) (e : Contents) (xs : List Slot) (cs : List (List ℤ)) (bs : List Body) → whole (at_state m es (row_due e ∷ xs) l cs) (flat_map (body_items m) bs) ≡ true → ⊥
lacks_row m l es e xs cs [] h = both_ways false refl h
lacks_row m l es e xs cs (b ∷ bs) h = both_ways false refl h

lacks_map : (m l : ℕ) (es : List Contents) (e : Contents) (xs : List Slot) (cs : List (List ℤ)) (bs : List Body) → whole (at_state m es (map_due e ∷ xs) l cs) (flat_map (body_items m) bs) ≡ true → ⊥
lacks_map m l es e xs cs [] h = both_ways false refl h
lacks_map m l es e xs cs (b ∷ bs) h = both_ways false refl h

-- a body e, and then those of next
module _ (m l : ℕ) (es : List Contents) (e : Contents) (next : List Contents) (bs : List Body) where
  rows_read : (n : ℕ) (rs cs : List (List ℤ)) → whole (at_state m es (replicate n (row_due e) ++ bodies_due next) l cs) (map row_line rs ++ flat_map (body_items m) bs) ≡ true → (ds : List (List ℤ)) × (right_rows e es cs rs ≡ true) × (whole (at_state m es (bodies_due next) l ds) (flat_map (body_items m) bs) ≡ true)
  rows_read zero [] cs h = (cs, refl, h)
  rows_read zero (zs ∷ rs) cs h = absurd (no_row m l es next cs zs (map row_line rs ++ flat_map (body_items m) bs) h)
  rows_read (suc n) [] cs h = absurd (lacks_row m l es e (replicate n (row_due e) ++ bodies_due next) cs bs h)
  rows_read (suc n) (zs ∷ rs) cs h =
      let s = at_state m es (row_due e ∷ (replicate n (row_due e) ++ bodies_due next)) l cs in
      let its = map row_line rs ++ flat_map (body_items m) bs in
      let p = and_parts (fits s (row_line zs)) (whole (advance s (row_line zs)) its) h in
      let r = rows_read n rs (cs ++ zs ∷ []) p.1 in
      (r.0, and_from (right_row e es cs zs) (right_rows e es (cs ++ zs ∷ []) rs) p.0 r.1, r.2)

  mapped_rows : (n : ℕ) (rs : List (List ℤ)) → whole (at_state m es (map_due e ∷ (replicate n (row_due e) ++ bodies_due next)) l []) (map row_line rs ++ flat_map (body_items m) bs) ≡ true → (ds : List (List ℤ)) × (right_mapped e es rs ≡ true) × (whole (at_state m es (bodies_due next) l ds) (flat_map (body_items m) bs) ≡ true)
  mapped_rows n [] h = absurd (lacks_map m l es e (replicate n (row_due e) ++ bodies_due next) [] bs h)
  mapped_rows n (zs ∷ rs) h =
      let s = at_state m es (map_due e ∷ (replicate n (row_due e) ++ bodies_due next)) l [] in
      let its = map row_line rs ++ flat_map (body_items m) bs in
      let p = and_parts (fits s (row_line zs)) (whole (advance s (row_line zs)) its) h in
      let r = rows_read n rs [] p.1 in
      (r.0, and_from (right_map e es zs) (right_rows e es [] rs) p.0 r.1, r.2)

  body_read : (rs : List (List ℤ)) → whole (at_state m es (rows_due e ++ bodies_due next) l []) (map row_line rs ++ flat_map (body_items m) bs) ≡ true → (ds : List (List ℤ)) × (right_kind e es rs ≡ true) × (whole (at_state m es (bodies_due next) l ds) (flat_map (body_items m) bs) ≡ true)
  body_read rs h = ⊎_elim
      (λ (t : has_map e.kind ≡ true).
      let w = subst (λ xs. whole (at_state m es (xs ++ bodies_due next) l []) (map row_line rs ++ flat_map (body_items m) bs) ≡ true) (cond-true (has_map e.kind) (map_due e ∷ replicate (e.rows - 1) (row_due e)) (replicate e.rows (row_due e)) t) h in
      let r = mapped_rows (e.rows - 1) rs w in
      (r.0, cond-true (has_map e.kind) (right_mapped e es rs) (right_rows e es [] rs) t ∙ r.1, r.2))
      (λ (f : has_map e.kind ≡ false).
      let w = subst (λ xs. whole (at_state m es (xs ++ bodies_due next) l []) (map row_line rs ++ flat_map (body_items m) bs) ≡ true) (cond-false (has_map e.kind) (map_due e ∷ replicate (e.rows - 1) (row_due e)) (replicate e.rows (row_due e)) f) h in
      let r = rows_read e.rows rs [] w in
      (r.0, cond-false (has_map e.kind) (right_mapped e es rs) (right_rows e es [] rs) f ∙ r.1, r.2))
      (cases_Bool (has_map e.kind))

bodies_read : (m : ℕ) (es : List Contents) (bs : List Body) (l : ℕ) (cs : List (List ℤ)) → whole (at_state m es (bodies_due (contents_of bs)) l cs) (flat_map (body_items m) bs) ≡ true → list_all (right_body es) bs ≡ true
bodies_read m es [] l cs h = refl
bodies_read m es (b ∷ bs) l cs h =
    let e = b.contents in
    let s = at_state m es (body_due e ∷ (rows_due e ++ bodies_due (contents_of bs))) l cs in
    let its = map row_line b.rows ++ flat_map (body_items m) bs in
    let p = and_parts (fits s (body_line e.kind m)) (whole (advance s (body_line e.kind m)) its) h in
    let r = body_read m (letter_of e.kind) es e (contents_of bs) bs b.rows p.1 in
    and_from (right_body es b) (list_all (right_body es) bs) r.1 (bodies_read m es bs (letter_of e.kind) r.0 r.2)

contents_read : (m : ℕ) (its : List Item) (rest : List Contents) (e : Contents) (done : List Contents) → whole (at_state m done (replicate (suc (length rest)) contents_due) 45 []) (map contents_line (e ∷ rest) ++ its) ≡ true → (in_order e.kind done ≡ true) × (list_all in_ranges (e ∷ rest) ≡ true) × (whole (at_state m (done ++ e ∷ rest) (bodies_due (done ++ e ∷ rest)) 45 []) its ≡ true)
contents_read m its [] e done h =
    let s = at_state m done (contents_due ∷ []) 45 [] in
    let p = and_parts (fits s (contents_line e)) (whole (advance s (contents_line e)) its) h in
    let q = and_parts (in_ranges e) (in_order e.kind done) p.0 in
    (q.1, and_from (in_ranges e) true q.0 refl, p.1)
contents_read m its (f ∷ rest) e done h =
    let s = at_state m done (contents_due ∷ replicate (suc (length rest)) contents_due) 45 [] in
    let tail = map contents_line (f ∷ rest) ++ its in
    let p = and_parts (fits s (contents_line e)) (whole (advance s (contents_line e)) tail) h in
    let q = and_parts (in_ranges e) (in_order e.kind done) p.0 in
    let r = contents_read m its rest f (done ++ e ∷ []) p.1 in
    (q.1, and_from (in_ranges e) (list_all in_ranges (f ∷ rest)) q.0 r.1, subst (λ x. whole (at_state m x (bodies_due x) 45 []) its ≡ true) (append_assoc done (e ∷ []) (f ∷ rest)) r.2)

-- the bodies are right, and the first is the outer one
pub record Right (bs : List Body) : Type 0 where
  pub ranges : list_all in_ranges (contents_of bs) ≡ true
  pub bodies : list_all (right_body (contents_of bs)) bs ≡ true
  pub outer : Contents
  pub first : entry_at Outer (contents_of bs) ≡ Some outer

same_length : (bs : List Body) → length bs ≡ length (contents_of bs)
same_length [] = refl
same_length (b ∷ bs) = ap suc (same_length bs)

pub problem_read : (m : ℕ) (bs : List Body) → whole start (items_of (record { map = m; bodies = bs })) ≡ true → Right bs
problem_read m [] h =
    let head : Heading = record { map = m; bodies = 0 } in
    let p = and_parts (fits start (heading_line head)) (whole (advance start (heading_line head)) []) h in
    absurd (both_ways false refl (and_parts (is_map m) false p.0).1)
problem_read m (b ∷ bs) h =
    let head : Heading = record { map = m; bodies = length (b ∷ bs) } in
    let its = flat_map (body_items m) (b ∷ bs) in
    let tail = map contents_line (contents_of (b ∷ bs)) ++ its in
    let p = and_parts (fits start (heading_line head)) (whole (advance start (heading_line head)) tail) h in
    let w = subst (λ n. whole (at_state m [] (replicate (suc n) contents_due) 45 []) tail ≡ true) (same_length bs) p.1 in
    let r = contents_read m its (contents_of bs) b.contents [] w in
    let kind = same_kind_is b.contents.kind Outer r.0 in
    let there : same_kind Outer b.contents.kind ≡ true = subst (λ k. same_kind Outer k ≡ true) (sym kind) refl in
    record {
      ranges = r.1;
      bodies = bodies_read m (contents_of (b ∷ bs)) (b ∷ bs) 45 [] r.2;
      outer = b.contents;
      first = cond-true (same_kind Outer b.contents.kind) (Some b.contents) (entry_at Outer (contents_of bs)) there;
    }
