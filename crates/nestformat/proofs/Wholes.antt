-- The items of a problem that is right are a whole reading. Assumes nothing.
use Rattle.std.proofs.Common.{◌≡◌, ℕ, suc, ◌+◌, ◌-◌, ◌≤◌, Bool, true, false, cond, ◌&&◌, List, [], ◌∷◌, ◌++◌, map, flat_map, length, drop, replicate, ℤ, Some, None, is_none, nat_lt, nat_le, append_assoc, length-append, sym, refl, ap, ◌∙◌, subst, arith}
use Rattle.std.specs.List.{AllByRecursion, list_all}
use Rattle.std.proofs.lemmas.Bool.{both_ways, and_from, and_parts, le-leb, lt-ltb, eq-eqb, cond-true, cond-false}
use Rattle.refusals.specs.declared.Refusal.{Refusal}
use Rattle.refusals.specs.declared.Refusal.TheVariants.{LiteralOutOfRange, ClauseTableFull, LiteralTableFull}
use Rattle.assignments.specs.Literals.{all_in_range}
use Rattle.clauses.specs.Adding.{literal_count, refusal_of_adding}
use Rattle.nestformat.specs.declared.kinds.BodyKind.{BodyKind}
use Rattle.nestformat.specs.declared.kinds.BodyKind.TheVariants.{Outer, Nest, Below, Loop, Milliamperes, Lines}
use Rattle.nestformat.specs.declared.kinds.Contents.{Contents}
use Rattle.nestformat.specs.Limits.{body_limit, from_to, within}
use Rattle.nestformat.specs.Kinds.{letter_of, has_clauses, has_map, atoms_in, in_ranges}
use Rattle.nestformat.specs.Items.{Item, heading_line, contents_line, body_line, row_line, Body, Problem, contents_of, body_items, items_of}
use Rattle.nestformat.specs.Due.{Slot, contents_due, body_due, map_due, row_due, State, start, due, rows_due, bodies_due, or_bodies, clauses_with, advance, fits, fits_at, in_order, in_row, atoms_at, first_is_atom, row_form, well_formed, unless_out, is_map}
use Rattle.nestformat.specs.Reading.{finished, whole}
use Rattle.nestformat.specs.Problems.{contents_right, RightClauses, RightNest, RightRow, RightRows, RightBody, RightProblem}
use Rattle.nestformat.proofs.Parts.{Taken, count_push}

-- whatever is due then, the items are whole
abbrev pub Completes : State → List Slot → List Item → Type 0
Completes s ys its = (after : State) → after.todo ≡ ys → after.map ≡ s.map → after.contents ≡ s.contents → whole after its ≡ true

-- a line more in front
put : (s : State) (x : Slot) (xs : List Slot) (it : Item) (its : List Item) → s.todo ≡ x ∷ xs → fits_at x s it ≡ true → whole (advance s it) its ≡ true → whole s (it ∷ its) ≡ true
put s x xs it its t f w = and_from (fits s it) _ (subst (λ y. fits_at (due y) s it ≡ true) (sym t) f) w

rows_whole : (e : Contents) (rows : List (List ℤ)) (ys : List Slot) (its : List Item) (s : State) → s.todo ≡ replicate (length rows) (row_due e) ++ ys → Taken e s.contents s.clauses rows → Completes s ys its → whole s (map row_line rows ++ its) ≡ true
rows_whole e [] ys its s t h k = k s t refl refl
rows_whole e (zs ∷ rows) ys its s t h k =
    let c : clauses_with (due s.todo) zs s.clauses ≡ s.clauses ++ zs ∷ [] = ap (λ x. clauses_with (due x) zs s.clauses) t in
    put s (row_due e) (replicate (length rows) (row_due e) ++ ys) (row_line zs) (map row_line rows ++ its) t
    (and_from (well_formed (row_due e) zs) _ h.0 h.1)
    (rows_whole e rows ys its (advance s (row_line zs)) (ap (drop 1) t) (subst (λ cs. Taken e s.contents cs rows) (sym c) h.2) k)

-- clauses

clause_form : (k : BodyKind) (n : ℕ) (zs : List ℤ) → has_clauses k ≡ true → row_form k n zs ≡ true
clause_form Outer n zs h = refl
clause_form Nest n zs h = refl
clause_form Below n zs h = refl
clause_form _ n zs h = absurd (both_ways _ refl h)

three_none : (a b c : Bool) (x y z : Refusal) → a ≡ true → b ≡ true → c ≡ true → is_none (cond a (cond b (cond c None (Some x)) (Some y)) (Some z)) ≡ true
three_none true true true x y z p q r = refl
three_none true true false x y z p q r = r
three_none true false c x y z p q r = q
three_none false b c x y z p q r = p

taken_clauses : (e : Contents) (es : List Contents) (cs rows : List (List ℤ)) → has_clauses e.kind ≡ true → AllByRecursion (λ zs. list_all in_row zs ≡ true) rows → AllByRecursion (λ c. all_in_range (atoms_in e) c ≡ true) rows → length cs + length rows ≤ 400 → literal_count cs + literal_count rows ≤ 2000 → Taken e es cs rows
taken_clauses e es cs [] k numbers each few short = tt
taken_clauses e es cs (zs ∷ rows) k numbers each few short =
    let pushed = count_push cs zs in
    let longer = length-append cs (zs ∷ []) in
    let none = three_none (all_in_range (atoms_in e) zs) (nat_lt (length cs) 400) (nat_le (literal_count cs + length zs) 2000) LiteralTableFull ClauseTableFull LiteralOutOfRange each.0 (lt-ltb (length cs) 400 (omega arith)) (le-leb (literal_count cs + length zs) 2000 (omega arith)) in (
      and_from (list_all in_row zs) _ numbers.0 (clause_form e.kind e.size zs k),
      ap is_none (cond-true _ (refusal_of_adding (atoms_in e) cs zs) (unless_out (first_is_atom (atoms_at Outer es) zs)) k) ∙ none,
      taken_clauses e es (cs ++ zs ∷ []) rows k numbers.1 each.1 (omega arith) (omega arith),
    )

taken_right : (e : Contents) (es : List Contents) (rows : List (List ℤ)) → has_clauses e.kind ≡ true → AllByRecursion (λ zs. list_all in_row zs ≡ true) rows → RightClauses (atoms_in e) rows → Taken e es [] rows
taken_right e es rows k numbers h =
    let few = h.few in
    let short = h.short in
    taken_clauses e es [] rows k numbers h.each (omega arith) (omega arith)

-- arcs and loads
taken_rows : (e : Contents) (es : List Contents) (cs rows : List (List ℤ)) → has_clauses e.kind ≡ false → AllByRecursion (λ zs. list_all in_row zs ≡ true) rows → AllByRecursion (RightRow es e) rows → Taken e es cs rows
taken_rows e es cs [] k numbers h = tt
taken_rows e es cs (zs ∷ rows) k numbers h = (
  and_from (list_all in_row zs) _ numbers.0 h.0.formed,
  ap is_none (cond-false _ (refusal_of_adding (atoms_in e) cs zs) (unless_out (first_is_atom (atoms_at Outer es) zs)) k) ∙ ap (λ b. is_none (unless_out b)) h.0.atom,
  taken_rows e es (cs ++ zs ∷ []) rows k numbers.1 h.1,
)

-- a body after its first line

plain_whole : (e : Contents) (rows : List (List ℤ)) (ys : List Slot) (its : List Item) (s : State) → has_map e.kind ≡ false → s.clauses ≡ [] → length rows ≡ e.rows → Taken e s.contents [] rows → s.todo ≡ rows_due e ++ ys → Completes s ys its → whole s (map row_line rows ++ its) ≡ true
plain_whole e rows ys its s m c n h t k =
    rows_whole e rows ys its s
    (t ∙ ap (λ l. l ++ ys) (cond-false _ _ _ m ∙ ap (λ x. replicate x (row_due e)) (sym n)))
    (subst (λ cs. Taken e s.contents cs rows) (sym c) h)
    k

nest_whole : (e : Contents) (rows : List (List ℤ)) (ys : List Slot) (its : List Item) (s : State) → has_map e.kind ≡ true → has_clauses e.kind ≡ true → s.clauses ≡ [] → length rows ≡ e.rows → AllByRecursion (λ zs. list_all in_row zs ≡ true) rows → RightNest s.contents e rows → s.todo ≡ rows_due e ++ ys → Completes s ys its → whole s (map row_line rows ++ its) ≡ true
nest_whole e [] ys its s m q c n numbers h t k = absurd h
nest_whole e (zs ∷ rows) ys its s m q c n numbers h t k =
    let fewer : e.rows - 1 ≡ length rows = omega arith in
    let t' : s.todo ≡ map_due e ∷ (replicate (length rows) (row_due e) ++ ys) = t ∙ ap (λ l. l ++ ys) (cond-true _ _ _ m ∙ ap (λ x. map_due e ∷ replicate x (row_due e)) fewer) in
    let c' : clauses_with (due s.todo) zs s.clauses ≡ [] = ap (λ x. clauses_with (due x) zs s.clauses) t' ∙ c in
    put s (map_due e) (replicate (length rows) (row_due e) ++ ys) (row_line zs) (map row_line rows ++ its) t'
    (and_from (well_formed (map_due e) zs) _ (and_from (list_all in_row zs) _ numbers.0 (eq-eqb (length zs) e.size h.0.exact)) (ap (λ b. is_none (unless_out b)) h.0.each))
    (rows_whole e rows ys its (advance s (row_line zs)) (ap (drop 1) t') (subst (λ cs. Taken e s.contents cs rows) (sym c') (taken_right e s.contents rows q numbers.1 h.1)) k)

body_whole : (k : BodyKind) (e : Contents) (rows : List (List ℤ)) (ys : List Slot) (its : List Item) (s : State) → k ≡ e.kind → s.clauses ≡ [] → length rows ≡ e.rows → AllByRecursion (λ zs. list_all in_row zs ≡ true) rows → RightRows k s.contents e rows → s.todo ≡ rows_due e ++ ys → Completes s ys its → whole s (map row_line rows ++ its) ≡ true
body_whole Outer e rows ys its s q c n numbers h t k = plain_whole e rows ys its s (ap has_map (sym q)) c n (taken_right e s.contents rows (ap has_clauses (sym q)) numbers h) t k
body_whole Nest e rows ys its s q c n numbers h t k = nest_whole e rows ys its s (ap has_map (sym q)) (ap has_clauses (sym q)) c n numbers h t k
body_whole Below e rows ys its s q c n numbers h t k = nest_whole e rows ys its s (ap has_map (sym q)) (ap has_clauses (sym q)) c n numbers h t k
body_whole Loop e rows ys its s q c n numbers h t k = plain_whole e rows ys its s (ap has_map (sym q)) c n (taken_rows e s.contents [] rows (ap has_clauses (sym q)) numbers h) t k
body_whole Milliamperes e rows ys its s q c n numbers h t k = plain_whole e rows ys its s (ap has_map (sym q)) c n (taken_rows e s.contents [] rows (ap has_clauses (sym q)) numbers h) t k
body_whole Lines e rows ys its s q c n numbers h t k = plain_whole e rows ys its s (ap has_map (sym q)) c n (taken_rows e s.contents [] rows (ap has_clauses (sym q)) numbers h) t k

-- the bodies

bodies_whole : (m : ℕ) (es : List Contents) (bs : List Body) (s : State) → is_map m ≡ true → s.map ≡ m → s.contents ≡ es → AllByRecursion (RightBody es) bs → s.todo ≡ bodies_due (contents_of bs) → whole s (flat_map (body_items m) bs) ≡ true
bodies_whole m es [] s l e c h t = ap finished t
bodies_whole m es (b ∷ bs) s l e c h t =
    let k = b.contents.kind in
    let r : RightRows k s.contents b.contents b.rows = subst (λ x. RightRows k x b.contents b.rows) (sym c) h.0.rows in
    put s (body_due b.contents) (rows_due b.contents ++ bodies_due (contents_of bs)) (body_line k m) (map row_line b.rows ++ flat_map (body_items m) bs) t
    (and_from _ _ (eq-eqb (letter_of k) (letter_of k) refl) (and_from _ _ (eq-eqb m s.map (sym e)) l))
    (body_whole k b.contents b.rows (bodies_due (contents_of bs)) (flat_map (body_items m) bs) (advance s (body_line k m)) refl refl h.0.count h.0.numbers r (ap (drop 1) t)
    (λ after at same_map same_contents. bodies_whole m es bs after l (same_map ∙ e) (same_contents ∙ c) h.1 at))

-- the contents

contents_whole : (e : Contents) (es : List Contents) (its : List Item) (s : State) → s.todo ≡ replicate (length (e ∷ es)) contents_due → contents_right s.contents (e ∷ es) ≡ true → ((after : State) → after.todo ≡ bodies_due (s.contents ++ e ∷ es) → after.map ≡ s.map → after.contents ≡ s.contents ++ e ∷ es → whole after its ≡ true) → whole s (map contents_line (e ∷ es) ++ its) ≡ true
contents_whole e [] its s t h k =
    let p = and_parts (in_ranges e && in_order e.kind s.contents) true h in
    put s contents_due [] (contents_line e) its t p.0 (k (advance s (contents_line e)) (ap (λ x. or_bodies (drop 1 x) (s.contents ++ e ∷ [])) t) refl refl)
contents_whole e (f ∷ fs) its s t h k =
    let p = and_parts (in_ranges e && in_order e.kind s.contents) (contents_right (s.contents ++ e ∷ []) (f ∷ fs)) h in
    let joined : (s.contents ++ e ∷ []) ++ f ∷ fs ≡ s.contents ++ e ∷ f ∷ fs = append_assoc s.contents (e ∷ []) (f ∷ fs) in
    put s contents_due (replicate (length (f ∷ fs)) contents_due) (contents_line e) (map contents_line (f ∷ fs) ++ its) t p.0
    (contents_whole f fs its (advance s (contents_line e)) (ap (λ x. or_bodies (drop 1 x) (s.contents ++ e ∷ [])) t) p.1
    (λ after at same_map same. k after (at ∙ ap bodies_due joined) same_map (same ∙ joined)))

contents_length : (bs : List Body) → length bs ≡ length (contents_of bs)
contents_length [] = refl
contents_length (b ∷ bs) = ap suc (contents_length bs)

after_heading : (m : ℕ) (bs : List Body) (its : List Item) → within (from_to 1 body_limit) (length bs) ≡ true → contents_right [] (contents_of bs) ≡ true → ((after : State) → after.todo ≡ bodies_due (contents_of bs) → after.map ≡ m → after.contents ≡ contents_of bs → whole after its ≡ true) → whole (advance start (heading_line (record { map = m; bodies = length bs }))) (map contents_line (contents_of bs) ++ its) ≡ true
after_heading m [] its some h k = absurd (both_ways _ refl some)
after_heading m (b ∷ bs) its some h k =
    contents_whole b.contents (contents_of bs) its (advance start (heading_line (record { map = m; bodies = length (b ∷ bs) }))) (ap (λ x. replicate x contents_due) (contents_length (b ∷ bs))) h k

pub right_is_whole : (p : Problem) → RightProblem p → whole start (items_of p) ≡ true
right_is_whole p h =
    and_from _ _ (and_from _ _ h.map h.some)
    (after_heading p.map p.bodies (flat_map (body_items p.map) p.bodies) h.some h.contents
    (λ after at same_map same. bodies_whole p.map (contents_of p.bodies) p.bodies after h.map same_map same h.bodies at))
