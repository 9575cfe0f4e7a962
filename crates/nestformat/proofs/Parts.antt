-- The items of a whole reading are those of a problem that is right. Assumes nothing.
use Rattle.std.proofs.Common.{◌≡◌, ℕ, zero, suc, ◌+◌, ◌-◌, ◌≤◌, Bool, true, false, cond, ◌&&◌, List, [], ◌∷◌, ◌++◌, map, flat_map, length, drop, replicate, ℤ, Some, None, is_none, nat_lt, nat_le, append_assoc, length-append, sym, refl, ap, ◌∙◌, subst, ap₂, arith}
use Rattle.std.specs.List.{AllByRecursion, list_all}
use Rattle.std.proofs.lemmas.Bool.{both_ways, and_from, and_parts, leb-true, ltb-true, eqb-true, cond-true, cond-false}
use Rattle.refusals.specs.declared.Refusal.{Refusal}
use Rattle.refusals.specs.declared.Refusal.TheVariants.{LiteralOutOfRange, ClauseTableFull, LiteralTableFull}
use Rattle.assignments.specs.Literals.{all_in_range}
use Rattle.clauses.specs.Adding.{literal_count, refusal_of_adding}
use Rattle.nestformat.specs.declared.kinds.BodyKind.{BodyKind}
use Rattle.nestformat.specs.declared.kinds.BodyKind.TheVariants.{Outer, Nest, Below, Loop, Milliamperes, Lines}
use Rattle.nestformat.specs.declared.kinds.Contents.{Contents}
use Rattle.nestformat.specs.declared.kinds.Heading.{Heading}
use Rattle.nestformat.specs.Limits.{body_limit, from_to, within}
use Rattle.nestformat.specs.Kinds.{same_kind, has_clauses, has_map, rows_range, atoms_in, in_ranges}
use Rattle.nestformat.specs.Items.{Item, heading_line, contents_line, body_line, row_line, Body, Problem, contents_of, body_items, items_of}
use Rattle.nestformat.specs.Due.{Slot, contents_due, body_due, map_due, row_due, State, start, due, rows_due, bodies_due, or_bodies, clauses_with, advance, fits, fits_at, in_order, in_row, atoms_at, first_is_atom, form, well_formed, unless_out, map_refusal, row_refusal, is_map}
use Rattle.nestformat.specs.Reading.{finished, whole}
use Rattle.nestformat.specs.Problems.{contents_right, RightClauses, RightNest, RightRow, RightRows, RightBody, RightProblem}
use Rattle.nestformat.proofs.KindLaws.{same_kind_is}
use Rattle.nestformat.proofs.Backs.{contents_small}

-- the items that are left are whole where ys is due
pub record Rest (s : State) (ys : List Slot) (tail : List Item) : Type 0 where
  pub after : State
  pub todo : after.todo ≡ ys
  pub same_map : after.map ≡ s.map
  pub same_contents : after.contents ≡ s.contents
  pub goes_on : whole after tail ≡ true

-- where a line is due there is an item
pub lacking : (s : State) (x : Slot) (xs : List Slot) → s.todo ≡ x ∷ xs → whole s [] ≡ true → ⊥
lacking s x xs t w = let f : finished (x ∷ xs) ≡ true = subst (λ y. finished y ≡ true) t w in both_ways _ refl f

pub record Step (s : State) (x : Slot) (it : Item) (its : List Item) : Type 0 where
  pub here : fits_at x s it ≡ true
  pub more : whole (advance s it) its ≡ true

pub step : (s : State) (x : Slot) (xs : List Slot) (it : Item) (its : List Item) → s.todo ≡ x ∷ xs → whole s (it ∷ its) ≡ true → Step s x it its
step s x xs it its t w =
    let p = and_parts (fits s it) (whole (advance s it) its) w in
    record { here = subst (λ y. fits_at (due y) s it ≡ true) t p.0; more = p.1 }

-- rows of one body

-- one after the other, none is refused, where cs are held
abbrev pub Taken : Contents → List Contents → List (List ℤ) → List (List ℤ) → Type 0
Taken e es cs [] = Unit {0}
Taken e es cs (zs ∷ rows) = (well_formed (row_due e) zs ≡ true) × (is_none (row_refusal e es cs zs) ≡ true) × Taken e es (cs ++ zs ∷ []) rows

pub record RowsTaken (n : ℕ) (e : Contents) (ys : List Slot) (s : State) (its : List Item) : Type 0 where
  pub rows : List (List ℤ)
  pub tail : List Item
  pub is : its ≡ map row_line rows ++ tail
  pub count : length rows ≡ n
  pub taken : Taken e s.contents s.clauses rows
  pub rest : Rest s ys tail

abbrev pub AllRowsTaken : ℕ → Contents → List Slot → Type 0
AllRowsTaken n e ys = (s : State) (its : List Item) → s.todo ≡ replicate n (row_due e) ++ ys → whole s its ≡ true → RowsTaken n e ys s its

row_more : (n : ℕ) (e : Contents) (ys : List Slot) → AllRowsTaken n e ys → (s : State) (it : Item) (its : List Item) → s.todo ≡ row_due e ∷ (replicate n (row_due e) ++ ys) → Step s (row_due e) it its → RowsTaken (suc n) e ys s (it ∷ its)
row_more n e ys more s (row_line zs) its t h =
    let r = more (advance s (row_line zs)) its (ap (drop 1) t) h.more in
    let p = and_parts (well_formed (row_due e) zs) _ h.here in
    let c : clauses_with (due s.todo) zs s.clauses ≡ s.clauses ++ zs ∷ [] = ap (λ x. clauses_with (due x) zs s.clauses) t in
    record {
      rows = zs ∷ r.rows;
      tail = r.tail;
      is = ap (λ l. row_line zs ∷ l) r.is;
      count = ap suc r.count;
      taken = (p.0, p.1, subst (λ cs. Taken e s.contents cs r.rows) c r.taken);
      rest = record { after = r.rest.after; todo = r.rest.todo; same_map = r.rest.same_map; same_contents = r.rest.same_contents; goes_on = r.rest.goes_on };
    }
row_more n e ys more s _ its t h = absurd (both_ways _ refl h.here)

pub rows_taken : (n : ℕ) (e : Contents) (ys : List Slot) → AllRowsTaken n e ys
rows_taken zero e ys s its t w = record { rows = []; tail = its; is = refl; count = refl; taken = tt; rest = record { after = s; todo = t; same_map = refl; same_contents = refl; goes_on = w } }
rows_taken (suc n) e ys s [] t w = absurd (lacking s (row_due e) (replicate n (row_due e) ++ ys) t w)
rows_taken (suc n) e ys s (it ∷ its) t w = row_more n e ys (rows_taken n e ys) s it its t (step s (row_due e) (replicate n (row_due e) ++ ys) it its t w)

numbers_taken : (e : Contents) (es : List Contents) (cs rows : List (List ℤ)) → Taken e es cs rows → AllByRecursion (λ zs. list_all in_row zs ≡ true) rows
numbers_taken e es cs [] h = tt
numbers_taken e es cs (zs ∷ rows) h = ((and_parts (list_all in_row zs) (form (row_due e) zs) h.0).0, numbers_taken e es (cs ++ zs ∷ []) rows h.2)

-- clauses

none_of_three : (a b c : Bool) (x y z : Refusal) → is_none (cond a (cond b (cond c None (Some x)) (Some y)) (Some z)) ≡ true → (a ≡ true) × (b ≡ true) × (c ≡ true)
none_of_three true true true x y z h = (refl, refl, refl)
none_of_three true true false x y z h = absurd (both_ways _ refl h)
none_of_three true false c x y z h = absurd (both_ways _ refl h)
none_of_three false b c x y z h = absurd (both_ways _ refl h)

pub count_push : (cs : List (List ℤ)) (zs : List ℤ) → literal_count (cs ++ zs ∷ []) ≡ literal_count cs + length zs
count_push [] zs = omega arith
count_push (c ∷ cs) zs = omega (arith, count_push cs zs)

-- what the clauses are, of which cs were held before
pub record Held (n : ℕ) (cs rows : List (List ℤ)) : Type 0 where
  pub each : AllByRecursion (λ c. all_in_range n c ≡ true) rows
  pub few : length cs + length rows ≤ 400
  pub short : literal_count cs + literal_count rows ≤ 2000

clauses_taken : (e : Contents) (es : List Contents) (cs rows : List (List ℤ)) → has_clauses e.kind ≡ true → Taken e es cs rows → length cs ≤ 400 → literal_count cs ≤ 2000 → Held (atoms_in e) cs rows
clauses_taken e es cs [] k h few short = record { each = tt; few = omega arith; short = omega arith }
clauses_taken e es cs (zs ∷ rows) k h few short =
    let none : is_none (refusal_of_adding (atoms_in e) cs zs) ≡ true = sym (ap is_none (cond-true _ (refusal_of_adding (atoms_in e) cs zs) (unless_out (first_is_atom (atoms_at Outer es) zs)) k)) ∙ h.1 in
    let p = none_of_three (all_in_range (atoms_in e) zs) (nat_lt (length cs) 400) (nat_le (literal_count cs + length zs) 2000) LiteralTableFull ClauseTableFull LiteralOutOfRange none in
    let room = ltb-true (length cs) 400 p.1 in
    let fewer = leb-true (literal_count cs + length zs) 2000 p.2 in
    let pushed = count_push cs zs in
    let longer = length-append cs (zs ∷ []) in
    let r = clauses_taken e es (cs ++ zs ∷ []) rows k h.2 (omega arith) (omega arith) in
    let rf = r.few in
    let rs = r.short in
    record { each = (p.0, r.each); few = omega arith; short = omega arith }

clauses_right : (e : Contents) (es : List Contents) (rows : List (List ℤ)) → has_clauses e.kind ≡ true → Taken e es [] rows → RightClauses (atoms_in e) rows
clauses_right e es rows k h =
    let r = clauses_taken e es [] rows k h (omega arith) (omega arith) in
    let rf = r.few in
    let rs = r.short in
    record { each = r.each; few = omega arith; short = omega arith }

-- arcs and loads

not_out : (b : Bool) → is_none (unless_out b) ≡ true → b ≡ true
not_out true h = refl
not_out false h = h

rows_right : (e : Contents) (es : List Contents) (cs rows : List (List ℤ)) → has_clauses e.kind ≡ false → Taken e es cs rows → AllByRecursion (RightRow es e) rows
rows_right e es cs [] k h = tt
rows_right e es cs (zs ∷ rows) k h =
    let none : is_none (unless_out (first_is_atom (atoms_at Outer es) zs)) ≡ true = sym (ap is_none (cond-false _ (refusal_of_adding (atoms_in e) cs zs) (unless_out (first_is_atom (atoms_at Outer es) zs)) k)) ∙ h.1 in (
      record { formed = (and_parts (list_all in_row zs) (form (row_due e) zs) h.0).1; atom = not_out _ none },
      rows_right e es (cs ++ zs ∷ []) rows k h.2,
    )

-- a body after its first line

pub record BodyTaken (e : Contents) (ys : List Slot) (s : State) (its : List Item) : Type 0 where
  pub rows : List (List ℤ)
  pub tail : List Item
  pub is : its ≡ map row_line rows ++ tail
  pub right : RightBody s.contents (record { contents = e; rows = rows })
  pub rest : Rest s ys tail

plain_body : (e : Contents) (ys : List Slot) (s : State) (its : List Item) → has_map e.kind ≡ false → s.clauses ≡ [] → ((rows : List (List ℤ)) → Taken e s.contents [] rows → RightRows e.kind s.contents e rows) → s.todo ≡ rows_due e ++ ys → whole s its ≡ true → BodyTaken e ys s its
plain_body e ys s its k c right t w =
    let r = rows_taken e.rows e ys s its (t ∙ ap (λ l. l ++ ys) (cond-false _ _ _ k)) w in
    let taken = subst (λ cs. Taken e s.contents cs r.rows) c r.taken in
    record {
      rows = r.rows;
      tail = r.tail;
      is = r.is;
      right = record { count = r.count; numbers = numbers_taken e s.contents [] r.rows taken; rows = right r.rows taken };
      rest = r.rest;
    }

map_more : (e : Contents) (ys : List Slot) (s : State) (it : Item) (its : List Item) → has_clauses e.kind ≡ true → 1 ≤ e.rows → s.clauses ≡ [] → ((rows : List (List ℤ)) → RightNest s.contents e rows → RightRows e.kind s.contents e rows) → s.todo ≡ map_due e ∷ (replicate (e.rows - 1) (row_due e) ++ ys) → Step s (map_due e) it its → BodyTaken e ys s (it ∷ its)
map_more e ys s (row_line zs) its k some c right t h =
    let c' : clauses_with (due s.todo) zs s.clauses ≡ [] = ap (λ x. clauses_with (due x) zs s.clauses) t ∙ c in
    let r = rows_taken (e.rows - 1) e ys (advance s (row_line zs)) its (ap (drop 1) t) h.more in
    let taken = subst (λ cs. Taken e s.contents cs r.rows) c' r.taken in
    let p = and_parts (well_formed (map_due e) zs) (is_none (map_refusal e s.contents zs)) h.here in
    let q = and_parts (list_all in_row zs) (form (map_due e) zs) p.0 in
    let count = r.count in
    record {
      rows = zs ∷ r.rows;
      tail = r.tail;
      is = ap (λ l. row_line zs ∷ l) r.is;
      right = record {
        count = omega arith;
        numbers = (q.0, numbers_taken e s.contents [] r.rows taken);
        rows = right (zs ∷ r.rows) (record { exact = eqb-true (length zs) e.size q.1; each = not_out _ p.1 }, clauses_right e s.contents r.rows k taken);
      };
      rest = record { after = r.rest.after; todo = r.rest.todo; same_map = r.rest.same_map; same_contents = r.rest.same_contents; goes_on = r.rest.goes_on };
    }
map_more e ys s _ its k some c right t h = absurd (both_ways _ refl h.here)

nest_body : (e : Contents) (ys : List Slot) (s : State) (its : List Item) → has_map e.kind ≡ true → has_clauses e.kind ≡ true → 1 ≤ e.rows → s.clauses ≡ [] → ((rows : List (List ℤ)) → RightNest s.contents e rows → RightRows e.kind s.contents e rows) → s.todo ≡ rows_due e ++ ys → whole s its ≡ true → BodyTaken e ys s its
nest_body e ys s [] m k some c right t w = absurd (lacking s (map_due e) _ (t ∙ ap (λ l. l ++ ys) (cond-true _ _ _ m)) w)
nest_body e ys s (it ∷ its) m k some c right t w =
    let t' : s.todo ≡ map_due e ∷ (replicate (e.rows - 1) (row_due e) ++ ys) = t ∙ ap (λ l. l ++ ys) (cond-true _ _ _ m) in
    map_more e ys s it its k some c right t' (step s (map_due e) _ it its t' w)

rows_low : (e : Contents) (k : BodyKind) → k ≡ e.kind → in_ranges e ≡ true → (rows_range k).low ≤ e.rows
rows_low e k q h = subst (λ x. (rows_range x).low ≤ e.rows) (sym q) (contents_small e h).low

pub body_taken : (k : BodyKind) (e : Contents) → k ≡ e.kind → in_ranges e ≡ true → (ys : List Slot) (s : State) (its : List Item) → s.clauses ≡ [] → s.todo ≡ rows_due e ++ ys → whole s its ≡ true → BodyTaken e ys s its
body_taken Outer e q h ys s its c t w = plain_body e ys s its (ap has_map (sym q)) c (λ rows d. subst (λ k. RightRows k s.contents e rows) q (clauses_right e s.contents rows (ap has_clauses (sym q)) d)) t w
body_taken Nest e q h ys s its c t w = nest_body e ys s its (ap has_map (sym q)) (ap has_clauses (sym q)) (rows_low e Nest q h) c (λ rows d. subst (λ k. RightRows k s.contents e rows) q d) t w
body_taken Below e q h ys s its c t w = nest_body e ys s its (ap has_map (sym q)) (ap has_clauses (sym q)) (rows_low e Below q h) c (λ rows d. subst (λ k. RightRows k s.contents e rows) q d) t w
body_taken Loop e q h ys s its c t w = plain_body e ys s its (ap has_map (sym q)) c (λ rows d. subst (λ k. RightRows k s.contents e rows) q (rows_right e s.contents [] rows (ap has_clauses (sym q)) d)) t w
body_taken Milliamperes e q h ys s its c t w = plain_body e ys s its (ap has_map (sym q)) c (λ rows d. subst (λ k. RightRows k s.contents e rows) q (rows_right e s.contents [] rows (ap has_clauses (sym q)) d)) t w
body_taken Lines e q h ys s its c t w = plain_body e ys s its (ap has_map (sym q)) c (λ rows d. subst (λ k. RightRows k s.contents e rows) q (rows_right e s.contents [] rows (ap has_clauses (sym q)) d)) t w

-- the bodies

pub record BodiesTaken (es : List Contents) (s : State) (its : List Item) : Type 0 where
  pub bodies : List Body
  pub is : its ≡ flat_map (body_items s.map) bodies
  pub contents : contents_of bodies ≡ es
  pub right : AllByRecursion (RightBody s.contents) bodies

abbrev pub AllBodiesTaken : List Contents → Type 0
AllBodiesTaken es = (s : State) (its : List Item) → s.todo ≡ bodies_due es → whole s its ≡ true → BodiesTaken es s its

body_more : (e : Contents) (es : List Contents) → in_ranges e ≡ true → AllBodiesTaken es → (s : State) (it : Item) (its : List Item) → s.todo ≡ body_due e ∷ (rows_due e ++ bodies_due es) → Step s (body_due e) it its → BodiesTaken (e ∷ es) s (it ∷ its)
body_more e es g more s (body_line k m) its t h =
    let p = and_parts (same_kind k e.kind) _ h.here in
    let q = and_parts _ (is_map m) p.1 in
    let kind = same_kind_is k e.kind p.0 in
    let number = eqb-true m s.map q.0 in
    let b = body_taken e.kind e refl g (bodies_due es) (advance s (body_line k m)) its refl (ap (drop 1) t) h.more in
    let r = more b.rest.after b.tail b.rest.todo b.rest.goes_on in
    let here : body_line k m ≡ body_line e.kind s.map = ap₂ body_line kind number in
    let after : b.tail ≡ flat_map (body_items s.map) r.bodies = r.is ∙ ap (λ x. flat_map (body_items x) r.bodies) b.rest.same_map in
    record {
      bodies = record { contents = e; rows = b.rows } ∷ r.bodies;
      is = ap₂ (λ x xs. x ∷ xs) here (b.is ∙ ap (λ l. map row_line b.rows ++ l) after);
      contents = ap (λ l. e ∷ l) r.contents;
      right = (b.right, subst (λ x. AllByRecursion (RightBody x) r.bodies) b.rest.same_contents r.right);
    }
body_more e es g more s _ its t h = absurd (both_ways _ refl h.here)

pub bodies_taken : (es : List Contents) → AllByRecursion (λ e. in_ranges e ≡ true) es → AllBodiesTaken es
bodies_taken [] g s [] t w = record { bodies = []; is = refl; contents = refl; right = tt }
bodies_taken [] g s (it ∷ its) t w =
    let p = and_parts (fits s it) (whole (advance s it) its) w in
    let f : fits_at (due []) s it ≡ true = subst (λ y. fits_at (due y) s it ≡ true) t p.0 in
    absurd (both_ways _ refl f)
bodies_taken (e ∷ es) g s [] t w = absurd (lacking s (body_due e) _ t w)
bodies_taken (e ∷ es) g s (it ∷ its) t w = body_more e es g.0 (bodies_taken es g.1) s it its t (step s (body_due e) _ it its t w)

-- the contents

pub record ContentsTaken (n : ℕ) (s : State) (its : List Item) : Type 0 where
  pub es : List Contents
  pub tail : List Item
  pub is : its ≡ map contents_line es ++ tail
  pub count : length es ≡ n
  pub right : contents_right s.contents es ≡ true
  pub after : State
  pub todo : after.todo ≡ bodies_due (s.contents ++ es)
  pub same_map : after.map ≡ s.map
  pub contents : after.contents ≡ s.contents ++ es
  pub goes_on : whole after tail ≡ true

abbrev pub AllContentsTaken : ℕ → Type 0
AllContentsTaken n = (s : State) (its : List Item) → s.todo ≡ replicate n contents_due → whole s its ≡ true → ContentsTaken n s its

entry_more : (n : ℕ) → AllContentsTaken (suc n) → (s : State) (it : Item) (its : List Item) → s.todo ≡ replicate (suc (suc n)) contents_due → Step s contents_due it its → ContentsTaken (suc (suc n)) s (it ∷ its)
entry_more n more s (contents_line e) its t h =
    let r = more (advance s (contents_line e)) its (ap (λ x. or_bodies (drop 1 x) (s.contents ++ e ∷ [])) t) h.more in
    let joined : (s.contents ++ e ∷ []) ++ r.es ≡ s.contents ++ e ∷ r.es = append_assoc s.contents (e ∷ []) r.es in
    record {
      es = e ∷ r.es;
      tail = r.tail;
      is = ap (λ l. contents_line e ∷ l) r.is;
      count = ap suc r.count;
      right = and_from _ _ h.here r.right;
      after = r.after;
      todo = r.todo ∙ ap bodies_due joined;
      same_map = r.same_map;
      contents = r.contents ∙ joined;
      goes_on = r.goes_on;
    }
entry_more n more s _ its t h = absurd (both_ways _ refl h.here)

entry_last : (s : State) (it : Item) (its : List Item) → s.todo ≡ contents_due ∷ [] → Step s contents_due it its → ContentsTaken 1 s (it ∷ its)
entry_last s (contents_line e) its t h = record {
  es = e ∷ [];
  tail = its;
  is = refl;
  count = refl;
  right = and_from _ _ h.here refl;
  after = advance s (contents_line e);
  todo = ap (λ x. or_bodies (drop 1 x) (s.contents ++ e ∷ [])) t;
  same_map = refl;
  contents = refl;
  goes_on = h.more;
}
entry_last s _ its t h = absurd (both_ways _ refl h.here)

pub contents_taken : (n : ℕ) → AllContentsTaken (suc n)
contents_taken zero s [] t w = absurd (lacking s contents_due [] t w)
contents_taken zero s (it ∷ its) t w = entry_last s it its t (step s contents_due [] it its t w)
contents_taken (suc n) s [] t w = absurd (lacking s contents_due _ t w)
contents_taken (suc n) s (it ∷ its) t w = entry_more n (contents_taken n) s it its t (step s contents_due _ it its t w)

pub ranges_right : (before es : List Contents) → contents_right before es ≡ true → AllByRecursion (λ e. in_ranges e ≡ true) es
ranges_right before [] h = tt
ranges_right before (e ∷ es) h =
    let p = and_parts (in_ranges e && in_order e.kind before) (contents_right (before ++ e ∷ []) es) h in
    ((and_parts (in_ranges e) (in_order e.kind before) p.0).0, ranges_right (before ++ e ∷ []) es p.1)

-- the whole

pub record Parts (its : List Item) : Type 0 where
  pub problem : Problem
  pub right : RightProblem problem
  pub is : its ≡ items_of problem

contents_length : (bs : List Body) → length (contents_of bs) ≡ length bs
contents_length [] = refl
contents_length (b ∷ bs) = ap suc (contents_length bs)

after_heading : (n : ℕ) (h : Heading) (its : List Item) → h.bodies ≡ suc n → is_map h.map ≡ true → within (from_to 1 body_limit) h.bodies ≡ true → whole (advance start (heading_line h)) its ≡ true → Parts (heading_line h ∷ its)
after_heading n h its k m some w =
    let s = advance start (heading_line h) in
    let c = contents_taken n s its (ap (λ x. replicate x contents_due) k) w in
    let b = bodies_taken c.es (ranges_right [] c.es c.right) c.after c.tail c.todo c.goes_on in
    let counted : length b.bodies ≡ h.bodies = sym (contents_length b.bodies) ∙ ap length b.contents ∙ c.count ∙ sym k in
    let tail_is : c.tail ≡ flat_map (body_items h.map) b.bodies = b.is ∙ ap (λ x. flat_map (body_items x) b.bodies) c.same_map in
    let head_is : heading_line h ≡ heading_line (record { map = h.map; bodies = length b.bodies }) = ap (λ x. heading_line (record { map = h.map; bodies = x })) (sym counted) in
    let contents_are : map contents_line c.es ≡ map contents_line (contents_of b.bodies) = ap (map contents_line) (sym b.contents) in
    record {
      problem = record { map = h.map; bodies = b.bodies };
      right = record {
        map = m;
        some = subst (λ x. within (from_to 1 body_limit) x ≡ true) (sym counted) some;
        contents = subst (λ x. contents_right [] x ≡ true) (sym b.contents) c.right;
        bodies = subst (λ x. AllByRecursion (RightBody x) b.bodies) (c.contents ∙ sym b.contents) b.right;
      };
      is = ap₂ (λ x xs. x ∷ xs) head_is (c.is ∙ ap₂ (λ x y. x ++ y) contents_are tail_is);
    }

some_bodies : (n : ℕ) (h : Heading) (its : List Item) → h.bodies ≡ n → is_map h.map ≡ true → within (from_to 1 body_limit) h.bodies ≡ true → whole (advance start (heading_line h)) its ≡ true → Parts (heading_line h ∷ its)
some_bodies zero h its k m some w = let f : within (from_to 1 body_limit) 0 ≡ true = subst (λ x. within (from_to 1 body_limit) x ≡ true) k some in absurd (both_ways _ refl f)
some_bodies (suc n) h its k m some w = after_heading n h its k m some w

pub parts : (its : List Item) → whole start its ≡ true → Parts its
parts [] w = absurd (both_ways _ refl w)
parts (heading_line h ∷ its) w =
    let p = and_parts (fits start (heading_line h)) (whole (advance start (heading_line h)) its) w in
    let q = and_parts (is_map h.map) (within (from_to 1 body_limit) h.bodies) p.0 in
    some_bodies h.bodies h its refl q.0 q.1 p.1
parts (_ ∷ its) w = absurd (both_ways _ refl w)
