-- What is written of a problem is within the limit of a text. Assumes nothing.
use Rattle.std.proofs.Common.{◌≡◌, ℕ, zero, suc, ◌+◌, ◌*◌, ◌≤◌, Bool, true, false, cond, not, ◌&&◌, ◌||◌, List, [], ◌∷◌, ◌++◌, map, flat_map, length, ℤ, pos, negsuc, codes, decimal, length-append, mul-suc, sym, refl, ap, ◌∙◌, subst, arith}
use Rattle.std.specs.List.{AllByRecursion, list_all}
use Rattle.std.specs.Fmt.{signed_decimal}
use Rattle.std.proofs.lemmas.Fmt.{length-decimal-le}
use Rattle.std.proofs.lemmas.Bool.{both_ways, and_parts, ltb-true, eq-eqb, or_right, not-true}
use Rattle.assignments.specs.Literals.{in_range, all_in_range}
use Rattle.clauses.specs.Adding.{literal_count}
use Rattle.lexer.specs.Lines.{spaced, text_of}
use Rattle.nestformat.specs.declared.kinds.BodyKind.{BodyKind}
use Rattle.nestformat.specs.declared.kinds.BodyKind.TheVariants.{Outer, Nest, Below, Loop, Milliamperes, Lines}
use Rattle.nestformat.specs.declared.kinds.Contents.{Contents}
use Rattle.nestformat.specs.declared.kinds.Heading.{Heading}
use Rattle.nestformat.specs.Limits.{text_limit, map_limit, body_limit, Range, from_to, positive_within}
use Rattle.nestformat.specs.Kinds.{letter_of, same_kind, size_range, rows_range, atoms_in, in_ranges}
use Rattle.nestformat.specs.Items.{Item, heading_line, contents_line, body_line, row_line, item_line, Body, Problem, contents_of, body_items, items_of}
use Rattle.nestformat.specs.Due.{start, listed, in_order, atoms_at, host_of, is_atom, first_is_atom, is_arc, is_load, row_form}
use Rattle.nestformat.specs.Reading.{whole, written}
use Rattle.nestformat.specs.Problems.{contents_right, RightClauses, RightMap, RightNest, RightRow, RightRows, RightBody, RightProblem}
use Rattle.nestformat.proofs.Backs.{within_high, contents_small}
use Rattle.nestformat.proofs.Parts.{parts, ranges_right}

-- a line by its tokens, each with the space or line end after it

abbrev pub widths : List (List ℕ) → ℕ
widths [] = 0
widths (t ∷ ts) = length t + 1 + widths ts

spaced_width : (t : List ℕ) (ts : List (List ℕ)) → length (spaced (t ∷ ts)) + 1 ≡ widths (t ∷ ts)
spaced_width t [] = omega arith
spaced_width t (u ∷ us) =
    let more = spaced_width u us in
    let joined = length-append t (32 ∷ spaced (u ∷ us)) in
    omega arith

widths_append : (ts us : List (List ℕ)) → widths (ts ++ us) ≡ widths ts + widths us
widths_append [] us = omega arith
widths_append (t ∷ ts) us = omega (arith, widths_append ts us)

abbrev pub total : List Item → ℕ
total [] = 0
total (it ∷ its) = widths (item_line it) + total its

total_append : (its more : List Item) → total (its ++ more) ≡ total its + total more
total_append [] more = omega arith
total_append (it ∷ its) more = omega (arith, total_append its more)

-- a line has a token
line_width : (it : Item) → length (spaced (item_line it)) + 1 ≡ widths (item_line it)
line_width (heading_line h) = spaced_width (codes "p") (codes "nest" ∷ decimal h.map ∷ decimal h.bodies ∷ [])
line_width (contents_line e) = spaced_width (codes "t") ((letter_of e.kind ∷ []) ∷ decimal e.size ∷ decimal e.own ∷ decimal e.rows ∷ [])
line_width (body_line k m) = spaced_width (codes "b") ((letter_of k ∷ []) ∷ decimal m ∷ [])
line_width (row_line []) = spaced_width (codes "0") []
line_width (row_line (z ∷ zs)) = spaced_width (signed_decimal z) (item_line (row_line zs))

pub written_length : (its : List Item) → length (written its) ≡ total its
written_length [] = refl
written_length (it ∷ its) =
    let one = line_width it in
    let more = written_length its in
    let joined = length-append (spaced (item_line it)) (10 ∷ text_of (map item_line its)) in
    omega arith

-- the lines but the rows

decimal_7 : (n : ℕ) → n ≤ 1000000 → length (decimal n) ≤ 7
decimal_7 n h = length-decimal-le 7 n (omega arith) (omega arith) (omega arith)

heading_width : (h : Heading) → h.map ≤ 1000000 → h.bodies ≤ 1000000 → widths (item_line (heading_line h)) ≤ 23
heading_width h m k = let a = decimal_7 h.map m in let b = decimal_7 h.bodies k in omega arith

contents_width : (e : Contents) → in_ranges e ≡ true → widths (item_line (contents_line e)) ≤ 28
contents_width e h =
    let s = contents_small e h in
    let a = decimal_7 e.size s.size in
    let b = decimal_7 e.own s.own in
    let r = decimal_7 e.rows s.plain_rows in
    omega arith

body_width : (k : BodyKind) (m : ℕ) → m ≤ 1000000 → widths (item_line (body_line k m)) ≤ 12
body_width k m h = let a = decimal_7 m h in omega arith

-- rows of numbers of at most w - 1 bytes

abbrev pub Narrow : ℕ → List ℤ → Type 0
Narrow w zs = AllByRecursion (λ z. length (signed_decimal z) + 1 ≤ w) zs

numbers_width : (w : ℕ) (zs : List ℤ) → Narrow w zs → widths (map signed_decimal zs) ≤ w * length zs
numbers_width w [] h = omega arith
numbers_width w (z ∷ zs) h =
    let one = h.0 in
    let more = numbers_width w zs h.1 in
    let times = mul-suc w (length zs) in
    omega arith

row_width : (w : ℕ) (zs : List ℤ) → Narrow w zs → widths (item_line (row_line zs)) ≤ w * length zs + 2
row_width w zs h =
    let numbers = numbers_width w zs h in
    let joined = widths_append (map signed_decimal zs) (codes "0" ∷ []) in
    omega arith

-- clauses

literal_narrow : (n : ℕ) (z : ℤ) → n ≤ 200 → in_range n z ≡ true → length (signed_decimal z) + 1 ≤ 5
literal_narrow n (pos zero) l h = absurd (both_ways _ refl h)
literal_narrow n (pos (suc i)) l h =
    let b = ltb-true i n h in
    let d = length-decimal-le 3 (suc i) (omega arith) (omega arith) (omega arith) in
    omega arith
literal_narrow n (negsuc i) l h =
    let b = ltb-true i n h in
    let d = length-decimal-le 3 (suc i) (omega arith) (omega arith) (omega arith) in
    omega arith

clause_narrow : (n : ℕ) (zs : List ℤ) → n ≤ 200 → all_in_range n zs ≡ true → Narrow 5 zs
clause_narrow n [] l h = tt
clause_narrow n (z ∷ zs) l h =
    let p = and_parts (in_range n z) (all_in_range n zs) h in
    (literal_narrow n z l p.0, clause_narrow n zs l p.1)

clauses_total : (n : ℕ) (cs : List (List ℤ)) → n ≤ 200 → AllByRecursion (λ c. all_in_range n c ≡ true) cs → total (map row_line cs) ≤ 5 * literal_count cs + 2 * length cs
clauses_total n [] l h = omega arith
clauses_total n (c ∷ cs) l h =
    let one = row_width 5 c (clause_narrow n c l h.0) in
    let more = clauses_total n cs l h.1 in
    omega arith

right_clauses_total : (n : ℕ) (cs : List (List ℤ)) → n ≤ 200 → RightClauses n cs → total (map row_line cs) ≤ 10800
right_clauses_total n cs l h =
    let all = clauses_total n cs l h.each in
    let few = h.few in
    let short = h.short in
    omega arith

-- maps, arcs and loads: positive numbers

positive_narrow : (r : Range) (z : ℤ) → r.high ≤ 65535 → positive_within r z ≡ true → length (signed_decimal z) + 1 ≤ 6
positive_narrow r (pos n) l h =
    let b = within_high r n h in
    let d = length-decimal-le 5 n (omega arith) (omega arith) (omega arith) in
    omega arith
positive_narrow r (negsuc n) l h = absurd (both_ways _ refl h)

map_narrow : (n : ℕ) (zs : List ℤ) → n ≤ 200 → list_all (is_atom n) zs ≡ true → Narrow 6 zs
map_narrow n [] l h = tt
map_narrow n (z ∷ zs) l h =
    let p = and_parts (is_atom n z) (list_all (is_atom n) zs) h in
    (positive_narrow (from_to 1 n) z (omega arith) p.0, map_narrow n zs l p.1)

right_map_total : (n k : ℕ) (zs : List ℤ) → n ≤ 200 → k ≤ 200 → RightMap n k zs → widths (item_line (row_line zs)) ≤ 1202
right_map_total n k zs l m h =
    let w = row_width 6 zs (map_narrow n zs l h.each) in
    let exact = h.exact in
    omega arith

arc_total : (n m : ℕ) (zs : List ℤ) → n ≤ 200 → m ≤ 65535 → first_is_atom n zs ≡ true → is_arc m zs ≡ true → widths (item_line (row_line zs)) ≤ 20
arc_total n m [] l b f h = absurd (both_ways _ refl h)
arc_total n m (x ∷ []) l b f h = absurd (both_ways _ refl h)
arc_total n m (x ∷ y ∷ []) l b f h = absurd (both_ways _ refl h)
arc_total n m (x ∷ y ∷ z ∷ []) l b f h =
    let p = and_parts (positive_within (from_to 1 m) y) (positive_within (from_to 1 m) z) h in
    row_width 6 (x ∷ y ∷ z ∷ []) (positive_narrow (from_to 1 n) x (omega arith) f, (positive_narrow (from_to 1 m) y b p.0, (positive_narrow (from_to 1 m) z b p.1, tt)))
arc_total n m (x ∷ y ∷ z ∷ u ∷ us) l b f h = absurd (both_ways _ refl h)

load_total : (n m : ℕ) (zs : List ℤ) → n ≤ 200 → m ≤ 65535 → first_is_atom n zs ≡ true → is_load m zs ≡ true → widths (item_line (row_line zs)) ≤ 20
load_total n m [] l b f h = absurd (both_ways _ refl h)
load_total n m (x ∷ []) l b f h = absurd (both_ways _ refl h)
load_total n m (x ∷ y ∷ []) l b f h =
    let w = row_width 6 (x ∷ y ∷ []) (positive_narrow (from_to 1 n) x (omega arith) f, (positive_narrow (from_to 1 m) y b h, tt)) in
    omega arith
load_total n m (x ∷ y ∷ z ∷ zs) l b f h = absurd (both_ways _ refl h)

atoms_few : (k : BodyKind) (es : List Contents) → AllByRecursion (λ e. in_ranges e ≡ true) es → atoms_at k es ≤ 200
atoms_few k [] h = omega arith
atoms_few k (e ∷ es) h = by (same_kind k e.kind) (contents_small e h.0).atoms (atoms_few k es h.1)
  where
    by : (b : Bool) → atoms_in e ≤ 200 → atoms_at k es ≤ 200 → cond b (atoms_in e) (atoms_at k es) ≤ 200
    by true x y = x
    by false x y = y

single_rows : (es : List Contents) (e : Contents) (rows : List (List ℤ)) → ((zs : List ℤ) → RightRow es e zs → widths (item_line (row_line zs)) ≤ 20) → AllByRecursion (RightRow es e) rows → total (map row_line rows) ≤ 20 * length rows
single_rows es e [] each h = omega arith
single_rows es e (zs ∷ rows) each h =
    let one = each zs h.0 in
    let more = single_rows es e rows each h.1 in
    omega arith

-- a body with its contents line, by its kind

abbrev pub bound : BodyKind → ℕ
bound Outer = 10840
bound Nest = 12042
bound Below = 12042
bound _ = 8040

nest_total : (es : List Contents) (e : Contents) (rows : List (List ℤ)) → AllByRecursion (λ e. in_ranges e ≡ true) es → atoms_in e ≤ 200 → e.size ≤ 200 → RightNest es e rows → total (map row_line rows) ≤ 12002
nest_total es e [] g a s h = absurd h
nest_total es e (zs ∷ cs) g a s h =
    let m = right_map_total (atoms_at (host_of e.kind) es) e.size zs (atoms_few (host_of e.kind) es g) s h.0 in
    let c = right_clauses_total (atoms_in e) cs a h.1 in
    omega arith

rows_total : (k : BodyKind) (es : List Contents) (e : Contents) (rows : List (List ℤ)) → k ≡ e.kind → AllByRecursion (λ e. in_ranges e ≡ true) es → in_ranges e ≡ true → length rows ≡ e.rows → RightRows k es e rows → total (map row_line rows) + 40 ≤ bound k
rows_total Outer es e rows q g r n h = let t = right_clauses_total (atoms_in e) rows (contents_small e r).atoms h in omega arith
rows_total Nest es e rows q g r n h =
    let s = subst (λ x. e.size ≤ (size_range x).high) (sym q) (contents_small e r).sized in
    let t = nest_total es e rows g (contents_small e r).atoms s h in
    omega arith
rows_total Below es e rows q g r n h =
    let s = subst (λ x. e.size ≤ (size_range x).high) (sym q) (contents_small e r).sized in
    let t = nest_total es e rows g (contents_small e r).atoms s h in
    omega arith
rows_total Loop es e rows q g r n h =
    let s = subst (λ x. e.size ≤ (size_range x).high) (sym q) (contents_small e r).sized in
    let m = subst (λ x. e.rows ≤ (rows_range x).high) (sym q) (contents_small e r).rows in
    let t = single_rows es e rows (λ zs w. arc_total (atoms_at Outer es) e.size zs (atoms_few Outer es g) (omega arith) w.atom (subst (λ x. row_form x e.size zs ≡ true) (sym q) w.formed)) h in
    omega arith
rows_total Milliamperes es e rows q g r n h =
    let m = subst (λ x. e.rows ≤ (rows_range x).high) (sym q) (contents_small e r).rows in
    let t = single_rows es e rows (λ zs w. load_total (atoms_at Outer es) 60000 zs (atoms_few Outer es g) (omega arith) w.atom (subst (λ x. row_form x e.size zs ≡ true) (sym q) w.formed)) h in
    omega arith
rows_total Lines es e rows q g r n h =
    let m = subst (λ x. e.rows ≤ (rows_range x).high) (sym q) (contents_small e r).rows in
    let t = single_rows es e rows (λ zs w. load_total (atoms_at Outer es) 65535 zs (atoms_few Outer es g) (omega arith) w.atom (subst (λ x. row_form x e.size zs ≡ true) (sym q) w.formed)) h in
    omega arith

body_total : (m : ℕ) (es : List Contents) (b : Body) → m ≤ 1000000 → AllByRecursion (λ e. in_ranges e ≡ true) es → in_ranges b.contents ≡ true → RightBody es b → total (body_items m b) + 28 ≤ bound b.contents.kind
body_total m es b l g r h =
    let head = body_width b.contents.kind m l in
    let rows = rows_total b.contents.kind es b.contents b.rows refl g r h.count h.rows in
    omega arith

-- no kind stands twice: what the kinds that are left may take

abbrev pub room : BodyKind → List Contents → ℕ
room k es = cond (listed k es) 0 (bound k)

abbrev pub rooms : List Contents → ℕ
rooms es = room Outer es + (room Nest es + (room Below es + (room Loop es + (room Milliamperes es + room Lines es))))

listed_push : (k : BodyKind) (es : List Contents) (e : Contents) → listed k (es ++ e ∷ []) ≡ (listed k es || same_kind k e.kind)
listed_push k [] e = by (same_kind k e.kind)
  where
    by : (b : Bool) → (b || false) ≡ b
    by true = refl
    by false = refl
listed_push k (f ∷ es) e = ap (λ x. same_kind k f.kind || x) (listed_push k es e) ∙ by (same_kind k f.kind) (listed k es) (same_kind k e.kind)
  where
    by : (a b c : Bool) → (a || (b || c)) ≡ ((a || b) || c)
    by true b c = refl
    by false b c = refl

room_less : (k : BodyKind) (es : List Contents) (e : Contents) → room k (es ++ e ∷ []) ≤ room k es
room_less k es e = subst (λ x. cond x 0 (bound k) ≤ room k es) (sym (listed_push k es e)) (by (listed k es) (same_kind k e.kind))
  where
    by : (a b : Bool) → cond (a || b) 0 (bound k) ≤ cond a 0 (bound k)
    by true b = omega arith
    by false true = omega arith
    by false false = omega arith

room_gone : (k : BodyKind) (es : List Contents) (e : Contents) → k ≡ e.kind → listed k es ≡ false → bound k + room k (es ++ e ∷ []) ≤ room k es
room_gone k es e q h =
    let same : same_kind k e.kind ≡ true = eq-eqb (letter_of k) (letter_of e.kind) (ap letter_of q) in
    let now : listed k (es ++ e ∷ []) ≡ true = listed_push k es e ∙ or_right (listed k es) _ same in
    let none : room k (es ++ e ∷ []) ≡ 0 = ap (λ x. cond x 0 (bound k)) now in
    let before : room k es ≡ bound k = ap (λ x. cond x 0 (bound k)) h in
    omega arith

rooms_step : (k : BodyKind) (es : List Contents) (e : Contents) → k ≡ e.kind → listed k es ≡ false → bound k + rooms (es ++ e ∷ []) ≤ rooms es
rooms_step Outer es e q h = omega (arith, room_gone Outer es e q h, room_less Nest es e, room_less Below es e, room_less Loop es e, room_less Milliamperes es e, room_less Lines es e)
rooms_step Nest es e q h = omega (arith, room_less Outer es e, room_gone Nest es e q h, room_less Below es e, room_less Loop es e, room_less Milliamperes es e, room_less Lines es e)
rooms_step Below es e q h = omega (arith, room_less Outer es e, room_less Nest es e, room_gone Below es e q h, room_less Loop es e, room_less Milliamperes es e, room_less Lines es e)
rooms_step Loop es e q h = omega (arith, room_less Outer es e, room_less Nest es e, room_less Below es e, room_gone Loop es e q h, room_less Milliamperes es e, room_less Lines es e)
rooms_step Milliamperes es e q h = omega (arith, room_less Outer es e, room_less Nest es e, room_less Below es e, room_less Loop es e, room_gone Milliamperes es e q h, room_less Lines es e)
rooms_step Lines es e q h = omega (arith, room_less Outer es e, room_less Nest es e, room_less Below es e, room_less Loop es e, room_less Milliamperes es e, room_gone Lines es e q h)

unlisted : (k : BodyKind) (es : List Contents) → in_order k es ≡ true → listed k es ≡ false
unlisted k [] h = refl
unlisted k (e ∷ es) h = not-true (listed k (e ∷ es)) (and_parts (not (listed k (e ∷ es))) _ h).0

-- all bodies, after contents lines that were counted before

bodies_total : (m : ℕ) (all before : List Contents) (bs : List Body) → m ≤ 1000000 → AllByRecursion (λ e. in_ranges e ≡ true) all → contents_right before (contents_of bs) ≡ true → AllByRecursion (RightBody all) bs → total (map contents_line (contents_of bs)) + total (flat_map (body_items m) bs) ≤ rooms before
bodies_total m all before [] l g c h = omega arith
bodies_total m all before (b ∷ bs) l g c h =
    let e = b.contents in
    let p = and_parts (in_ranges e && in_order e.kind before) (contents_right (before ++ e ∷ []) (contents_of bs)) c in
    let q = and_parts (in_ranges e) (in_order e.kind before) p.0 in
    let line = contents_width e q.0 in
    let one = body_total m all b l g q.0 h.0 in
    let more = bodies_total m all (before ++ e ∷ []) bs l g p.1 h.1 in
    let left = rooms_step e.kind before e refl (unlisted e.kind before q.1) in
    let joined = total_append (body_items m b) (flat_map (body_items m) bs) in
    omega arith

problem_total : (p : Problem) → RightProblem p → total (items_of p) ≤ text_limit
problem_total p h =
    let m = within_high (from_to 1 map_limit) p.map h.map in
    let k = within_high (from_to 1 body_limit) (length p.bodies) h.some in
    let head = heading_width (record { map = p.map; bodies = length p.bodies }) (omega arith) (omega arith) in
    let g = ranges_right [] (contents_of p.bodies) h.contents in
    let all = bodies_total p.map (contents_of p.bodies) [] p.bodies (omega arith) g h.contents h.bodies in
    let joined = total_append (map contents_line (contents_of p.bodies)) (flat_map (body_items p.map) p.bodies) in
    omega arith

pub whole_is_short : (its : List Item) → whole start its ≡ true → length (written its) ≤ text_limit
whole_is_short its w =
    let p = parts its w in
    let t = problem_total p.problem p.right in
    let l = written_length its in
    let e = ap total p.is in
    omega arith
