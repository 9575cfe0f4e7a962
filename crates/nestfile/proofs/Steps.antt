-- What a draft stands for after one line more. Assumes nothing.
use Rattle.std.proofs.Common.{◌≡◌, ◌⊎◌, inl, inr, nat_le, nat_lt, ℕ, zero, suc, ◌+◌, ◌-◌, ◌<◌, ◌≤◌, Bool, true, false, cond, not, ◌&&◌, List, [], ◌∷◌, ◌++◌, length, take, drop, get_or, map, ℤ, Ok, Err, Some, Option, Result, refl, sym, ap, ap₂, subst, ◌∙◌, ⊎_elim, arith, append_assoc, length-append, replicate}
use Rattle.std.proofs.lemmas.Bool.{both_ways, cases_Bool, cases_lt, cond-true, cond-false, and_parts, or_parts, or_from, not-true, leb-true, lt-ltb, eqb-false, ne_eqb, eq-eqb}
use Rattle.std.proofs.lemmas.List.{append-nil, take_more, take-append-le, map-append, get_or_append_left, drop_all}
use Rattle.std.proofs.lemmas.Grind.{flat_map-append}
use Rattle.std.proofs.lemmas.List.Concat.{flat_map-cons}
use Rattle.std.proofs.Math.Seq.{drop-cons, get_or-append_seam, take-append_seam}
use Rattle.tables.specs.Items.{entries}
use Rattle.refusals.specs.declared.Fault.{Fault}
use Rattle.refusals.specs.declared.Refusal.TheVariants.{BadNumber}
use Rattle.assignments.specs.Limits.{atom_limit}
use Rattle.lexer.specs.Numbers.{all_numbers}
use Rattle.nestformat.specs.declared.faults.LineFault.{LineFault}
use Rattle.nestformat.specs.declared.kinds.BodyKind.{BodyKind}
use Rattle.nestformat.specs.declared.kinds.BodyKind.TheVariants.{Outer, Nest, Below, Loop, Milliamperes, Lines}
use Rattle.nestformat.specs.declared.kinds.Contents.{Contents}
use Rattle.nestformat.specs.declared.kinds.Heading.{Heading}
use Rattle.nestformat.specs.Limits.{body_limit, within, from_to}
use Rattle.nestformat.specs.Faults.{plain, told_at}
use Rattle.nestformat.specs.Kinds.{letter_of, same_kind, has_map, atoms_in, in_ranges, size_range, own_range, rows_range, has_clauses}
use Rattle.nestformat.specs.Items.{Item, heading_line, contents_line, body_line, row_line, body_items}
use Rattle.nestformat.specs.Due.{Slot, heading_due, contents_due, body_due, map_due, row_due, end_due, State, advance, clauses_with, due, bodies_due, rows_due, or_bodies, listed, in_order, atoms_at, is_map, fits_at, says, as_written}
use Rattle.nestformat.specs.Reading.{number_places, wrong, judge, of_sort, fault_at}
use Rattle.lexer.specs.Lines.{lead}
use Rattle.lexer.specs.Scans.{first}
use Rattle.nestformat.proofs.KindLaws.{same_kind_is}
use Rattle.nestlines.specs.declared.due.Due.{Due}
use Rattle.nestlines.specs.declared.due.Due.TheVariants.{Heading as HeadingDue, Contents as ContentsDue, Body as BodyDue, Map as MapDue, Row as RowDue, End as EndDue}
use Rattle.nestfile.specs.declared.Parts.{Parts}
use Rattle.nestfile.specs.declared.drafts.Draft.{Draft}
use Rattle.nestfile.specs.declared.drafts.Phase.{Phase}
use Rattle.nestfile.specs.declared.drafts.Phase.TheVariants.{Heading as AtHeading, Contents as InContents, Bodies, Map, Rows}
use Rattle.clauses.specs.Books.{atoms_of, clauses_of}
use Rattle.nestfile.specs.Bodies.{rows_of, clauses_in, body_of, nest_clauses, nest_rows, IsBegun, IsReady, Others, nest_atoms, book_atoms}
use Rattle.nestfile.specs.Drafts.{slots, state_of, state_with, clauses_opened, bodies_items, items_to, items_with, EntriesLeft, RowsLeft, Good, Here, MapSound, RowsSound, PhaseSound, Bare, opened_in, LineTaken, lacks_map, Sized}
use Rattle.nestlines.specs.Rows.{arc_numbers, load_numbers}
use Rattle.nestlines.specs.LineItems.{item_or_fault}
use Rattle.nestlines.specs.Sorts.{slot_of}

-- what is judged right fits
ok_past : {A E : Type 0} (b : Bool) (e : E) (r : Result A E) (x : A) → cond b (Err e) r ≡ Ok x → r ≡ Ok x
ok_past true e r x h = let y : Err e ≡ Ok x = h in absurd (cc)
ok_past false e r x h = h

ok_here : {A E : Type 0} (b : Bool) (e : E) (y x : A) → cond b (Ok y) (Err e) ≡ Ok x → (b ≡ true) × (y ≡ x)
ok_here true e y x h = let z : Ok y ≡ Ok x = h in (refl, cc)
ok_here false e y x h = let z : Err e ≡ Ok x = h in absurd (cc)

pub item_fits : (x : Slot) (s : State) (ts : List (List ℕ)) (it : Item) → item_or_fault x s ts ≡ Ok it → fits_at x s it ≡ true
item_fits x s ts it h =
    let a = ok_past (not (all_numbers (number_places x ts))) (plain BadNumber) (cond (as_written x ts && fits_at x s (says x ts)) (Ok (says x ts)) (Err (wrong x s ts))) it h in
    let b = ok_here (as_written x ts && fits_at x s (says x ts)) (wrong x s ts) (says x ts) it a in
    subst (λ i. fits_at x s i ≡ true) b.1 (and_parts (as_written x ts) (fits_at x s (says x ts)) b.0).1

abbrev made : List Slot → ℕ → List Contents → ℕ → List (List ℤ) → State
made t m es l cs = record { todo = t; map = m; contents = es; letter = l; clauses = cs }

same_state : (t u : List Slot) (m n : ℕ) (es fs : List Contents) (k l : ℕ) (cs ds : List (List ℤ)) → t ≡ u → m ≡ n → es ≡ fs → k ≡ l → cs ≡ ds → made t m es k cs ≡ made u n fs l ds
same_state t u m n es fs k l cs ds a b c d e = cc

-- the item is taken by the parts p at the phase x, which become q and y
pub record Step (it : Item) (p : Parts) (x : Phase) (o : Option BodyKind) (q : Parts) (y : Phase) (u : Option BodyKind) : Type 0 where
  pub state : state_with q y u ≡ advance (state_with p x o) it
  pub items : items_with q y ≡ items_with p x ++ it ∷ []
  pub good : Good (entries q.contents)
  pub phase : PhaseSound q u y
  pub bare : Bare q y
  pub sized : Sized q y

pub taken : {T : Type 0} (r : Result Item LineFault) (n : ℕ) (it : Item) (old new : Draft) (x : Phase) (v : T) → r ≡ Ok it → old.phase ≡ x → Step it old.parts x old.opened new.parts new.phase new.opened → LineTaken r n (Ok v) old new
taken r n it old new x v e f s =
    let t = subst (λ z. Step it old.parts z old.opened new.parts new.phase new.opened) (sym f) s in
    subst (λ z. LineTaken z n (Ok v) old new) (sym e) (t.state, t.items, record { good = t.good; phase = t.phase; bare = t.bare; sized = t.sized })

pub refused : (T : Type 0) (r : Result Item LineFault) (n : ℕ) (f : LineFault) (g : Fault) (old new : Draft) → r ≡ Err f → g ≡ fault_at (state_of old) n f → LineTaken r n {T = T} (Err g) old new
refused T r n f g old new e s = subst (λ z. LineTaken z n {T = T} (Err g) old new) (sym e) s

-- the heading

heading_items : (m k : ℕ) (es : List Contents) (h : Heading) → es ≡ [] → m ≡ h.map → k ≡ h.bodies → (heading_line (record { map = m; bodies = length es + k }) ∷ map contents_line es) ≡ heading_line h ∷ []
heading_items m k [] h e a b = ap₂ (λ x y. heading_line (record { map = x; bodies = y }) ∷ []) a (omega arith)
heading_items m k (x ∷ es) h e a b = let z : x ∷ es ≡ [] = e in absurd (cc)

pub heading_step : (p q : Parts) (o : Option BodyKind) (h : Heading) → Good (entries p.contents) → PhaseSound p o AtHeading → fits_at heading_due (state_with p AtHeading o) (heading_line h) ≡ true → q.map ≡ h.map → entries q.contents ≡ entries p.contents → ((k : BodyKind) → rows_of q k ≡ rows_of p k) → ((k : BodyKind) → book_atoms q k ≡ book_atoms p k) → Bare p AtHeading → Sized p AtHeading → Step (heading_line h) p AtHeading o q (InContents h.bodies) o
heading_step p q o h g ph fits m c rs atoms bare sized =
    let w = and_parts (is_map h.map) (within (from_to 1 body_limit) h.bodies) fits in
    let v = and_parts _ _ w.1 in
    let none : entries q.contents ≡ [] = c ∙ ph.0 in
    let long : length (entries q.contents) ≡ 0 = ap length none in
    let low = leb-true 1 h.bodies v.0 in
    let high = leb-true h.bodies body_limit v.1 in
    record {
      state = same_state _ _ _ _ _ _ _ _ _ _ refl m c refl (ap (clauses_opened q) ph.1 ∙ sym (ap (clauses_opened p) ph.1));
      items = heading_items q.map h.bodies (entries q.contents) h none m refl;
      good = subst Good (sym c) g;
      phase = (low, omega arith, ph.1);
      bare = λ k l. rs k ∙ bare k refl;
      sized = λ k l. atoms k ∙ sized k refl;
    }

-- parts with the same bodies
pub same_rows : (p q : Parts) → q.outer ≡ p.outer → q.nest ≡ p.nest → q.below ≡ p.below → q.arcs ≡ p.arcs → q.milliamperes ≡ p.milliamperes → q.lines ≡ p.lines → (k : BodyKind) → rows_of q k ≡ rows_of p k
same_rows p q a b c d e f Outer = ap clauses_of a
same_rows p q a b c d e f Nest = ap nest_rows b
same_rows p q a b c d e f Below = ap nest_rows c
same_rows p q a b c d e f Loop = ap (λ t. map arc_numbers (entries t)) d
same_rows p q a b c d e f Milliamperes = ap (λ t. map load_numbers (entries t)) e
same_rows p q a b c d e f Lines = ap (λ t. map load_numbers (entries t)) f

pub same_atoms : (p q : Parts) → q.outer ≡ p.outer → q.nest ≡ p.nest → q.below ≡ p.below → (k : BodyKind) → book_atoms q k ≡ book_atoms p k
same_atoms p q a b c Outer = ap atoms_of a
same_atoms p q a b c Nest = ap nest_atoms b
same_atoms p q a b c Below = ap nest_atoms c
same_atoms p q a b c Loop = refl
same_atoms p q a b c Milliamperes = refl
same_atoms p q a b c Lines = refl

-- a line of the contents

pub apart_from : (k : BodyKind) (es : List Contents) → in_order k es ≡ true → listed k es ≡ false
apart_from k [] h = refl
apart_from k (e ∷ es) h = not-true _ (and_parts (not (listed k (e ∷ es))) (cond (same_kind k Below) (listed Nest (e ∷ es)) true) h).0

good_push : (es : List Contents) (e : Contents) → Good es → in_ranges e ≡ true → listed e.kind es ≡ false → Good (es ++ e ∷ [])
good_push es e g r l i d h = ⊎_elim
    (λ (w : i < length es).
    let same : get_or (es ++ e ∷ []) i d ≡ get_or es i d = get_or_append_left es (e ∷ []) d i w in
    let cut : take i (es ++ e ∷ []) ≡ take i es = take-append-le i es (e ∷ []) (omega arith) in
    let a = g i d w in
    (subst (λ x. in_ranges x ≡ true) (sym same) a.0, subst (λ x. listed x.kind (take i (es ++ e ∷ [])) ≡ false) (sym same) (subst (λ x. listed (get_or es i d).kind x ≡ false) (sym cut) a.1)))
    (λ (w : length es ≤ i).
    let long : length (es ++ e ∷ []) ≡ length es + 1 = length-append es (e ∷ []) in
    let at : i ≡ length es = omega arith in
    let same : get_or (es ++ e ∷ []) i d ≡ e = ap (λ j. get_or (es ++ e ∷ []) j d) at ∙ get_or-append_seam es e [] d in
    let cut : take i (es ++ e ∷ []) ≡ es = ap (λ j. take j (es ++ e ∷ [])) at ∙ take-append_seam es (e ∷ []) in
    (subst (λ x. in_ranges x ≡ true) (sym same) r, subst (λ x. listed x.kind (take i (es ++ e ∷ [])) ≡ false) (sym same) (subst (λ x. listed e.kind x ≡ false) (sym cut) l)))
    (cases_lt i (length es))

or_more : (n : ℕ) (es : List Contents) → 1 ≤ n → replicate n contents_due ≡ or_bodies (drop 1 (replicate (suc n) contents_due)) es
or_more zero es h = absurd (omega arith)
or_more (suc n) es h = refl

slots_more : (left n : ℕ) (es : List Contents) → n + 1 ≡ left → 1 ≤ n → replicate n contents_due ≡ or_bodies (drop 1 (replicate left contents_due)) es
slots_more left n es e h =
    let k : suc n ≡ left = omega arith in
    or_more n es h ∙ ap (λ k. or_bodies (drop 1 (replicate k contents_due)) es) k

entry_items : (m n left : ℕ) (es fs : List Contents) (e : Contents) → fs ≡ es ++ e ∷ [] → n + 1 ≡ left → (heading_line (record { map = m; bodies = length fs + n }) ∷ map contents_line fs) ≡ (heading_line (record { map = m; bodies = length es + left }) ∷ map contents_line es) ++ contents_line e ∷ []
entry_items m n left es fs e s k =
    let long : length fs ≡ length es + 1 = ap length s ∙ length-append es (e ∷ []) in
    ap₂ (λ b l. heading_line (record { map = m; bodies = b }) ∷ l) (omega arith) (ap (map contents_line) s ∙ map-append contents_line es (e ∷ []))

pub entry_step : (p q : Parts) (o : Option BodyKind) (left : ℕ) (y : Phase) (e : Contents) → Good (entries p.contents) → PhaseSound p o (InContents left) → fits_at contents_due (state_with p (InContents left) o) (contents_line e) ≡ true → q.map ≡ p.map → entries q.contents ≡ entries p.contents ++ e ∷ [] → EntriesLeft left y → ((k : BodyKind) → rows_of q k ≡ rows_of p k) → ((k : BodyKind) → book_atoms q k ≡ book_atoms p k) → Bare p (InContents left) → Sized p (InContents left) → Step (contents_line e) p (InContents left) o q y o
entry_step p q o left AtHeading e g ph fits m c h rs atoms bare sized = absurd h
entry_step p q o left (Map f n) e g ph fits m c h rs atoms bare sized = absurd h
entry_step p q o left (Rows f l n) e g ph fits m c h rs atoms bare sized = absurd h
entry_step p q o left (InContents n) e g ph fits m c h rs atoms bare sized =
    let w = and_parts (in_ranges e) (in_order e.kind (entries p.contents)) fits in
    let long : length (entries q.contents) ≡ length (entries p.contents) + 1 = ap length c ∙ length-append (entries p.contents) (e ∷ []) in
    let room = ph.1 in
    record {
      state = same_state _ _ _ _ _ _ _ _ _ _ (slots_more left n (entries p.contents ++ e ∷ []) h.0 h.1) m c refl (ap (clauses_opened q) ph.2 ∙ sym (ap (clauses_opened p) ph.2));
      items = entry_items q.map n left (entries p.contents) (entries q.contents) e c h.0 ∙ ap (λ k. (heading_line (record { map = k; bodies = length (entries p.contents) + left }) ∷ map contents_line (entries p.contents)) ++ contents_line e ∷ []) m;
      good = subst Good (sym c) (good_push (entries p.contents) e g w.0 (apart_from e.kind (entries p.contents) w.1));
      phase = (h.1, omega arith, ph.2);
      bare = λ k l. rs k ∙ bare k refl;
      sized = λ k l. atoms k ∙ sized k refl;
    }
entry_step p q o left (Bodies n) e g ph fits m c h rs atoms bare sized =
    let w = and_parts (in_ranges e) (in_order e.kind (entries p.contents)) fits in
    let es = entries p.contents in
    let first : slots (Bodies n) (entries q.contents) ≡ or_bodies (drop 1 (replicate left contents_due)) (es ++ e ∷ []) =
    ap₂ (λ k l. bodies_due (drop k l)) h.1 c ∙ ap (λ k. or_bodies (drop 1 (replicate k contents_due)) (es ++ e ∷ [])) (sym h.0) in
    let zero_more : 0 + 1 ≡ left = omega arith in
    let plain_items : (l : List Contents) → (heading_line (record { map = q.map; bodies = length l }) ∷ (map contents_line l ++ bodies_items q (take n l))) ≡ (heading_line (record { map = q.map; bodies = length l + 0 }) ∷ map contents_line l) =
    λ l. ap₂ (λ b t. heading_line (record { map = q.map; bodies = b }) ∷ t) (omega arith) (ap (λ k. map contents_line l ++ bodies_items q (take k l)) h.1 ∙ append-nil (map contents_line l)) in
    record {
      state = same_state _ _ _ _ _ _ _ _ _ _ first m c refl (ap (clauses_opened q) ph.2 ∙ sym (ap (clauses_opened p) ph.2));
      items = plain_items (entries q.contents) ∙ entry_items q.map 0 left es (entries q.contents) e c zero_more ∙ ap (λ k. (heading_line (record { map = k; bodies = length es + left }) ∷ map contents_line es) ++ contents_line e ∷ []) m;
      good = subst Good (sym c) (good_push es e g w.0 (apart_from e.kind es w.1));
      phase = omega (arith, h.1);
      bare = λ k l. rs k ∙ bare k refl;
      sized = λ k l. atoms k ∙ sized k refl ∙ sym (ap (λ j. atoms_at k (take j (entries q.contents))) h.1);
    }

-- all bodies but one stay

pub others_at : (k : BodyKind) (p q : Parts) → Others k p q → (j : BodyKind) → same_kind j k ≡ false → rows_of q j ≡ rows_of p j
others_at k p q h Outer s = ap clauses_of (h.outer s)
others_at k p q h Nest s = ap nest_rows (h.nest s)
others_at k p q h Below s = ap nest_rows (h.below s)
others_at k p q h Loop s = ap (λ t. map arc_numbers (entries t)) (h.arcs s)
others_at k p q h Milliamperes s = ap (λ t. map load_numbers (entries t)) (h.milliamperes s)
others_at k p q h Lines s = ap (λ t. map load_numbers (entries t)) (h.lines s)

others_over : (k : BodyKind) (p q : Parts) → Others k p q → (j : BodyKind) → same_kind j k ≡ false → book_atoms q j ≡ book_atoms p j
others_over k p q h Outer s = ap atoms_of (h.outer s)
others_over k p q h Nest s = ap nest_atoms (h.nest s)
others_over k p q h Below s = ap nest_atoms (h.below s)
others_over k p q h Loop s = refl
others_over k p q h Milliamperes s = refl
others_over k p q h Lines s = refl

other_way : (k j : BodyKind) → same_kind k j ≡ false → same_kind j k ≡ false
other_way k j h = ne_eqb (letter_of j) (letter_of k) (λ e. eqb-false (letter_of k) (letter_of j) h (sym e))

body_same : (p q : Parts) (e : Contents) → q.map ≡ p.map → rows_of q e.kind ≡ rows_of p e.kind → body_items q.map (body_of q e) ≡ body_items p.map (body_of p e)
body_same p q e m r = ap₂ (λ n rs. body_line e.kind n ∷ map row_line rs) m r

apart_same : (k : BodyKind) (p q : Parts) → Others k p q → (es : List Contents) → listed k es ≡ false → bodies_items q es ≡ bodies_items p es
apart_same k p q h [] l = refl
apart_same k p q h (e ∷ es) l =
    let w = or_parts (same_kind k e.kind) (listed k es) l in
    flat_map-cons (λ x. body_items q.map (body_of q x)) e es
    ∙ ap₂ (λ a b. a ++ b) (body_same p q e h.map (others_at k p q h e.kind (other_way k e.kind w.0))) (apart_same k p q h es w.1)
    ∙ sym (flat_map-cons (λ x. body_items p.map (body_of p x)) e es)

-- the last body has more rows
last_more : (p q : Parts) (before : List Contents) (e : Contents) (new : List Item) → Others e.kind p q → listed e.kind before ≡ false → map row_line (rows_of q e.kind) ≡ map row_line (rows_of p e.kind) ++ new → bodies_items q (before ++ e ∷ []) ≡ bodies_items p (before ++ e ∷ []) ++ new
last_more p q before e new h l r =
    flat_map-append (λ x. body_items q.map (body_of q x)) before (e ∷ [])
    ∙ ap₂ (λ a b. a ++ b) (apart_same e.kind p q h before l) (flat_map-cons (λ x. body_items q.map (body_of q x)) e [] ∙ append-nil _ ∙ ap₂ (λ n rs. body_line e.kind n ∷ rs) h.map r)
    ∙ sym (append_assoc (bodies_items p before) (body_line e.kind p.map ∷ map row_line (rows_of p e.kind)) new)
    ∙ ap (λ t. t ++ new) (sym (flat_map-append (λ x. body_items p.map (body_of p x)) before (e ∷ []) ∙ ap (λ t. bodies_items p before ++ t) (flat_map-cons (λ x. body_items p.map (body_of p x)) e [] ∙ append-nil _)))

items_more : (p q : Parts) (n : ℕ) (e : Contents) (new : List Item) → Here (entries p.contents) n e → Others e.kind p q → map row_line (rows_of q e.kind) ≡ map row_line (rows_of p e.kind) ++ new → items_to q n ≡ items_to p n ++ new
items_more p q n e new here h r =
    let es = entries p.contents in
    let b : bodies_items q (take n es) ≡ bodies_items p (take n es) ++ new =
    ap (bodies_items q) here.same ∙ last_more p q here.before e new h here.apart r ∙ ap (λ l. bodies_items p l ++ new) (sym here.same) in
    ap₂ (λ m l. heading_line (record { map = m; bodies = length l }) ∷ (map contents_line l ++ bodies_items q (take n l))) h.map h.contents
    ∙ ap (λ t. heading_line (record { map = p.map; bodies = length es }) ∷ t) (ap (λ t. map contents_line es ++ t) b ∙ sym (append_assoc (map contents_line es) (bodies_items p (take n es)) new))

pub slots_rows : (e : Contents) (left n : ℕ) (y : Phase) (es : List Contents) → RowsLeft e left n y → slots y es ≡ replicate left (row_due e) ++ bodies_due (drop n es)
slots_rows e left n AtHeading es h = absurd h
slots_rows e left n (InContents k) es h = absurd h
slots_rows e left n (Map f k) es h = absurd h
slots_rows e left n (Bodies k) es h = ap (λ j. bodies_due (drop j es)) h.1 ∙ ap (λ j. replicate j (row_due e) ++ bodies_due (drop n es)) (sym h.0)
slots_rows e left n (Rows f l k) es h =
    ap₂ (λ x j. replicate j (row_due x) ++ bodies_due (drop k es)) h.0 h.1 ∙ ap (λ j. replicate left (row_due e) ++ bodies_due (drop j es)) h.2

items_rows : (e : Contents) (left n : ℕ) (y : Phase) (q : Parts) → RowsLeft e left n y → items_with q y ≡ items_to q n
items_rows e left n AtHeading q h = absurd h
items_rows e left n (InContents k) q h = absurd h
items_rows e left n (Map f k) q h = absurd h
items_rows e left n (Bodies k) q h = ap (items_to q) h.1
items_rows e left n (Rows f l k) q h = ap (items_to q) h.2

here_same : (es fs : List Contents) (n m : ℕ) (e f : Contents) → fs ≡ es → m ≡ n → f ≡ e → Here es n e → Here fs m f
here_same es fs n m e f a b c h = subst (λ x. Here x m f) (sym a) (subst (λ j. Here es j f) (sym b) (subst (Here es n) (sym c) h))

sound_rows : (q : Parts) (e : Contents) (left n : ℕ) (y : Phase) → Here (entries q.contents) n e → length (rows_of q e.kind) + left ≡ e.rows → IsReady e.kind (atoms_in e) q → RowsLeft e left n y → PhaseSound q (Some e.kind) y
sound_rows q e left n AtHeading here c r h = absurd h
sound_rows q e left n (InContents k) here c r h = absurd h
sound_rows q e left n (Map f k) here c r h = absurd h
sound_rows q e left n (Bodies k) here c r h = let w = here.within in omega (arith, h.1)
sound_rows q e left n (Rows f l k) here c r h =
    subst (λ x. RowsSound q (Some e.kind) x l k) (sym h.0)
    (record {
      here = here_same _ _ n k e e refl h.2 refl here;
      some = subst (λ j. 1 ≤ j) (sym h.1) h.3;
      count = ap (λ j. length (rows_of q e.kind) + j) h.1 ∙ c;
      ready = r;
      opened = refl;
    })

-- bodies that were not opened stay without rows

listed_last : (k : BodyKind) (es : List Contents) (e : Contents) → listed k (es ++ e ∷ []) ≡ false → (listed k es ≡ false) × (same_kind k e.kind ≡ false)
listed_last k [] e h = (refl, (or_parts (same_kind k e.kind) false h).0)
listed_last k (x ∷ es) e h =
    let w = or_parts (same_kind k x.kind) (listed k (es ++ e ∷ [])) h in
    let v = listed_last k es e w.1 in
    (or_from (same_kind k x.kind) (listed k es) w.0 v.0, v.1)

opened_rows : (e : Contents) (left n : ℕ) (y : Phase) (es : List Contents) → RowsLeft e left n y → opened_in y es ≡ take n es
opened_rows e left n AtHeading es h = absurd h
opened_rows e left n (InContents k) es h = absurd h
opened_rows e left n (Map f k) es h = absurd h
opened_rows e left n (Bodies k) es h = ap (λ j. take j es) h.1
opened_rows e left n (Rows f l k) es h = ap (λ j. take j es) h.2

bare_last : (p q : Parts) (e : Contents) (es : List Contents) → Others e.kind p q → ((k : BodyKind) → listed k (es ++ e ∷ []) ≡ false → rows_of p k ≡ []) → (k : BodyKind) → listed k (es ++ e ∷ []) ≡ false → rows_of q k ≡ []
bare_last p q e es h bare k l = others_at e.kind p q h k (listed_last k es e l).1 ∙ bare k l

bare_rows : (p q : Parts) (e : Contents) (left n : ℕ) (y : Phase) → Here (entries p.contents) n e → Others e.kind p q → ((k : BodyKind) → listed k (take n (entries p.contents)) ≡ false → rows_of p k ≡ []) → RowsLeft e left n y → Bare q y
bare_rows p q e left n y here h bare left_is k l =
    let same : opened_in y (entries q.contents) ≡ here.before ++ e ∷ [] = opened_rows e left n y (entries q.contents) left_is ∙ ap (take n) h.contents ∙ here.same in
    bare_last p q e here.before h (subst (λ x. (j : BodyKind) → listed j x ≡ false → rows_of p j ≡ []) here.same bare) k (sym (ap (listed k) same) ∙ l)

-- a body that was opened is over its atoms, but a nest without its map

atoms_apart : (k : BodyKind) (es : List Contents) (e : Contents) → same_kind k e.kind ≡ false → atoms_at k (es ++ e ∷ []) ≡ atoms_at k es
atoms_apart k [] e h = cond-false _ _ _ h
atoms_apart k (x ∷ es) e h = ap (λ n. cond (same_kind k x.kind) (atoms_in x) n) (atoms_apart k es e h)

atoms_last : (es : List Contents) (e : Contents) → listed e.kind es ≡ false → atoms_at e.kind (es ++ e ∷ []) ≡ atoms_in e
atoms_last [] e h = cond-true _ _ _ (eq-eqb (letter_of e.kind) (letter_of e.kind) refl)
atoms_last (x ∷ es) e h =
    let w = or_parts (same_kind e.kind x.kind) (listed e.kind es) h in
    cond-false _ _ _ w.0 ∙ atoms_last es e w.1

ready_over : (k : BodyKind) (n : ℕ) (p : Parts) → IsReady k (cond (has_clauses k) n 0) p → book_atoms p k ≡ cond (has_clauses k) n 0
ready_over Outer n p h = h
ready_over Nest n p h = h.1
ready_over Below n p h = h.1
ready_over Loop n p h = refl
ready_over Milliamperes n p h = refl
ready_over Lines n p h = refl

sized_last : (p q : Parts) (e : Contents) (es : List Contents) → Others e.kind p q → IsReady e.kind (atoms_in e) q → listed e.kind es ≡ false → ((k : BodyKind) → same_kind k e.kind ≡ false → book_atoms p k ≡ atoms_at k (es ++ e ∷ [])) → (k : BodyKind) → book_atoms q k ≡ atoms_at k (es ++ e ∷ [])
sized_last p q e es h ready apart sized k = ⊎_elim
    (λ (t : same_kind k e.kind ≡ true).
    let same = same_kind_is k e.kind t in
    ap (book_atoms q) same ∙ ready_over e.kind (e.size + e.own) q ready ∙ sym (atoms_last es e apart) ∙ ap (λ j. atoms_at j (es ++ e ∷ [])) (sym same))
    (λ (f : same_kind k e.kind ≡ false). others_over e.kind p q h k f ∙ sized k f)
    (cases_Bool (same_kind k e.kind))

sized_rows : (p q : Parts) (e : Contents) (left n : ℕ) (y : Phase) → Here (entries p.contents) n e → Others e.kind p q → IsReady e.kind (atoms_in e) q → ((k : BodyKind) → same_kind k e.kind ≡ false → book_atoms p k ≡ atoms_at k (take n (entries p.contents))) → RowsLeft e left n y → Sized q y
sized_rows p q e left n y here h ready sized left_is k l =
    let same : opened_in y (entries q.contents) ≡ here.before ++ e ∷ [] = opened_rows e left n y (entries q.contents) left_is ∙ ap (take n) h.contents ∙ here.same in
    sized_last p q e here.before h ready here.apart (λ j f. sized j f ∙ ap (atoms_at j) here.same) k ∙ sym (ap (atoms_at k) same)

-- a row more

drop_row : (n : ℕ) (x : Slot) (xs : List Slot) → 1 ≤ n → replicate (n - 1) x ++ xs ≡ drop 1 (replicate n x ++ xs)
drop_row zero x xs h = absurd (omega arith)
drop_row (suc n) x xs h = ap (λ k. replicate k x ++ xs) (omega arith)

due_row : (n : ℕ) (x : Slot) (xs : List Slot) → 1 ≤ n → due (replicate n x ++ xs) ≡ x
due_row zero x xs h = absurd (omega arith)
due_row (suc n) x xs h = refl

pub row_step : (p q : Parts) (o : Option BodyKind) (e : Contents) (left n : ℕ) (y : Phase) (zs : List ℤ) → Good (entries p.contents) → RowsSound p o e left n → Others e.kind p q → rows_of q e.kind ≡ rows_of p e.kind ++ zs ∷ [] → clauses_in q e.kind ≡ clauses_in p e.kind ++ zs ∷ [] → IsReady e.kind (atoms_in e) q → RowsLeft e (left - 1) n y → Bare p (Rows e left n) → Sized p (Rows e left n) → Step (row_line zs) p (Rows e left n) o q y o
row_step p q o e left n y zs g ph h r c ready left_is bare sized =
    let es = entries p.contents in
    let some = ph.some in
    let count = ph.count in
    let long : length (rows_of q e.kind) ≡ length (rows_of p e.kind) + 1 = ap length r ∙ length-append (rows_of p e.kind) (zs ∷ []) in
    let here : Here (entries q.contents) n e = subst (λ x. Here x n e) (sym h.contents) ph.here in
    record {
      state = same_state _ _ _ _ _ _ _ _ _ _
          (slots_rows e (left - 1) n y (entries q.contents) left_is ∙ ap (λ x. replicate (left - 1) (row_due e) ++ bodies_due (drop n x)) h.contents ∙ drop_row left (row_due e) (bodies_due (drop n es)) some)
          h.map h.contents refl
          (ap (clauses_opened q) ph.opened ∙ c ∙ ap (λ k. clauses_opened p k ++ zs ∷ []) (sym ph.opened) ∙ ap (λ x. clauses_with x zs (clauses_opened p o)) (sym (due_row left (row_due e) (bodies_due (drop n es)) some)));
      items = items_rows e (left - 1) n y q left_is ∙ items_more p q n e (row_line zs ∷ []) ph.here h (ap (map row_line) r ∙ map-append row_line (rows_of p e.kind) (zs ∷ []));
      good = subst Good (sym h.contents) g;
      phase = subst (λ k. PhaseSound q k y) (sym ph.opened) (sound_rows q e (left - 1) n y here (omega arith) ready left_is);
      bare = bare_rows p q e (left - 1) n y ph.here h bare left_is;
      sized = sized_rows p q e (left - 1) n y ph.here h ready (λ k f. sized k refl) left_is;
    }

begun_rows : (k : BodyKind) (n : ℕ) (p : Parts) → IsBegun k n p → rows_of p k ≡ []
begun_rows Outer n p h = h.0
begun_rows Nest n p h = ap nest_rows h
begun_rows Below n p h = ap nest_rows h
begun_rows Loop n p h = h.0
begun_rows Milliamperes n p h = h.0
begun_rows Lines n p h = h.0

begun_clauses : (k : BodyKind) (n : ℕ) (p : Parts) → IsBegun k n p → clauses_in p k ≡ []
begun_clauses Outer n p h = h.0
begun_clauses Nest n p h = ap nest_clauses h
begun_clauses Below n p h = ap nest_clauses h
begun_clauses Loop n p h = h.0
begun_clauses Milliamperes n p h = h.0
begun_clauses Lines n p h = h.0

begun_ready : (k : BodyKind) (n : ℕ) (p : Parts) → has_map k ≡ false → IsBegun k n p → IsReady k n p
begun_ready Outer n p m h = h.1
begun_ready Nest n p m h = absurd (both_ways true m refl)
begun_ready Below n p m h = absurd (both_ways true m refl)
begun_ready Loop n p m h = h.1
begun_ready Milliamperes n p m h = h.1
begun_ready Lines n p m h = h.1

-- the rows of a nest are one at least
rows_some : (k : BodyKind) (n : ℕ) → has_map k ≡ true → within (rows_range k) n ≡ true → 1 ≤ n
rows_some Outer n m h = absurd (both_ways false refl m)
rows_some Nest n m h = leb-true 1 n (and_parts _ _ h).0
rows_some Below n m h = leb-true 1 n (and_parts _ _ h).0
rows_some Loop n m h = absurd (both_ways false refl m)
rows_some Milliamperes n m h = absurd (both_ways false refl m)
rows_some Lines n m h = absurd (both_ways false refl m)

ranged_rows : (e : Contents) → in_ranges e ≡ true → within (rows_range e.kind) e.rows ≡ true
ranged_rows e h = (and_parts (within (rows_range e.kind) e.rows) _ (and_parts (within (size_range e.kind) e.size && within (own_range e.kind) e.own) _ h).1).0

pub map_step : (p q : Parts) (o : Option BodyKind) (e : Contents) (n : ℕ) (y : Phase) (zs : List ℤ) → Good (entries p.contents) → MapSound p o e n → Others e.kind p q → rows_of q e.kind ≡ zs ∷ [] → clauses_in q e.kind ≡ [] → IsReady e.kind (atoms_in e) q → RowsLeft e (e.rows - 1) n y → Bare p (Map e n) → Sized p (Map e n) → Step (row_line zs) p (Map e n) o q y o
map_step p q o e n y zs g ph h r c ready left_is bare sized =
    let es = entries p.contents in
    let none = begun_rows e.kind (atoms_in e) p ph.begun in
    let some = rows_some e.kind e.rows ph.mapped (ranged_rows e ph.here.ranged) in
    let long : length (rows_of q e.kind) ≡ 1 = ap length r in
    let here : Here (entries q.contents) n e = subst (λ x. Here x n e) (sym h.contents) ph.here in
    record {
      state = same_state _ _ _ _ _ _ _ _ _ _
          (slots_rows e (e.rows - 1) n y (entries q.contents) left_is ∙ ap (λ x. replicate (e.rows - 1) (row_due e) ++ bodies_due (drop n x)) h.contents)
          h.map h.contents refl
          (ap (clauses_opened q) ph.opened ∙ c ∙ sym (begun_clauses e.kind (atoms_in e) p ph.begun) ∙ sym (ap (clauses_opened p) ph.opened));
      items = items_rows e (e.rows - 1) n y q left_is ∙ items_more p q n e (row_line zs ∷ []) ph.here h (ap (map row_line) r ∙ ap (λ rs. map row_line rs ++ row_line zs ∷ []) (sym none));
      good = subst Good (sym h.contents) g;
      phase = subst (λ k. PhaseSound q k y) (sym ph.opened) (sound_rows q e (e.rows - 1) n y here (omega arith) ready left_is);
      bare = bare_rows p q e (e.rows - 1) n y ph.here h bare left_is;
      sized = sized_rows p q e (e.rows - 1) n y ph.here h ready sized left_is;
    }

-- a body is opened

-- the body that is due is that of the next entry
pub next_entry : (es : List Contents) (n : ℕ) (e d : Contents) → due (bodies_due (drop n es)) ≡ body_due e → (n < length es) × (get_or es n d ≡ e)
next_entry es n e d h = ⊎_elim
    (λ (w : n < length es).
    let y : body_due (get_or es n d) ≡ body_due e = sym (ap (λ l. due (bodies_due l)) (drop-cons es n d w)) ∙ h in
    (w, cc))
    (λ (w : length es ≤ n). let y : end_due ≡ body_due e = sym (ap (λ l. due (bodies_due l)) (drop_all n es w)) ∙ h in absurd (cc))
    (cases_lt n (length es))

-- the phase after the opening of e
abbrev pub Opened : Contents → ℕ → Phase → Type 0
Opened e n y = ((has_map e.kind ≡ true) × (y ≡ Map e n)) ⊎ ((has_map e.kind ≡ false) × RowsLeft e e.rows n y)

opening_slots : (e : Contents) (n : ℕ) (y : Phase) (es : List Contents) → Opened e n y → slots y es ≡ rows_due e ++ bodies_due (drop n es)
opening_slots e n y es h = ⊎_elim
    (λ (w : (has_map e.kind ≡ true) × (y ≡ Map e n)). ap (λ x. slots x es) w.1 ∙ ap (λ l. l ++ bodies_due (drop n es)) (sym (cond-true _ (map_due e ∷ replicate (e.rows - 1) (row_due e)) (replicate e.rows (row_due e)) w.0)))
    (λ (w : (has_map e.kind ≡ false) × RowsLeft e e.rows n y). slots_rows e e.rows n y es w.1 ∙ ap (λ l. l ++ bodies_due (drop n es)) (sym (cond-false _ (map_due e ∷ replicate (e.rows - 1) (row_due e)) (replicate e.rows (row_due e)) w.0)))
    h

opening_items : (e : Contents) (n : ℕ) (y : Phase) (q : Parts) → Opened e n y → items_with q y ≡ items_to q n
opening_items e n y q h = ⊎_elim
    (λ (w : (has_map e.kind ≡ true) × (y ≡ Map e n)). ap (items_with q) w.1)
    (λ (w : (has_map e.kind ≡ false) × RowsLeft e e.rows n y). items_rows e e.rows n y q w.1)
    h

opening_opened : (e : Contents) (n : ℕ) (y : Phase) (es : List Contents) → Opened e n y → opened_in y es ≡ take n es
opening_opened e n y es h = ⊎_elim
    (λ (w : (has_map e.kind ≡ true) × (y ≡ Map e n)). ap (λ x. opened_in x es) w.1)
    (λ (w : (has_map e.kind ≡ false) × RowsLeft e e.rows n y). opened_rows e e.rows n y es w.1)
    h

pub opening_step : (p q : Parts) (o : Option BodyKind) (n : ℕ) (e : Contents) (y : Phase) → Good (entries p.contents) → due (bodies_due (drop n (entries p.contents))) ≡ body_due e → Others e.kind p q → IsBegun e.kind (atoms_in e) q → Opened e (n + 1) y → Bare p (Bodies n) → Sized p (Bodies n) → Step (body_line e.kind p.map) p (Bodies n) o q y (Some e.kind)
opening_step p q o n e y g first h begun is bare sized =
    let es = entries p.contents in
    let at = next_entry es n e e first in
    let is_good = g n e at.0 in
    let more : take (n + 1) es ≡ take n es ++ e ∷ [] = take_more es n e at.0 ∙ ap (λ x. take n es ++ x ∷ []) at.1 in
    let here : Here es (n + 1) e = record { before = take n es; same = more; apart = subst (λ x. listed x.kind (take n es) ≡ false) at.1 is_good.1; ranged = subst (λ x. in_ranges x ≡ true) at.1 is_good.0; within = omega (arith, at.0) } in
    let here_q : Here (entries q.contents) (n + 1) e = subst (λ x. Here x (n + 1) e) (sym h.contents) here in
    let none = begun_rows e.kind (atoms_in e) q begun in
    let one : suc n ≡ n + 1 = omega arith in
    let rest : drop n es ≡ e ∷ drop (n + 1) es = drop-cons es n e at.0 ∙ ap₂ (λ x k. x ∷ drop k es) at.1 one in
    let old : bodies_items q (take n es) ≡ bodies_items p (take n es) = apart_same e.kind p q h (take n es) here.apart in
    let new : bodies_items q (take (n + 1) es) ≡ bodies_items p (take n es) ++ body_line e.kind p.map ∷ [] =
    ap (bodies_items q) more
    ∙ flat_map-append (λ x. body_items q.map (body_of q x)) (take n es) (e ∷ [])
    ∙ ap₂ (λ a b. a ++ b) old (flat_map-cons (λ x. body_items q.map (body_of q x)) e [] ∙ append-nil _ ∙ ap₂ (λ m rs. body_line e.kind m ∷ map row_line rs) h.map none) in
    record {
      state = same_state _ _ _ _ _ _ _ _ _ _
          (opening_slots e (n + 1) y (entries q.contents) is ∙ ap (λ x. rows_due e ++ bodies_due (drop (n + 1) x)) h.contents ∙ sym (ap (λ l. drop 1 (bodies_due l)) rest))
          h.map h.contents refl
          (begun_clauses e.kind (atoms_in e) q begun);
      items =
          opening_items e (n + 1) y q is
          ∙ ap₂ (λ m l. heading_line (record { map = m; bodies = length l }) ∷ (map contents_line l ++ bodies_items q (take (n + 1) l))) h.map h.contents
          ∙ ap (λ t. heading_line (record { map = p.map; bodies = length es }) ∷ t) (ap (λ t. map contents_line es ++ t) new ∙ sym (append_assoc (map contents_line es) (bodies_items p (take n es)) (body_line e.kind p.map ∷ [])));
      good = subst Good (sym h.contents) g;
      phase = ⊎_elim
          (λ (w : (has_map e.kind ≡ true) × (y ≡ Map e (n + 1))). subst (PhaseSound q (Some e.kind)) (sym w.1) (record { here = here_q; mapped = w.0; begun = begun; opened = refl }))
          (λ (w : (has_map e.kind ≡ false) × RowsLeft e e.rows (n + 1) y). sound_rows q e e.rows (n + 1) y here_q (ap (λ rs. length rs + e.rows) none ∙ omega arith) (begun_ready e.kind (atoms_in e) q w.0 begun) w.1)
          is;
      bare = λ k l.
          let same : opened_in y (entries q.contents) ≡ take n es ++ e ∷ [] = opening_opened e (n + 1) y (entries q.contents) is ∙ ap (take (n + 1)) h.contents ∙ more in
          let w = listed_last k (take n es) e (sym (ap (listed k) same) ∙ l) in
          others_at e.kind p q h k w.1 ∙ bare k w.0;
      sized = λ k l.
          let same : opened_in y (entries q.contents) ≡ take n es ++ e ∷ [] = opening_opened e (n + 1) y (entries q.contents) is ∙ ap (take (n + 1)) h.contents ∙ more in
          let old_sized = λ (j : BodyKind) (f : same_kind j e.kind ≡ false). sized j refl ∙ sym (atoms_apart j (take n es) e f) in
          ⊎_elim
          (λ (w : (has_map e.kind ≡ true) × (y ≡ Map e (n + 1))).
          let f : same_kind k e.kind ≡ false = sym (ap (λ x. lacks_map x k) w.1) ∙ l in
          others_over e.kind p q h k f ∙ old_sized k f)
          (λ (w : (has_map e.kind ≡ false) × RowsLeft e e.rows (n + 1) y). sized_last p q e (take n es) h (begun_ready e.kind (atoms_in e) q w.0 begun) here.apart old_sized k)
          is
          ∙ sym (ap (atoms_at k) same);
    }

-- bounds that the contents keep

pub atoms_near : (e : Contents) → in_ranges e ≡ true → atoms_in e ≤ atom_limit
atoms_near e h =
    let a = and_parts (within (size_range e.kind) e.size && within (own_range e.kind) e.own) (within (rows_range e.kind) e.rows && nat_le (atoms_in e) atom_limit) h in
    leb-true _ _ (and_parts (within (rows_range e.kind) e.rows) (nat_le (atoms_in e) atom_limit) a.1).1

pub next_ranged : (es : List Contents) (n : ℕ) (e : Contents) → Good es → due (bodies_due (drop n es)) ≡ body_due e → in_ranges e ≡ true
next_ranged es n e g h =
    let at = next_entry es n e e h in
    subst (λ x. in_ranges x ≡ true) at.1 (g n e at.0).0

abbrev AllRanged : List Contents → Type 0
AllRanged es = (i : ℕ) (d : Contents) → i < length es → in_ranges (get_or es i d) ≡ true

atoms_ranged : (k : BodyKind) (es : List Contents) → AllRanged es → atoms_at k es ≤ atom_limit
atoms_ranged k [] g = omega arith
atoms_ranged k (e ∷ es) g =
    let here = atoms_near e (g 0 e (omega arith)) in
    let rest = atoms_ranged k es (λ i d w. g (suc i) d (omega arith)) in
    ⊎_elim
    (λ (t : same_kind k e.kind ≡ true). subst (λ n. n ≤ atom_limit) (sym (cond-true _ _ _ t)) here)
    (λ (f : same_kind k e.kind ≡ false). subst (λ n. n ≤ atom_limit) (sym (cond-false _ _ _ f)) rest)
    (cases_Bool (same_kind k e.kind))

pub atoms_few : (k : BodyKind) (es : List Contents) → Good es → atoms_at k es ≤ atom_limit
atoms_few k es g = atoms_ranged k es (λ i d w. (g i d w).0)

-- an entry is pushed where there is room
pub entry_pushed : (ok : Bool) (es fs : List Contents) (e : Contents) (left : ℕ) → ok ≡ nat_lt (length es) body_limit → fs ≡ cond ok (es ++ e ∷ []) es → 1 ≤ left → length es + left ≤ body_limit → fs ≡ es ++ e ∷ []
entry_pushed ok es fs e left h f a b = f ∙ cond-true _ _ _ (h ∙ lt-ltb _ _ (omega arith))

-- the judge past the bytes and the sort
pub sorted : (x : Slot) (s : State) (ts us : List (List ℕ)) → due s.todo ≡ x → us ≡ ts → of_sort x (lead ts) ≡ true → judge (due s.todo) s true ts ≡ item_or_fault x s us
sorted x s ts us e l h =
    ap (λ y. judge y s true ts) e ∙ cond-false _ _ _ (ap not h) ∙ ap (item_or_fault x s) (sym l)

pub due_contents : (n : ℕ) → 1 ≤ n → due (replicate n contents_due) ≡ contents_due
due_contents zero h = absurd (omega arith)
due_contents (suc n) h = refl

pub due_rows : (e : Contents) (left n : ℕ) (es : List Contents) → 1 ≤ left → due (replicate left (row_due e) ++ bodies_due (drop n es)) ≡ row_due e
due_rows e left n es h = due_row left (row_due e) (bodies_due (drop n es)) h

-- at the end no line is of the sort due
pub no_end : (l : List Contents) (d : Due) (o : Option ℕ) → slot_of d ≡ due (bodies_due l) → ((e : Contents) → d ≡ BodyDue e → ⊥) → of_sort (slot_of d) o ≡ true → ⊥
no_end l (BodyDue e) o h x s = x e refl
no_end l EndDue o h x s = both_ways false refl s
no_end [] HeadingDue o h x s = let y : heading_due ≡ end_due = h in cc
no_end (f ∷ l) HeadingDue o h x s = let y : heading_due ≡ body_due f = h in cc
no_end [] ContentsDue o h x s = let y : contents_due ≡ end_due = h in cc
no_end (f ∷ l) ContentsDue o h x s = let y : contents_due ≡ body_due f = h in cc
no_end [] (MapDue e) o h x s = let y : map_due e ≡ end_due = h in cc
no_end (f ∷ l) (MapDue e) o h x s = let y : map_due e ≡ body_due f = h in cc
no_end [] (RowDue e) o h x s = let y : row_due e ≡ end_due = h in cc
no_end (f ∷ l) (RowDue e) o h x s = let y : row_due e ≡ body_due f = h in cc

pub refused_result : {T : Type 0} (j : Result Item LineFault) (n b : ℕ) (r : Result T Fault) (g : Fault) (old new : Draft) → r ≡ Err g → b ≡ (state_of old).letter → (f : LineFault) × (j ≡ Err f) × (g ≡ told_at f n b) → LineTaken j n r old new
refused_result {T = T} j n b r g old new e k h = subst (λ x. LineTaken j n x old new) (sym e) (refused T j n h.0 g old new h.1 (h.2 ∙ ap (told_at h.0 n) k))

pub opened_by : (e : Contents) (n : ℕ) (y : Phase) → (has_map e.kind ≡ true → y ≡ Map e n) → (has_map e.kind ≡ false → RowsLeft e e.rows n y) → Opened e n y
opened_by e n y a b = ⊎_elim (λ h. inl (h, a h)) (λ h. inr (h, b h)) (cases_Bool (has_map e.kind))
