-- A draft whose lines are all read is a problem. Assumes nothing.
use Rattle.std.proofs.Common.{◌≡◌, ℕ, zero, suc, ◌<◌, ◌≤◌, true, false, List, [], ◌∷◌, ◌++◌, length, drop, map, flat_map, replicate, nat_le, Option, refl, sym, ap, ap₂, ◌∙◌, ⊎_elim, arith, take_all}
use Rattle.std.proofs.lemmas.Bool.{both_ways, cases_lt, lt-leb, le-leb}
use Rattle.std.proofs.lemmas.List.{length-map, drop_all}
use Rattle.std.proofs.lemmas.List.Folds.{flat_map-map}
use Rattle.std.proofs.Math.Seq.{drop-cons}
use Rattle.tables.specs.Items.{entries}
use Rattle.nestformat.specs.declared.kinds.BodyKind.{BodyKind}
use Rattle.nestformat.specs.declared.kinds.Contents.{Contents}
use Rattle.nestformat.specs.Items.{heading_line, contents_line, body_items, contents_of, items_of}
use Rattle.nestformat.specs.Due.{Slot, contents_due, row_due, bodies_due, listed, atoms_at}
use Rattle.nestformat.specs.Reading.{finished}
use Rattle.nestfile.specs.declared.Parts.{Parts}
use Rattle.nestfile.specs.declared.drafts.Phase.{Phase}
use Rattle.nestfile.specs.declared.drafts.Phase.TheVariants.{Heading, Contents as InContents, Bodies, Map, Rows}
use Rattle.nestfile.specs.Bodies.{body_of, problem_of, bare, sized}
use Rattle.nestfile.specs.Drafts.{slots, items_with, PhaseSound, Bare, opened_in, lacks_map, Sized}
use Rattle.nestfile.proofs.Listing.{contents_back, bare_from}
use Rattle.nestfile.proofs.Sizes.{sized_from}

more_due : (n : ℕ) (x : Slot) (xs : List Slot) → 1 ≤ n → finished (replicate n x ++ xs) ≡ true → ⊥
more_due zero x xs h f = absurd (omega arith)
more_due (suc n) x xs h f = both_ways false refl f

contents_left : (n : ℕ) → 1 ≤ n → finished (replicate n contents_due) ≡ true → ⊥
contents_left zero h f = absurd (omega arith)
contents_left (suc n) h f = both_ways false refl f

-- no body is left to be opened
none_left : (es : List Contents) (n : ℕ) (d : Contents) → finished (bodies_due (drop n es)) ≡ true → length es ≤ n
none_left es n d h = ⊎_elim
    (λ (w : n < length es). absurd (both_ways false refl (sym (ap (λ l. finished (bodies_due l)) (drop-cons es n d w)) ∙ h)))
    (λ w. w)
    (cases_lt n (length es))

get_first : (es : List Contents) → 0 < length es → Contents
get_first [] h = absurd (omega arith)
get_first (e ∷ es) h = e

open_bodies : (es : List Contents) (n : ℕ) → n < length es → (d : Contents) → finished (bodies_due (drop n es)) ≡ false
open_bodies es n w d = ap (λ l. finished (bodies_due l)) (drop-cons es n d w)

pub bodies_done : (es : List Contents) (n : ℕ) → finished (bodies_due (drop n es)) ≡ nat_le (length es) n
bodies_done es n = ⊎_elim
    (λ (w : n < length es). open_bodies es n w (get_first es (omega arith)) ∙ sym (lt-leb (length es) n w))
    (λ (w : length es ≤ n). ap (λ l. finished (bodies_due l)) (drop_all n es w) ∙ sym (le-leb (length es) n w))
    (cases_lt n (length es))

pub contents_open : (n : ℕ) → 1 ≤ n → finished (replicate n contents_due) ≡ false
contents_open zero h = absurd (omega arith)
contents_open (suc n) h = refl

pub rows_open : (n : ℕ) (x : Slot) (xs : List Slot) → 1 ≤ n → finished (replicate n x ++ xs) ≡ false
rows_open zero x xs h = absurd (omega arith)
rows_open (suc n) x xs h = refl

all_items : (p : Parts) (es : List Contents) → (heading_line (record { map = p.map; bodies = length es }) ∷ (map contents_line es ++ flat_map (λ e. body_items p.map (body_of p e)) es)) ≡ (heading_line (record { map = p.map; bodies = length (map (body_of p) es) }) ∷ (map contents_line (contents_of (map (body_of p) es)) ++ flat_map (body_items p.map) (map (body_of p) es)))
all_items p es =
    ap₂ (λ n l. heading_line (record { map = p.map; bodies = n }) ∷ l)
    (sym (length-map es (body_of p)))
    (ap₂ (λ a b. map contents_line a ++ b) (sym (contents_back p es)) (sym (flat_map-map (body_items p.map) (body_of p) es)))

pub is_whole : (p : Parts) (o : Option BodyKind) (y : Phase) (d : Contents) → PhaseSound p o y → finished (slots y (entries p.contents)) ≡ true → items_with p y ≡ items_of (problem_of p)
is_whole p o Heading d h f = absurd (both_ways false refl f)
is_whole p o (InContents left) d h f = absurd (contents_left left h.0 f)
is_whole p o (Map e n) d h f = absurd (both_ways false refl f)
is_whole p o (Rows e left n) d h f = absurd (more_due left (row_due e) (bodies_due (drop n (entries p.contents))) h.some f)
is_whole p o (Bodies n) d h f =
    let es = entries p.contents in
    let past = none_left es n d f in
    ap (λ l. heading_line (record { map = p.map; bodies = length es }) ∷ (map contents_line es ++ flat_map (λ e. body_items p.map (body_of p e)) l)) (take_all n es past)
    ∙ all_items p es

-- then all bodies were opened, and no map is due
all_opened : (p : Parts) (o : Option BodyKind) (y : Phase) (d : Contents) → PhaseSound p o y → finished (slots y (entries p.contents)) ≡ true → (opened_in y (entries p.contents) ≡ entries p.contents) × ((k : BodyKind) → lacks_map y k ≡ false)
all_opened p o Heading d h f = absurd (both_ways false refl f)
all_opened p o (InContents left) d h f = absurd (contents_left left h.0 f)
all_opened p o (Map e n) d h f = absurd (both_ways false refl f)
all_opened p o (Rows e left n) d h f = absurd (more_due left (row_due e) (bodies_due (drop n (entries p.contents))) h.some f)
all_opened p o (Bodies n) d h f = (take_all n (entries p.contents) (none_left (entries p.contents) n d f), λ k. refl)

pub bare_whole : (p : Parts) (o : Option BodyKind) (y : Phase) (d : Contents) → PhaseSound p o y → finished (slots y (entries p.contents)) ≡ true → Bare p y → bare p ≡ true
bare_whole p o y d h f b =
    let all = all_opened p o y d h f in
    bare_from p (λ k l. b k (ap (listed k) all.0 ∙ l))

pub sized_whole : (p : Parts) (o : Option BodyKind) (y : Phase) (d : Contents) → PhaseSound p o y → finished (slots y (entries p.contents)) ≡ true → Sized p y → sized p ≡ true
sized_whole p o y d h f s =
    let all = all_opened p o y d h f in
    sized_from p (λ k. s k (all.1 k) ∙ ap (atoms_at k) all.0)
