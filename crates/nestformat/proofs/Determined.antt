-- The items of a problem determine it. Assumes nothing.
use Rattle.std.proofs.Common.{◌≡◌, ℕ, suc, List, [], ◌∷◌, ◌++◌, map, flat_map, length, ℤ, sym, refl, ap, ◌∙◌, subst}
use Rattle.nestformat.specs.declared.kinds.Contents.{Contents}
use Rattle.nestformat.specs.declared.kinds.Heading.{Heading}
use Rattle.nestformat.specs.Items.{Item, heading_line, contents_line, row_line, Body, Problem, contents_of, body_items, items_of}

-- the first item is no row
abbrev pub NoRow : List Item → Type 0
NoRow [] = Unit {0}
NoRow (row_line zs ∷ its) = ⊥
NoRow (_ ∷ its) = Unit {0}

pub record SameParts {A : Type 0} (x y : A) (its others : List Item) : Type 0 where
  pub parts : x ≡ y
  pub rest : its ≡ others

same_rows : (rows others : List (List ℤ)) (its more : List Item) → NoRow its → NoRow more → map row_line rows ++ its ≡ map row_line others ++ more → SameParts rows others its more
same_rows [] [] its more n k h = record { parts = refl; rest = h }
same_rows [] (z ∷ others) its more n k h = absurd (subst NoRow h n)
same_rows (z ∷ rows) [] its more n k h = absurd (subst NoRow (sym h) k)
same_rows (y ∷ rows) (z ∷ others) its more n k h =
    let one : y ≡ z = cc in
    let tail : map row_line rows ++ its ≡ map row_line others ++ more = cc in
    let r = same_rows rows others its more n k tail in
    let parts = r.parts in
    record { parts = cc; rest = r.rest }

no_row : (m : ℕ) (bs : List Body) → NoRow (flat_map (body_items m) bs)
no_row m [] = tt
no_row m (b ∷ bs) = tt

same_bodies : (m : ℕ) (bs cs : List Body) → contents_of bs ≡ contents_of cs → flat_map (body_items m) bs ≡ flat_map (body_items m) cs → bs ≡ cs
same_bodies m [] [] e h = refl
same_bodies m [] (c ∷ cs) e h = cc
same_bodies m (b ∷ bs) [] e h = cc
same_bodies m (b ∷ bs) (c ∷ cs) e h =
    let one : b.contents ≡ c.contents = cc in
    let others : contents_of bs ≡ contents_of cs = cc in
    let tail : map row_line b.rows ++ flat_map (body_items m) bs ≡ map row_line c.rows ++ flat_map (body_items m) cs = cc in
    let r = same_rows b.rows c.rows (flat_map (body_items m) bs) (flat_map (body_items m) cs) (no_row m bs) (no_row m cs) tail in
    let more = same_bodies m bs cs others r.rest in
    let rows = r.parts in
    let body : b ≡ c = λ i. record { contents = one i; rows = rows i } in
    cc

same_contents : (es fs : List Contents) (its more : List Item) → length es ≡ length fs → map contents_line es ++ its ≡ map contents_line fs ++ more → SameParts es fs its more
same_contents [] [] its more l h = record { parts = refl; rest = h }
same_contents [] (f ∷ fs) its more l h = cc
same_contents (e ∷ es) [] its more l h = cc
same_contents (e ∷ es) (f ∷ fs) its more l h =
    let one : e ≡ f = cc in
    let tail : map contents_line es ++ its ≡ map contents_line fs ++ more = cc in
    let long : length es ≡ length fs = cc in
    let r = same_contents es fs its more long tail in
    let parts = r.parts in
    record { parts = cc; rest = r.rest }

contents_length : (bs : List Body) → length (contents_of bs) ≡ length bs
contents_length [] = refl
contents_length (b ∷ bs) = ap suc (contents_length bs)

abbrev pub heading_of : Problem → Heading
heading_of p = record { map = p.map; bodies = length p.bodies }

abbrev pub lines_after : Problem → List Item
lines_after p = map contents_line (contents_of p.bodies) ++ flat_map (body_items p.map) p.bodies

split_heading : (h k : Heading) (its more : List Item) → ◌≡◌ {A = List Item} (heading_line h ∷ its) (heading_line k ∷ more) → SameParts h k its more
split_heading h k its more e = record { parts = cc; rest = cc }

pub same_problem : (p q : Problem) → items_of p ≡ items_of q → p ≡ q
same_problem p q h =
    let s = split_heading (heading_of p) (heading_of q) (lines_after p) (lines_after q) h in
    let m : p.map ≡ q.map = ap (λ x. x.map) s.parts in
    let l : length p.bodies ≡ length q.bodies = ap (λ x. x.bodies) s.parts in
    let c = same_contents (contents_of p.bodies) (contents_of q.bodies) (flat_map (body_items p.map) p.bodies) (flat_map (body_items q.map) q.bodies) (contents_length p.bodies ∙ l ∙ sym (contents_length q.bodies)) s.rest in
    let b = same_bodies p.map p.bodies q.bodies c.parts (c.rest ∙ ap (λ x. flat_map (body_items x) q.bodies) (sym m)) in
    λ i. record { map = m i; bodies = b i }
