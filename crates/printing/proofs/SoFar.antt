-- How far a listing is printed. Assumes nothing.
use Rattle.std.proofs.Common.{◌≡◌, ℕ, suc, ◌+◌, ◌-◌, ◌≤◌, List, [], ◌∷◌, ◌++◌, map, length, take, drop, Option, Some, None, sym, refl, ap, ◌∙◌, subst, append_assoc, append-nil, arith}
use Rattle.std.specs.Prelude.{slice_get}
use Rattle.std.specs.Io.KnownBytes.{Appends}
use Rattle.std.proofs.lemmas.Grind.{flat_map-append}
use Rattle.std.proofs.lemmas.List.{length-map, length-append, length-take}
use Rattle.vetoes.specs.Meaning.{Meaning}
use Rattle.session.specs.declared.table.SessionTable.{SessionTable}
use Rattle.listing.specs.declared.progress.Progress.{Progress}
use Rattle.listing.specs.declared.progress.Stage.{Stage}
use Rattle.listing.specs.declared.progress.Stage.TheVariants.{Head, Settings, Over}
use Rattle.listing.specs.Limits.{listing_limit}
use Rattle.listing.specs.Settings.{literals}
use Rattle.listing.specs.Lines.{Said, setting, closing, text, lines_after}
use Rattle.listing.specs.Standing.{ListsAt, Lists, Gives}
use Rattle.printing.specs.Texts.{line, lines_text}

-- no listing has more lines
abbrev pub line_limit : ℕ
line_limit = listing_limit + 2

after_few : (i : ℕ) (qs : List (List ℕ)) → length (lines_after i qs) ≤ listing_limit + 1
after_few i qs =
    let xs : List Said = map (λ q. setting (literals q)) (take (listing_limit - i) qs) in
    let all = length-append xs (closing (i + length qs) ∷ []) in
    let same = length-map (take (listing_limit - i) qs) (λ q. setting (literals q)) in
    let some = length-take (listing_limit - i) qs in
    omega arith

at_few : (m : Meaning) (o : Option SessionTable) (k n : ℕ) (s : Stage) (ls : List Said) → ListsAt m o k n s ls → length ls ≤ line_limit
at_few m o k n Head ls w = let few = after_few 0 w.0 in let long = ap length w.2 in omega arith
at_few m o k n (Settings i) ls w = let few = after_few i w.0 in let long = ap length w.3 in omega arith
at_few m o k n Over ls w = let long = ap length w in omega arith

appends_none : (a : Option (List ℕ)) → Appends a a []
appends_none None = tt
appends_none (Some xs) = sym (append-nil xs)

appends_more : (a b c : Option (List ℕ)) (xs ys : List ℕ) → Appends a b xs → Appends b c ys → Appends a c (xs ++ ys)
appends_more None b c xs ys f g = tt
appends_more (Some as′) None c xs ys f g = absurd f
appends_more (Some as′) (Some bs) None xs ys f g = absurd g
appends_more (Some as′) (Some bs) (Some cs) xs ys f g = g ∙ (ap (λ z. z ++ ys) f ∙ append_assoc as′ xs ys)

-- the lines ls: some of them are printed, and at most k are left
pub record SoFar (m : Meaning) (o : Option SessionTable) (p : Progress) (old new : Option (List ℕ)) (k : ℕ) (ls : List Said) : Type 0 where
  pub done : List Said
  pub rest : List Said
  pub joined : done ++ rest ≡ ls
  pub few : length rest ≤ k
  pub lists : Lists m o p rest
  pub printed : Appends old new (lines_text done)

pub none_yet : (m : Meaning) (o : Option SessionTable) (p : Progress) (old : Option (List ℕ)) (ls : List Said) → Lists m o p ls → SoFar m o p old old line_limit ls
none_yet m o p old ls w = record { done = []; rest = ls; joined = refl; few = at_few m o p.map p.atoms p.stage ls w; lists = w; printed = appends_none old }

all_printed : (m : Meaning) (o : Option SessionTable) (p : Progress) (old new : Option (List ℕ)) (k : ℕ) (ls : List Said) (h : SoFar m o p old new k ls) → h.rest ≡ [] → Appends old new (lines_text ls)
all_printed m o p old new k ls h q =
    let whole : h.done ≡ ls = sym (append-nil h.done) ∙ (ap (λ z. h.done ++ z) (sym q) ∙ h.joined) in
    subst (λ z. Appends old new (lines_text z)) whole h.printed

none_of : (k : ℕ) (xs : List Said) → k ≡ 0 → length xs ≤ k → xs ≡ []
none_of k [] z f = refl
none_of k (x ∷ xs) z f = absurd (omega arith)

-- no turn is left
pub at_limit : (m : Meaning) (o : Option SessionTable) (p : Progress) (old new : Option (List ℕ)) (k : ℕ) (ls : List Said) → k ≡ 0 → SoFar m o p old new k ls → Appends old new (lines_text ls)
at_limit m o p old new k ls z h = all_printed m o p old new k ls h (none_of k h.rest z h.few)

none_first : (xs : List Said) → None ≡ slice_get xs 0 → xs ≡ []
none_first [] h = refl
none_first (x ∷ xs) h = cc

-- no line is given
pub at_end : (m : Meaning) (o o' : Option SessionTable) (p p' : Progress) (old new : Option (List ℕ)) (k : ℕ) (ls : List Said) → Gives m o o' p p' None → SoFar m o p old new k ls → Appends old new (lines_text ls)
at_end m o o' p p' old new k ls g h = all_printed m o p old new k ls h (none_first h.rest (g.step h.rest h.lists).0)

-- then no line is left
left_none : (m : Meaning) (o : Option SessionTable) (p : Progress) (xs : List Said) → xs ≡ [] → Lists m o p xs → Lists m o p []
left_none m o p xs e w = subst (Lists m o p) e w

pub ended_at_limit : (m : Meaning) (o : Option SessionTable) (p : Progress) (old new : Option (List ℕ)) (k : ℕ) (ls : List Said) → k ≡ 0 → SoFar m o p old new k ls → Lists m o p []
ended_at_limit m o p old new k ls z h = left_none m o p h.rest (none_of k h.rest z h.few) h.lists

pub ended_at_end : (m : Meaning) (o o' : Option SessionTable) (p p' : Progress) (old new : Option (List ℕ)) (k : ℕ) (ls : List Said) → Gives m o o' p p' None → SoFar m o p old new k ls → Lists m o' p' []
ended_at_end m o o' p p' old new k ls g h =
    let s = g.step h.rest h.lists in
    left_none m o' p' (drop 1 h.rest) (ap (drop 1) (none_first h.rest s.0)) s.1

line_more : (done : List Said) (l : Said) → lines_text done ++ line (text l) ≡ lines_text (done ++ l ∷ [])
line_more done l = ap (λ z. lines_text done ++ z) (sym (append-nil (line (text l)))) ∙ sym (flat_map-append (λ x. line (text x)) done (l ∷ []))

some_first : (xs : List Said) (l : Said) → Some l ≡ slice_get xs 0 → xs ≡ l ∷ drop 1 xs
some_first [] l h = cc
some_first (x ∷ xs) l h = let e : l ≡ x = cc in ap (λ z. z ∷ xs) (sym e)

-- a line is given, and printed
pub one_more : (m : Meaning) (o o' : Option SessionTable) (p p' : Progress) (old new after : Option (List ℕ)) (k j : ℕ) (ls : List Said) (l : Said) → k ≡ suc j → Gives m o o' p p' (Some l) → Appends new after (line (text l)) → SoFar m o p old new k ls → SoFar m o' p' old after j ls
one_more m o o' p p' old new after k j ls l e g a h =
    let s = g.step h.rest h.lists in
    let first : h.rest ≡ l ∷ drop 1 h.rest = some_first h.rest l s.0 in
    let long = ap length first in
    record {
      done = h.done ++ l ∷ [];
      rest = drop 1 h.rest;
      joined = append_assoc h.done (l ∷ []) (drop 1 h.rest) ∙ (ap (λ z. h.done ++ z) (sym first) ∙ h.joined);
      few = omega (arith, h.few);
      lists = s.1;
      printed = subst (λ z. Appends old after z) (line_more h.done l) (appends_more old new after (lines_text h.done) (line (text l)) h.printed a);
    }
