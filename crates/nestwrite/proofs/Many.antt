-- Texts of many items, put one after the other. Assumes nothing.
use Rattle.std.proofs.Common.{◌≡◌, ℕ, ◌+◌, ◌<◌, ◌≤◌, List, [], ◌∷◌, ◌++◌, length, get_or, drop, map, sym, refl, ap, ◌∙◌}
use Rattle.std.specs.List.{flat_map}
use Rattle.std.proofs.lemmas.List.{drop_all, drop_more}
use Rattle.writing.specs.declared.TextOut.{TextOut}
use Rattle.writing.specs.Texts.{joined}
use Rattle.writing.specs.Buffers.{held}
use Rattle.writing.proofs.Joining.{joined_twice, joined_none}

-- a text of an item is put, and u is still to come
pub put_one : (a now next t u : List ℕ) → joined now (t ++ u) ≡ a → next ≡ joined now t → joined next u ≡ a
put_one a now next t u h n = ap (λ w. joined w u) n ∙ joined_twice now t u ∙ h

-- nothing is to come
pub put_all : (o : TextOut) (a u : List ℕ) → u ≡ [] → joined (held o) u ≡ a → held o ≡ a
put_all o a u e h = sym (joined_none o) ∙ ap (joined (held o)) (sym e) ∙ h

module _ {X : Type 0} (f : X → List ℕ) where
  -- the item at i is put
  pub item_put : (a now next : List ℕ) (xs : List X) (i : ℕ) (x : X) → i < length xs → joined now (flat_map f (drop i xs)) ≡ a → next ≡ joined now (f (get_or xs i x)) → joined next (flat_map f (drop (i + 1) xs)) ≡ a
  item_put a now next xs i x l h n =
      put_one a now next (f (get_or xs i x)) (flat_map f (drop (i + 1) xs)) (ap (λ ys. joined now (flat_map f ys)) (sym (drop_more xs i x l)) ∙ h) n

  pub items_put : (o : TextOut) (a : List ℕ) (xs : List X) (i : ℕ) → length xs ≤ i → joined (held o) (flat_map f (drop i xs)) ≡ a → held o ≡ a
  items_put o a xs i l h = put_all o a (flat_map f (drop i xs)) (ap (flat_map f) (drop_all i xs l)) h

  -- the first of those that are left is put
  pub next_put : (a now next : List ℕ) (xs ys : List X) (x : X) → xs ≡ x ∷ ys → joined now (flat_map f xs) ≡ a → next ≡ joined now (f x) → joined next (flat_map f ys) ≡ a
  next_put a now next xs ys x e h n = put_one a now next (f x) (flat_map f ys) (ap (λ zs. joined now (flat_map f zs)) (sym e) ∙ h) n

pub text_mapped : {X Y : Type 0} (f : Y → List ℕ) (g : X → Y) (xs : List X) → flat_map f (map g xs) ≡ flat_map (λ x. f (g x)) xs
text_mapped f g [] = refl
text_mapped f g (x ∷ xs) = ap (λ t. f (g x) ++ t) (text_mapped f g xs)
