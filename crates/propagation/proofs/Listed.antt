-- The items of a list that an iterator has left. Assumes nothing.
use Rattle.std.proofs.Common.{◌≡◌, ℕ, ◌+◌, ◌<◌, List, ◌∷◌, length, get_or, drop, arith, ap}
use Rattle.std.proofs.lemmas.List.{length-drop, drop_more}

-- the item at the place n is the first of what is left there
pub first_left : {X : Type 0} (xs : List X) (n : ℕ) (d x : X) (rest : List X) → drop n xs ≡ x ∷ rest → (n < length xs) × (get_or xs n d ≡ x) × (drop (n + 1) xs ≡ rest)
first_left xs n d x rest h =
    let l = length-drop n xs in
    let z = ap length h in
    let inside : n < length xs = omega (arith, l, z) in
    let m = drop_more xs n d inside in
    (inside, cc, cc)
