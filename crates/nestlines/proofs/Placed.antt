-- What reads a line answers with its item, or tells its fault with the place. Assumes nothing.
use Rattle.std.proofs.Common.{◌≡◌, ℕ, Ok, Err, Result, refl, sym, ap, ap₂, subst, ◌∙◌}
use Rattle.refusals.specs.declared.Fault.{Fault}
use Rattle.nestformat.specs.declared.faults.LineFault.{LineFault}
use Rattle.nestformat.specs.Faults.{told_at}
use Rattle.nestformat.specs.Items.{Item}
use Rattle.nestlines.specs.LineItems.{LineRead}

-- a fault by the parts that it was made of
pub told_same : (g : Fault) (f h : LineFault) (n m b c : ℕ) → g ≡ told_at f n b → f ≡ h → n ≡ m → b ≡ c → g ≡ told_at h m c
told_same g f h n m b c e p q r = e ∙ ap (λ x. told_at x n b) p ∙ ap₂ (λ x y. told_at h x y) q r

-- what the tokens were told to be, as an item
abbrev pub item_of : {T : Type 0} → (T → Item) → Result T LineFault → Result Item LineFault
item_of item (Ok x) = Ok (item x)
item_of item (Err f) = Err f

-- the same on the n-th line, in the body with letter b
abbrev pub placed : {T : Type 0} → ℕ → ℕ → Result T LineFault → Result T Fault
placed n b (Ok x) = Ok x
placed n b (Err f) = Err (told_at f n b)

pub line_read : {T : Type 0} (item : T → Item) (j : Result Item LineFault) (q : Result T LineFault) (n b : ℕ) (r : Result T Fault) → j ≡ item_of item q → r ≡ placed n b q → LineRead item j n b r
line_read item j (Ok x) n b r e h = subst (LineRead item j n b) (sym h) e
line_read item j (Err f) n b r e h = subst (LineRead item j n b) (sym h) (f, e, refl)
