-- Written items are read back. Assumes nothing.
use Rattle.std.proofs.Common.{◌≡◌, ◌≤◌, true, false, List, [], ◌∷◌, map, length, Ok, sym, refl, ap, ◌∙◌, subst, ap₂}
use Rattle.std.specs.List.{AllByRecursion}
use Rattle.std.proofs.lemmas.Bool.{cond-false, and_parts}
use Rattle.lexer.specs.Lines.{lines, tokens, lead, clean, spaced}
use Rattle.lexer.proofs.Cutting.{Good, tokens_good, clean_good, lines_good}
use Rattle.nestformat.specs.Limits.{text_limit}
use Rattle.nestformat.specs.Items.{Item, item_line}
use Rattle.nestformat.specs.Due.{State, start, due, advance, fits}
use Rattle.nestformat.specs.Reading.{skipped, counted, whole, written, reading}
use Rattle.nestformat.proofs.Backs.{back}
use Rattle.nestformat.proofs.Accepting.{Spelled, short_accepted}

-- the line of an item: its tokens are as they are written, and it counts
pub record Plain (it : Item) : Type 0 where
  pub good : AllByRecursion Good (item_line it)
  pub kept : skipped (lead (item_line it)) ≡ false

pub all_plain : (s : State) (its : List Item) → whole s its ≡ true → AllByRecursion Plain its
all_plain s [] h = tt
all_plain s (it ∷ its) h =
    let p = and_parts (fits s it) (whole (advance s it) its) h in
    let b = back (due s.todo) s it p.0 in
    (record { good = b.good; kept = b.kept }, all_plain (advance s it) its p.1)

kept_line : (it : Item) → Plain it → skipped (lead (tokens (spaced (item_line it)))) ≡ false
kept_line it p = ap (λ ts. skipped (lead ts)) (tokens_good (item_line it) p.good) ∙ p.kept

counted_back : (its : List Item) → AllByRecursion Plain its → counted (map spaced (map item_line its)) ≡ map spaced (map item_line its)
counted_back [] h = refl
counted_back (it ∷ its) h = cond-false _ _ _ (kept_line it h.0) ∙ ap (λ l. spaced (item_line it) ∷ l) (counted_back its h.1)

tokens_back : (its : List Item) → AllByRecursion Plain its → map tokens (map spaced (map item_line its)) ≡ map item_line its
tokens_back [] h = refl
tokens_back (it ∷ its) h = ap₂ (λ x xs. x ∷ xs) (tokens_good (item_line it) h.0.good) (tokens_back its h.1)

clean_back : (its : List Item) → AllByRecursion Plain its → AllByRecursion (λ l. clean l ≡ true) (map spaced (map item_line its))
clean_back [] h = tt
clean_back (it ∷ its) h = (clean_good (item_line it) h.0.good, clean_back its h.1)

all_good : (its : List Item) → AllByRecursion Plain its → AllByRecursion (AllByRecursion Good) (map item_line its)
all_good [] h = tt
all_good (it ∷ its) h = (h.0.good, all_good its h.1)

lines_back : (its : List Item) → AllByRecursion Plain its → lines (written its) ≡ map spaced (map item_line its)
lines_back its h = lines_good (map item_line its) (all_good its h)

pub short_is_back : (its : List Item) → whole start its ≡ true → length (written its) ≤ text_limit → reading (written its) ≡ Ok its
short_is_back its h short =
    let p = all_plain start its h in
    short_accepted (written its) its short
    (subst (λ c. Spelled start c its) (sym (ap counted (lines_back its p) ∙ counted_back its p))
    (record { allowed = clean_back its p; tokened = tokens_back its p; right = h }))
