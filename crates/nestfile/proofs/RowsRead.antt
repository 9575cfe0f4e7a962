-- A row that was read, as the draft takes it. Assumes nothing.
use Rattle.std.proofs.Common.{◌≡◌, ℕ, true, List, [], ℤ, Some, Option, sym, ap, ap₂, ◌∙◌}
use Rattle.refusals.specs.declared.Refusal.{Refusal}
use Rattle.lexer.specs.Numbers.{all_numbers}
use Rattle.nestformat.specs.declared.kinds.Contents.{Contents}
use Rattle.nestformat.specs.Due.{map_due, row_due, State}
use Rattle.nestlines.specs.Closed.{closed, fitting, item_of_row}
use Rattle.nestlines.specs.LineItems.{item_or_fault}
use Rattle.nestlines.proofs.RowLines.{closed_read, map_closed, row_closed}
use Rattle.nestfile.specs.Bodies.{refusal_at}

pub map_read : (e : Contents) (s : State) (ts : List (List ℕ)) (zs ws : List ℤ) (r : Option (Option Refusal)) → all_numbers ts ≡ true → fitting (closed ts) ≡ Some zs → ws ≡ zs → r ≡ refusal_at (map_due e) s.contents [] ws → item_or_fault (map_due e) s ts ≡ item_of_row zs r
map_read e s ts zs ws r h c w t = map_closed e s ts h zs (closed_read (closed ts) zs c) ∙ ap (item_of_row zs) (sym (t ∙ ap (refusal_at (map_due e) s.contents []) w))

pub row_read : (e : Contents) (s : State) (ts : List (List ℕ)) (zs ws : List ℤ) (cs : List (List ℤ)) (r : Option (Option Refusal)) → all_numbers ts ≡ true → fitting (closed ts) ≡ Some zs → ws ≡ zs → cs ≡ s.clauses → r ≡ refusal_at (row_due e) s.contents cs ws → item_or_fault (row_due e) s ts ≡ item_of_row zs r
row_read e s ts zs ws cs r h c w k t = row_closed e s ts h zs (closed_read (closed ts) zs c) ∙ ap (item_of_row zs) (sym (t ∙ ap₂ (λ x y. refusal_at (row_due e) s.contents x y) k w))
