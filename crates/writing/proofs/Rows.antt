-- A row as its numbers, each with a space after it, and 0 at the end. Assumes nothing.
use Rattle.std.proofs.Common.{◌≡◌, ℕ, ◌+◌, ◌<◌, ◌≤◌, List, [], ◌∷◌, ◌++◌, length, get_or, take, codes, sym, refl, ap, ◌∙◌, append_assoc}
use Rattle.std.specs.List.{flat_map}
use Rattle.std.proofs.lemmas.List.{flat_map_more, take_more, take_all}
use Rattle.lexer.specs.Lines.{spaced}
use Rattle.writing.specs.Texts.{joined, ended, row_tokens}
use Rattle.writing.proofs.Joining.{joined_twice, joined_all, all_at_once}

module _ {T : Type 0} (f : T → List ℕ) where
  abbrev pub numbers_text : List T → List ℕ
  numbers_text xs = flat_map (λ x. f x ++ 32 ∷ []) xs

  pub row_is : (xs : List T) → ended (row_tokens f xs) ≡ numbers_text xs ++ 48 ∷ 10 ∷ []
  row_is [] = refl
  row_is (x ∷ []) = simp append_assoc
  row_is (x ∷ y ∷ ys) =
      append_assoc (f x) (32 ∷ spaced (row_tokens f (y ∷ ys))) (10 ∷ [])
      ∙ ap (λ l. f x ++ 32 ∷ l) (row_is (y ∷ ys))
      ∙ sym (ap (λ l. l ++ 48 ∷ 10 ∷ []) (append_assoc (f x) (32 ∷ []) (numbers_text (y ∷ ys))) ∙ append_assoc (f x) (32 ∷ numbers_text (y ∷ ys)) (48 ∷ 10 ∷ []))

  text_more : (xs : List T) (i : ℕ) (d : T) → i < length xs → numbers_text (take (i + 1) xs) ≡ numbers_text (take i xs) ++ (f (get_or xs i d) ++ 32 ∷ [])
  text_more xs i d l = ap numbers_text (take_more xs i d l) ∙ sym (flat_map_more (λ x. f x ++ 32 ∷ []) [] (take i xs) (get_or xs i d))

  -- a number more
  pub number_more : (a now mid next : List ℕ) (xs : List T) (i : ℕ) (x : T) → i < length xs → x ≡ get_or xs i x → now ≡ joined a (numbers_text (take i xs)) → mid ≡ joined now (f x) → next ≡ joined mid (32 ∷ []) → next ≡ joined a (numbers_text (take (i + 1) xs))
  number_more a now mid next xs i x l is h m n =
      n ∙ ap (λ w. joined w (32 ∷ [])) (m ∙ ap (λ w. joined w (f x)) h ∙ joined_twice a (numbers_text (take i xs)) (f x))
      ∙ joined_twice a (numbers_text (take i xs) ++ f x) (32 ∷ [])
      ∙ ap (joined a) (append_assoc (numbers_text (take i xs)) (f x) (32 ∷ []) ∙ ap (λ y. numbers_text (take i xs) ++ (f y ++ 32 ∷ [])) is ∙ sym (text_more xs i x l))

  -- the closing 0
  pub row_ends : (a now new : List ℕ) (xs : List T) (i : ℕ) → length xs ≤ i → now ≡ joined a (numbers_text (take i xs)) → new ≡ joined now (48 ∷ 10 ∷ []) → new ≡ joined a (ended (row_tokens f xs))
  row_ends a now new xs i l h n =
      n ∙ ap (λ w. joined w (48 ∷ 10 ∷ [])) (h ∙ ap (λ t. joined a (numbers_text t)) (take_all i xs l))
      ∙ joined_twice a (numbers_text xs) (48 ∷ 10 ∷ []) ∙ ap (joined a) (sym (row_is xs))

heading_tail : (m k : List ℕ) → codes "p nest " ++ (m ++ 32 ∷ (k ++ 10 ∷ [])) ≡ ended (codes "p" ∷ codes "nest" ∷ m ∷ k ∷ [])
heading_tail m k = ap (λ l. codes "p nest " ++ l) (sym (append_assoc m (32 ∷ k) (10 ∷ [])))

contents_tail : (l : ℕ) (a b r : List ℕ) → codes "t " ++ l ∷ 32 ∷ (a ++ 32 ∷ (b ++ 32 ∷ (r ++ 10 ∷ []))) ≡ ended (codes "t" ∷ (l ∷ []) ∷ a ∷ b ∷ r ∷ [])
contents_tail l a b r =
    ap (λ w. codes "t " ++ l ∷ 32 ∷ w)
    (ap (λ w. a ++ 32 ∷ w) (sym (append_assoc b (32 ∷ r) (10 ∷ []))) ∙ sym (append_assoc a (32 ∷ (b ++ 32 ∷ r)) (10 ∷ [])))

-- the other lines as they are put, part by part
module _ (o : List ℕ) where
  pub heading_parts : (m k : List ℕ) → joined_all o (codes "p nest " ∷ m ∷ (32 ∷ []) ∷ k ∷ (10 ∷ []) ∷ []) ≡ joined o (ended (codes "p" ∷ codes "nest" ∷ m ∷ k ∷ []))
  heading_parts m k = all_at_once (m ∷ (32 ∷ []) ∷ k ∷ (10 ∷ []) ∷ []) o (codes "p nest ") ∙ ap (joined o) (heading_tail m k)

  pub contents_parts : (l : ℕ) (a b r : List ℕ) → joined_all o (codes "t " ∷ (l ∷ 32 ∷ []) ∷ a ∷ (32 ∷ []) ∷ b ∷ (32 ∷ []) ∷ r ∷ (10 ∷ []) ∷ []) ≡ joined o (ended (codes "t" ∷ (l ∷ []) ∷ a ∷ b ∷ r ∷ []))
  contents_parts l a b r = all_at_once ((l ∷ 32 ∷ []) ∷ a ∷ (32 ∷ []) ∷ b ∷ (32 ∷ []) ∷ r ∷ (10 ∷ []) ∷ []) o (codes "t ") ∙ ap (joined o) (contents_tail l a b r)

  pub body_parts : (l : ℕ) (m : List ℕ) → joined_all o (codes "b " ∷ (l ∷ 32 ∷ []) ∷ m ∷ (10 ∷ []) ∷ []) ≡ joined o (ended (codes "b" ∷ (l ∷ []) ∷ m ∷ []))
  body_parts l m = all_at_once ((l ∷ 32 ∷ []) ∷ m ∷ (10 ∷ []) ∷ []) o (codes "b ")
