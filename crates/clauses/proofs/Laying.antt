-- Stretches that follow one another without a gap. Assumes nothing.
use Rattle.std.proofs.Common.{◌≡◌, ℕ, zero, suc, ◌+◌, ◌<◌, ◌≤◌, true, eqb, List, [], ◌∷◌, ◌++◌, length, get_or, take, drop, ℤ, sym, refl, ap, ◌∙◌, subst, le_of_suc-le-suc, not-suc-le-zero, arith, length-drop}
use lib.Seq.{take-append-le}
use Rattle.std.proofs.lemmas.List.{drop-append-le, take-append-drop, length-take-le, take-map}
use Rattle.std.proofs.lemmas.Bool.{and_from, and_parts, eq-eqb, eqb-true}
use Rattle.clauses.specs.declared.stretch.Stretch.{Stretch}
use Rattle.clauses.specs.Stretches.{part, parts, laid}
use Rattle.clauses.specs.Adding.{literal_count}

abbrev pub no_stretch : Stretch
no_stretch = record { start = 0; len = 0 }

-- how long the stretches are together
abbrev pub lens : List Stretch → ℕ
lens [] = 0
lens (s ∷ ss) = s.len + lens ss

pub laid_first : (f : ℕ) (s : Stretch) (ss : List Stretch) (e : ℕ) → laid f (s ∷ ss) e ≡ true → s.start ≡ f
laid_first f s ss e h = eqb-true s.start f (and_parts (eqb s.start f) (laid (f + s.len) ss e) h).0

pub laid_rest : (f : ℕ) (s : Stretch) (ss : List Stretch) (e : ℕ) → laid f (s ∷ ss) e ≡ true → laid (f + s.len) ss e ≡ true
laid_rest f s ss e h = (and_parts (eqb s.start f) (laid (f + s.len) ss e) h).1

pub laid_lens : (f : ℕ) (ss : List Stretch) (e : ℕ) → laid f ss e ≡ true → f + lens ss ≡ e
laid_lens f [] e h = omega (arith, eqb-true f e h)
laid_lens f (s ∷ ss) e h = let r = laid_lens (f + s.len) ss e (laid_rest f s ss e h) in omega arith

pub laid_push : (f : ℕ) (ss : List Stretch) (e d : ℕ) (s : Stretch) → laid f ss e ≡ true → s.start ≡ e → d ≡ e + s.len → laid f (ss ++ s ∷ []) d ≡ true
laid_push f [] e d s h b n =
    let z = eqb-true f e h in
    and_from (eqb s.start f) _ (eq-eqb _ _ (omega arith)) (eq-eqb _ _ (omega arith))
laid_push f (x ∷ ss) e d s h b n =
    and_from (eqb x.start f) _ (eq-eqb _ _ (laid_first f x ss e h)) (laid_push (f + x.len) ss e d s (laid_rest f x ss e h) b n)

pub laid_take : (f : ℕ) (ss : List Stretch) (e k : ℕ) → laid f ss e ≡ true → laid f (take k ss) (f + lens (take k ss)) ≡ true
laid_take f ss e zero h = eq-eqb _ _ (omega arith)
laid_take f [] e (suc k) h = eq-eqb _ _ (omega arith)
laid_take f (s ∷ ss) e (suc k) h =
    let r = laid_take (f + s.len) ss e k (laid_rest f s ss e h) in
    let n : (f + s.len) + lens (take k ss) ≡ f + (s.len + lens (take k ss)) = omega arith in
    and_from (eqb s.start f) _ (eq-eqb _ _ (laid_first f s ss e h)) (subst (λ d. laid (f + s.len) (take k ss) d ≡ true) n r)

pub lens_take : (ss : List Stretch) (k : ℕ) → lens (take k ss) ≤ lens ss
lens_take ss zero = omega arith
lens_take [] (suc k) = omega arith
lens_take (s ∷ ss) (suc k) = let r = lens_take ss k in omega arith

-- the stretch k begins where those before it end, and lies within
pub starts_at : (f : ℕ) (ss : List Stretch) (e k : ℕ) → laid f ss e ≡ true → k < length ss → (get_or ss k no_stretch).start ≡ f + lens (take k ss)
starts_at f [] e k h w = absurd (not-suc-le-zero w)
starts_at f (s ∷ ss) e zero h w = let z = laid_first f s ss e h in omega arith
starts_at f (s ∷ ss) e (suc k) h w = let r = starts_at (f + s.len) ss e k (laid_rest f s ss e h) (le_of_suc-le-suc w) in omega arith

pub lies_within : (f : ℕ) (ss : List Stretch) (e k : ℕ) → laid f ss e ≡ true → k < length ss → (get_or ss k no_stretch).start + (get_or ss k no_stretch).len ≤ e
lies_within f [] e k h w = absurd (not-suc-le-zero w)
lies_within f (s ∷ ss) e zero h w =
    let z = laid_first f s ss e h in
    let r = laid_lens (f + s.len) ss e (laid_rest f s ss e h) in
    omega arith
lies_within f (s ∷ ss) e (suc k) h w = lies_within (f + s.len) ss e k (laid_rest f s ss e h) (le_of_suc-le-suc w)

-- literals past the stretches do not matter
part_more : (ls more : List ℤ) (s : Stretch) → s.start + s.len ≤ length ls → part (ls ++ more) s ≡ part ls s
part_more ls more s h =
    let a : s.start ≤ length ls = omega arith in
    let b : s.len ≤ length (drop s.start ls) = simp length-drop (omega arith) in
    ap (take s.len) (drop-append-le s.start ls more a) ∙ take-append-le s.len (drop s.start ls) more b

pub parts_more : (f : ℕ) (ss : List Stretch) (ls more : List ℤ) → laid f ss (length ls) ≡ true → parts (ls ++ more) ss ≡ parts ls ss
parts_more f [] ls more h = refl
parts_more f (s ∷ ss) ls more h =
    let z = laid_first f s ss (length ls) h in
    let r = laid_lens (f + s.len) ss (length ls) (laid_rest f s ss (length ls) h) in
    let one = part_more ls more s (omega arith) in
    ap (λ x. x ∷ parts (ls ++ more) ss) one ∙ ap (λ xs. part ls s ∷ xs) (parts_more (f + s.len) ss ls more (laid_rest f s ss (length ls) h))

pub parts_count : (f : ℕ) (ss : List Stretch) (e : ℕ) (ls : List ℤ) → laid f ss e ≡ true → e ≤ length ls → literal_count (parts ls ss) ≡ lens ss
parts_count f [] e ls h w = refl
parts_count f (s ∷ ss) e ls h w =
    let z = laid_first f s ss e h in
    let r = laid_lens (f + s.len) ss e (laid_rest f s ss e h) in
    let b : s.len ≤ length (drop s.start ls) = simp length-drop (omega arith) in
    let n = length-take-le s.len (drop s.start ls) b in
    let more = parts_count (f + s.len) ss e ls (laid_rest f s ss e h) w in
    omega arith

-- the last literals and stretches cut off
module _ (ss : List Stretch) (ls : List ℤ) (whole : laid 0 ss (length ls) ≡ true) (k : ℕ) where
  pub front_fits : lens (take k ss) ≤ length ls
  front_fits =
      let a = lens_take ss k in
      let b = laid_lens 0 ss (length ls) whole in
      omega arith

  pub front_count : literal_count (take k (parts ls ss)) ≡ lens (take k ss)
  front_count =
      ap literal_count (take-map (part ls) k ss)
      ∙ parts_count 0 (take k ss) (0 + lens (take k ss)) ls (laid_take 0 ss (length ls) k whole) (let a = front_fits in omega arith)

  pub front_laid : (m : ℕ) → m ≡ lens (take k ss) → laid 0 (take k ss) (length (take m ls)) ≡ true
  front_laid m e =
      let a = front_fits in
      let n : length (take m ls) ≡ m = length-take-le m ls (omega arith) in
      let d : 0 + lens (take k ss) ≡ length (take m ls) = omega arith in
      subst (λ x. laid 0 (take k ss) x ≡ true) d (laid_take 0 ss (length ls) k whole)

  pub front_parts : (m : ℕ) → m ≡ lens (take k ss) → parts (take m ls) (take k ss) ≡ take k (parts ls ss)
  front_parts m e =
      sym (parts_more 0 (take k ss) (take m ls) (drop m ls) (front_laid m e))
      ∙ ap (λ l. parts l (take k ss)) (take-append-drop m ls)
      ∙ sym (take-map (part ls) k ss)
