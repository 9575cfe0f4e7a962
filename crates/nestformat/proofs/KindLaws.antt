-- Kinds by their letters. Assumes nothing.
use Rattle.std.proofs.Common.{◌≡◌, ℕ, Bool, true, false, cond, eqb, ◌&&◌, List, [], ◌∷◌, Some, None, Option, unwrap_or, is_some, refl, sym, ap, ◌∙◌}
use Rattle.std.specs.Str.{bytes_eq}
use Rattle.std.proofs.lemmas.Slice.Eq.{bytes_eq-Decides}
use Rattle.std.proofs.lemmas.Bool.{cond-true, cond-false, eqb-true}
use Rattle.nestformat.specs.declared.kinds.BodyKind.{BodyKind}
use Rattle.nestformat.specs.declared.kinds.BodyKind.TheVariants.{Outer, Nest, Below, Loop, Milliamperes, Lines}
use Rattle.nestformat.specs.Kinds.{letter_of, kind_of_letter, kind_named, same_kind}

letter_back : (k : BodyKind) → kind_of_letter (letter_of k) ≡ Some k
letter_back Outer = refl
letter_back Nest = refl
letter_back Below = refl
letter_back Loop = refl
letter_back Milliamperes = refl
letter_back Lines = refl

pub kind_back : (k : BodyKind) → unwrap_or (kind_named (letter_of k ∷ [])) Outer ≡ k
kind_back k = ap (λ o. unwrap_or o Outer) (letter_back k)

pub kind_some : (k : BodyKind) → is_some (kind_named (letter_of k ∷ [])) ≡ true
kind_some k = ap is_some (letter_back k)

pub same_kind_is : (k j : BodyKind) → same_kind k j ≡ true → k ≡ j
same_kind_is k j h =
    let e : Some k ≡ Some j = sym (letter_back k) ∙ ap kind_of_letter (eqb-true (letter_of k) (letter_of j) h) ∙ letter_back j in
    cc

abbrev chain : (p q r s t u : Bool) → Option BodyKind
chain p q r s t u = cond p (Some Outer) (cond q (Some Nest) (cond r (Some Below) (cond s (Some Loop) (cond t (Some Milliamperes) (cond u (Some Lines) None)))))

by_tests : (b : ℕ) (p q r s t u : Bool) → eqb b 111 ≡ p → eqb b 110 ≡ q → eqb b 109 ≡ r → eqb b 108 ≡ s → eqb b 100 ≡ t → eqb b 119 ≡ u → chain p q r s t u ≡ cond (eqb b (letter_of (unwrap_or (chain p q r s t u) Outer))) (Some (unwrap_or (chain p q r s t u) Outer)) None
by_tests b true q r s t u hp hq hr hs ht hu = sym (cond-true _ _ _ hp)
by_tests b false true r s t u hp hq hr hs ht hu = sym (cond-true _ _ _ hq)
by_tests b false false true s t u hp hq hr hs ht hu = sym (cond-true _ _ _ hr)
by_tests b false false false true t u hp hq hr hs ht hu = sym (cond-true _ _ _ hs)
by_tests b false false false false true u hp hq hr hs ht hu = sym (cond-true _ _ _ ht)
by_tests b false false false false false true hp hq hr hs ht hu = sym (cond-true _ _ _ hu)
by_tests b false false false false false false hp hq hr hs ht hu = sym (cond-false _ _ _ hp)

-- a letter names its own kind, and no other letter does
one_letter : (b : ℕ) → kind_of_letter b ≡ cond (eqb b (letter_of (unwrap_or (kind_of_letter b) Outer))) (Some (unwrap_or (kind_of_letter b) Outer)) None
one_letter b = by_tests b (eqb b 111) (eqb b 110) (eqb b 109) (eqb b 108) (eqb b 100) (eqb b 119) refl refl refl refl refl refl

alone : (b : Bool) → (b && true) ≡ b
alone true = refl
alone false = refl

never : (b : Bool) → (b && false) ≡ false
never true = refl
never false = refl

pub named_is : (t : List ℕ) → kind_named t ≡ cond (bytes_eq t (letter_of (unwrap_or (kind_named t) Outer) ∷ [])) (Some (unwrap_or (kind_named t) Outer)) None
named_is [] = refl
named_is (b ∷ []) = one_letter b ∙ ap (λ x. cond x (Some (unwrap_or (kind_of_letter b) Outer)) None) (sym (alone (eqb b (letter_of (unwrap_or (kind_of_letter b) Outer)))))
named_is (b ∷ c ∷ bs) = sym (cond-false _ _ _ (never (eqb b 111)))

named_some : (b : Bool) (k : BodyKind) → is_some (cond b (Some k) None) ≡ true → b ≡ true
named_some true k h = refl
named_some false k h = h

-- a token that names a kind is its letter
pub named_letter : (t : List ℕ) → is_some (kind_named t) ≡ true → t ≡ letter_of (unwrap_or (kind_named t) Outer) ∷ []
named_letter t h =
    let k = unwrap_or (kind_named t) Outer in
    (bytes_eq-Decides t (letter_of k ∷ [])).0 (named_some (bytes_eq t (letter_of k ∷ [])) k (ap is_some (sym (named_is t)) ∙ h))
