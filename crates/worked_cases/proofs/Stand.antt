-- Each case, by the definitions. Assumes nothing.
use Rattle.std.proofs.Common.{◌≡◌, ℕ, suc, zero, ◌<◌, ◌≤◌, min, Bool, true, false, ◌&&◌, List, [], ◌∷◌, pos, negsuc, ℤ, Some, slice_index, slice_set, refl, arith}
use Rattle.std.proofs.lemmas.Bool.{and_from}
use Rattle.assignments.specs.Assignments.{at, Complete}
use Rattle.assignments.specs.Literals.{true_at}
use Rattle.vetoes.specs.Meaning.{Meaning, silent}
use Rattle.vetoes.specs.Verdicts.{Ticks, ticked}
use Rattle.ledgers.specs.Ledger.{Ledger, before_first, ask, clash}
use Rattle.ledgers.specs.Admitted.{Admitted}
use Rattle.nested.specs.Nests.{nest}
use Rattle.cycles.specs.Cyclic.{cycle_means}
use Rattle.worked_cases.specs.Playing.{OnlyRight}
use Rattle.worked_cases.specs.Cases.{one_or_two, NoAtoms, OneOfTwo, ClauseBetween, first_without_third, NestAlone, OrderOverNest, there_and_back, TwoArcs, at_most_500, HalfAnAmpere, either_of_two, NestOverNest}
use Rattle.worked_cases.proofs.Deciding.{complete_by, none_at}
use Rattle.worked_cases.proofs.Steps.{fits, sizes, holds, hands, finishes, admitted_is, admitted_complete, admitted_fits}
use Rattle.worked_cases.proofs.Clashes.{clash_of_two, clash_of_three}
use Rattle.worked_cases.proofs.Arcs.{both_on, both_are_cyclic}

-- where the meaning itself computes
by_itself : (m : Meaning) (n : ℕ) (q : List ℕ) → Complete n q → m.speaks q ≡ m.speaks q
by_itself m n q c = refl

abbrev mute_0 : (q : List ℕ) → Complete 0 q → silent.speaks q ≡ silent.speaks q
mute_0 = by_itself silent 0

abbrev mute_2 : (q : List ℕ) → Complete 2 q → silent.speaks q ≡ silent.speaks q
mute_2 = by_itself silent 2

pub no_atoms : NoAtoms
no_atoms = (
  sizes refl,
  (
    hands silent silent.speaks 0 mute_0 refl refl refl refl refl refl refl,
    (
      finishes silent silent.speaks 0 mute_0 refl refl refl,
      tt,
    ),
  ),
)

pub one_of_two : OneOfTwo
one_of_two = (
  sizes refl,
  (
    holds refl,
    (
      hands silent silent.speaks 2 mute_2 refl refl refl refl refl refl refl,
      (
        hands silent silent.speaks 2 mute_2 refl refl refl refl refl refl refl,
        (
          hands silent silent.speaks 2 mute_2 refl refl refl refl refl refl refl,
          (
            finishes silent silent.speaks 2 mute_2 refl refl refl,
            tt,
          ),
        ),
      ),
    ),
  ),
)

pub clause_between : ClauseBetween
clause_between = (
  sizes refl,
  (
    holds refl,
    (
      hands silent silent.speaks 2 mute_2 refl refl refl refl refl refl refl,
      (
        holds refl,
        (
          hands silent silent.speaks 2 mute_2 refl refl refl refl refl refl refl,
          (
            finishes silent silent.speaks 2 mute_2 refl refl refl,
            tt,
          ),
        ),
      ),
    ),
  ),
)

-- ticks for three atoms
ticks_three : (x y z a b c d e f : ℕ) → a < 2 → b < 2 → c < 2 → (a ≡ 1 → min x 2 < 2) → (b ≡ 1 → min y 2 < 2) → (c ≡ 1 → min z 2 < 2) → Ticks (x ∷ y ∷ z ∷ []) (d ∷ e ∷ f ∷ []) (a ∷ b ∷ c ∷ [])
ticks_three x y z a b c d e f la lb lc ka kb kc = record { bits = bits; atoms = λ i h w. omega arith; known = known; stays = stays }
  where
    bits : (i : ℕ) → i < 3 → slice_index (a ∷ b ∷ c ∷ []) i < 2
    bits zero h = la
    bits (suc zero) h = lb
    bits (suc (suc zero)) h = lc
    bits (suc (suc (suc i))) h = absurd (omega arith)

    known : (i : ℕ) → i < 3 → slice_index (a ∷ b ∷ c ∷ []) i ≡ 1 → at (x ∷ y ∷ z ∷ []) i < 2
    known zero h w = ka w
    known (suc zero) h w = kb w
    known (suc (suc zero)) h w = kc w
    known (suc (suc (suc i))) h w = absurd (omega arith)

    stays : (i : ℕ) → 3 ≤ i → slice_index (a ∷ b ∷ c ∷ []) i ≡ slice_index (d ∷ e ∷ f ∷ []) i
    stays zero h = absurd (omega arith)
    stays (suc zero) h = absurd (omega arith)
    stays (suc (suc zero)) h = absurd (omega arith)
    stays (suc (suc (suc i))) h = refl

nest_needs : (i : ℕ) → slice_index (1 ∷ 0 ∷ 1 ∷ []) i ≡ 1 → first_without_third.speaks (ticked (1 ∷ 2 ∷ 0 ∷ []) (slice_set (1 ∷ 0 ∷ 1 ∷ []) i 0)) ≡ false
nest_needs zero e = refl
nest_needs (suc zero) e = absurd (omega arith)
nest_needs (suc (suc zero)) e = refl
nest_needs (suc (suc (suc i))) e = absurd (omega arith)

pub nest_alone : NestAlone
nest_alone = record {
  quiet = refl;
  because = record {
    speaks = (omega arith, refl);
    ticks = ticks_three 1 2 0 1 0 1 2 2 2 (omega arith) (omega arith) (omega arith) (λ e. omega arith) (λ e. absurd (omega arith)) (λ e. omega arith);
    reason = refl;
    needed = nest_needs;
  };
}

loads_need : (i : ℕ) → slice_index (1 ∷ 1 ∷ 1 ∷ []) i ≡ 1 → at_most_500.speaks (ticked (1 ∷ 1 ∷ 1 ∷ []) (slice_set (1 ∷ 1 ∷ 1 ∷ []) i 0)) ≡ false
loads_need zero e = refl
loads_need (suc zero) e = refl
loads_need (suc (suc zero)) e = refl
loads_need (suc (suc (suc i))) e = absurd (omega arith)

pub half_an_ampere : HalfAnAmpere
half_an_ampere = record {
  quiet = refl;
  because = record {
    speaks = (omega arith, refl);
    ticks = ticks_three 1 1 1 1 1 1 2 2 2 (omega arith) (omega arith) (omega arith) (λ e. omega arith) (λ e. omega arith) (λ e. omega arith);
    reason = refl;
    needed = loads_need;
  };
}

-- the order over the nest, with its clause held

abbrev order : Ledger
order = record { size = Some 3; held = one_or_two ∷ []; scopes = []; position = before_first; handed = [] }

abbrev nest_3 : (q : List ℕ) → Complete 3 q → first_without_third.speaks q ≡ first_without_third.speaks q
nest_3 = by_itself first_without_third 3

abbrev nest_fits : List ℕ → Bool
nest_fits q = fits first_without_third.speaks (one_or_two ∷ []) q

admits : (q : List ℕ) → Complete 3 q → nest_fits q ≡ true → Admitted first_without_third order q
admits q c e = admitted_is first_without_third first_without_third.speaks 3 nest_3 order refl q c e

-- two literals that no admitted assignment includes both
apart : (x y : ℤ) → ((r : List ℕ) → Complete 3 r → (nest_fits r && (true_at r x && true_at r y)) ≡ true → ⊥) → (r : List ℕ) → Admitted first_without_third order r → true_at r x ≡ true → true_at r y ≡ true → ⊥
apart x y none r a e f = none r (admitted_complete first_without_third first_without_third.speaks 3 nest_3 order refl r a)
    (and_from _ _ (admitted_fits first_without_third first_without_third.speaks 3 nest_3 order refl r a) (and_from _ _ e f))

first_clash : OnlyRight first_without_third order (ask (pos 1 ∷ pos 2 ∷ negsuc 2 ∷ []) (2 ∷ 2 ∷ 2 ∷ []) (2 ∷ 2 ∷ 2 ∷ [])) (clash (2 ∷ 2 ∷ 2 ∷ []) (1 ∷ 0 ∷ 1 ∷ []))
first_clash = clash_of_three first_without_third order (pos 1) (pos 2) (negsuc 2) (0 ∷ 1 ∷ 0 ∷ []) (1 ∷ 1 ∷ 1 ∷ [])
    (admits (0 ∷ 1 ∷ 0 ∷ []) (complete_by (0 ∷ 1 ∷ 0 ∷ []) refl) refl) (admits (1 ∷ 1 ∷ 1 ∷ []) (complete_by (1 ∷ 1 ∷ 1 ∷ []) refl) refl)
    refl refl refl refl
    (apart (pos 1) (negsuc 2) (none_at 3 (λ r. nest_fits r && (true_at r (pos 1) && true_at r (negsuc 2))) refl))
    2 2 2 (2 ∷ 2 ∷ 2 ∷ []) refl

second_clash : OnlyRight first_without_third order (ask (pos 2 ∷ negsuc 1 ∷ []) (2 ∷ 2 ∷ 2 ∷ []) (2 ∷ 2 ∷ [])) (clash (2 ∷ 2 ∷ 2 ∷ []) (1 ∷ 1 ∷ []))
second_clash = clash_of_two first_without_third order (pos 2) (negsuc 1) (0 ∷ 1 ∷ 0 ∷ []) (1 ∷ 0 ∷ 1 ∷ [])
    (admits (0 ∷ 1 ∷ 0 ∷ []) (complete_by (0 ∷ 1 ∷ 0 ∷ []) refl) refl) (admits (1 ∷ 0 ∷ 1 ∷ []) (complete_by (1 ∷ 0 ∷ 1 ∷ []) refl) refl)
    refl refl
    (apart (pos 2) (negsuc 1) (none_at 3 (λ r. nest_fits r && (true_at r (pos 2) && true_at r (negsuc 1))) refl))
    2 2 (2 ∷ 2 ∷ 2 ∷ []) refl

pub order_over_nest : OrderOverNest
order_over_nest = (
  sizes refl,
  (
    holds refl,
    (
      first_clash,
      (
        second_clash,
        (
          hands first_without_third first_without_third.speaks 3 nest_3 refl refl refl refl refl refl refl,
          (
            hands first_without_third first_without_third.speaks 3 nest_3 refl refl refl refl refl refl refl,
            (
              hands first_without_third first_without_third.speaks 3 nest_3 refl refl refl refl refl refl refl,
              (
                hands first_without_third first_without_third.speaks 3 nest_3 refl refl refl refl refl refl refl,
                (
                  finishes first_without_third first_without_third.speaks 3 nest_3 refl refl refl,
                  tt,
                ),
              ),
            ),
          ),
        ),
      ),
    ),
  ),
)

abbrev arcs_2 : (q : List ℕ) → Complete 2 q → (cycle_means there_and_back).speaks q ≡ both_on q
arcs_2 q c = both_are_cyclic q

pub two_arcs : TwoArcs
two_arcs = (
  sizes refl,
  (
    hands (cycle_means there_and_back) both_on 2 arcs_2 refl refl refl refl refl refl refl,
    (
      hands (cycle_means there_and_back) both_on 2 arcs_2 refl refl refl refl refl refl refl,
      (
        hands (cycle_means there_and_back) both_on 2 arcs_2 refl refl refl refl refl refl refl,
        (
          finishes (cycle_means there_and_back) both_on 2 arcs_2 refl refl refl,
          tt,
        ),
      ),
    ),
  ),
)

abbrev above : Meaning
above = nest (record { map = 1 ∷ []; own = 1; clauses = [] }) either_of_two

pub nest_over_nest : NestOverNest
nest_over_nest = (
  sizes refl,
  (
    hands above above.speaks 1 (by_itself above 1) refl refl refl refl refl refl refl,
    (
      finishes above above.speaks 1 (by_itself above 1) refl refl refl,
      tt,
    ),
  ),
)
