-- One turn more of a run. Assumes nothing.
use Rattle.std.proofs.Common.{◌≡◌, ℕ, zero, suc, ◌+◌, ◌<◌, ◌≤◌, List, ◌∷◌, length, get_or, set, Option, sym, refl, ap, ◌∙◌, subst, ⊎_elim, add-one, arith, get_or-set_other, get_or-set_same}
use Rattle.std.proofs.lemmas.Bool.{cases_eq}
use Rattle.std.proofs.lemmas.List.{get_or_default}
use Rattle.vetoes.specs.Meaning.{Meaning}
use Rattle.ledgers.specs.Ledger.{Event, advance, ledger}
use Rattle.ledgers.specs.Right.{Right}
use Rattle.ledgers.specs.Law.{Lawful}
use Rattle.ledgers.proofs.Keeping.{AllRight, right_is_lawful}
use Rattle.session.specs.declared.table.SessionTable.{SessionTable}
use Rattle.session.specs.Standing.{Stands, Keeps}
use Rattle.runs.specs.declared.turn.Turn.{Turn}
use Rattle.runs.specs.Histories.{called, asked, answer, event, no_turn, history}

-- what was played of the turns is right, and the table stands for its ledger; the turns to come are as they were
pub record Played (m : Meaning) (t : Option SessionTable) (before after : List Turn) (i : ℕ) : Type 0 where
  pub right : AllRight m (history i before after)
  pub stands : Stands t (ledger (history i before after))
  pub arguments : (j : ℕ) → asked (get_or after j no_turn).call ≡ asked (get_or before j no_turn).call
  pub coming : (j : ℕ) → i ≤ j → get_or after j no_turn ≡ get_or before j no_turn

kept : (k i : ℕ) (before after : List Turn) (x : Turn) → k ≤ i → history k before (set after i x) ≡ history k before after
kept zero i before after x h = refl
kept (suc k) i before after x h =
    let a = get_or-set_other after i k x no_turn (omega arith) in
    let b = kept k i before after x (omega arith) in
    ap (λ y. event (get_or before k no_turn) y ∷ history k before (set after i x)) a ∙ ap (λ y. event (get_or before k no_turn) (get_or after k no_turn) ∷ y) b

module _ (m : Meaning) (before : List Turn) where
  -- the turn at i is x once it has been played
  pub played_more : (m' : Meaning) (t t' : Option SessionTable) (after : List Turn) (i : ℕ) (d x : Turn) → m' ≡ m → Played m t before after i → i < length after → Keeps m' t t' (called (get_or after i d).call) (answer x.reply x.call) → asked x.call ≡ asked (get_or after i d).call → Played m t' before (set after i x) (i + 1)
  played_more m' t t' after i d x v p h keeps same = subst (Played m t' before (set after i x)) (sym (add-one i)) (record {
    right = subst (AllRight m) (sym longer) (p.right, step.0);
    stands = subst (λ z. Stands t' (ledger z)) (sym longer) step.1;
    arguments = λ j. ⊎_elim
        (λ (e : j ≡ i). rw e (ap (λ z. asked z.call) (get_or-set_same after i x no_turn h) ∙ same ∙ ap (λ z. asked z.call) was))
        (λ (ne : j ≡ i → ⊥). ap (λ z. asked z.call) (get_or-set_other after i j x no_turn ne) ∙ p.arguments j)
        (cases_eq j i);
    coming = λ j w. get_or-set_other after i j x no_turn (λ e. omega arith) ∙ p.coming j (omega arith);
  })
    where
      -- it is as it was before the run
      was : get_or after i d ≡ get_or before i no_turn
      was = get_or_default after i d no_turn h ∙ p.coming i (omega arith)

      here : Event
      here = record { call = called (get_or before i no_turn).call; answer = answer x.reply x.call }

      longer : history (suc i) before (set after i x) ≡ here ∷ history i before after
      longer = ap (λ z. event (get_or before i no_turn) z ∷ history i before (set after i x)) (get_or-set_same after i x no_turn h) ∙ ap (λ z. here ∷ z) (kept i i before after x (omega arith))

      step : Right m (ledger (history i before after)) here.call here.answer × Stands t' (advance (ledger (history i before after)) here.call here.answer)
      step = (subst (λ k. Keeps k t t' (called (get_or before i no_turn).call) (answer x.reply x.call)) v (subst (λ z. Keeps m' t t' (called z.call) (answer x.reply x.call)) was keeps)).step (ledger (history i before after)) p.stands

  pub played_all : (t : Option SessionTable) (after : List Turn) (i : ℕ) → length before ≤ i → i ≤ length before → Played m t before after i → Lawful m (history (length before) before after) × Stands t (ledger (history (length before) before after))
  played_all t after i h h' p =
      let e : i ≡ length before = omega arith in
      subst (λ k. Lawful m (history k before after) × Stands t (ledger (history k before after))) e (right_is_lawful m (history i before after) p.right, p.stands)
