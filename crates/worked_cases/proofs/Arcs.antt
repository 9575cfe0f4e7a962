-- Two arcs there and back close a chain just where both are on. Assumes nothing.
use Rattle.std.proofs.Common.{◌≡◌, ℕ, suc, zero, ◌<◌, Bool, true, false, ◌&&◌, ◌⊎◌, List, get_or, nat_eq, slice_index_or, refl, sym, ◌∙◌, inl, inr, ⊎_elim, arith}
use Rattle.std.proofs.lemmas.Bool.{both_ways, and_parts, and_from, eq-eqb, eqb-true, cases_Bool, cases_eq}
use Rattle.assignments.specs.Assignments.{at, atom}
use Rattle.cycles.specs.declared.arc.Arc.{Arc}
use Rattle.cycles.specs.Arcs.{counted_arc}
use Rattle.cycles.specs.Cyclic.{cyclic}
use Rattle.cycles.specs.Graphs.{no_arc, Edge, Chain, last, link, Closed}
use Rattle.cycles.specs.Warshall.{cyclic_decides, not_cyclic}
use Rattle.worked_cases.specs.Cases.{there_and_back}

abbrev pub both_on : List ℕ → Bool
both_on p = nat_eq (at p 0) 1 && nat_eq (at p 1) 1

-- an edge is the first arc, or the second
edge_at : (p : List ℕ) (a b i : ℕ) → i < 2 → atom p (counted_arc (slice_index_or there_and_back i no_arc)) ≡ 1 → (get_or there_and_back i no_arc).from ≡ a → (get_or there_and_back i no_arc).to ≡ b → ((at p 0 ≡ 1) × (1 ≡ a) × (2 ≡ b)) ⊎ ((at p 1 ≡ 1) × (2 ≡ a) × (1 ≡ b))
edge_at p a b zero h o f t = inl (o, f, t)
edge_at p a b (suc zero) h o f t = inr (o, f, t)
edge_at p a b (suc (suc i)) h o f t = absurd (omega arith)

edge_is : (p : List ℕ) (a b : ℕ) → Edge there_and_back p a b → ((at p 0 ≡ 1) × (1 ≡ a) × (2 ≡ b)) ⊎ ((at p 1 ≡ 1) × (2 ≡ a) × (1 ≡ b))
edge_is p a b e = edge_at p a b e.index e.within e.on e.starts e.leads

module _ (xs : List Arc) (p : List ℕ) where
  chain_up : ((a b : ℕ) → Edge xs p a b → a < b) → (a b : ℕ) → Chain xs p a b → a < b
  chain_up f a b (last e) = f a b e
  chain_up f a b (link {b = c} e r) = let x = f a c e in let y = chain_up f c b r in omega arith

  chain_down : ((a b : ℕ) → Edge xs p a b → b < a) → (a b : ℕ) → Chain xs p a b → b < a
  chain_down f a b (last e) = f a b e
  chain_down f a b (link {b = c} e r) = let x = f a c e in let y = chain_down f c b r in omega arith

not_closed : (p : List ℕ) → both_on p ≡ false → Closed there_and_back p → ⊥
not_closed p off c = ⊎_elim
    (λ (e : at p 0 ≡ 1).
    let up : (a b : ℕ) → Edge there_and_back p a b → a < b = λ a b g. ⊎_elim (λ w. let x = w.1 in let y = w.2 in omega arith) (λ w. absurd (both_ways (both_on p) off (and_from _ _ (eq-eqb _ _ e) (eq-eqb _ _ w.0)))) (edge_is p a b g) in
    let l = chain_up there_and_back p up c.signal c.signal c.chain in
    absurd (omega arith))
    (λ (n : at p 0 ≡ 1 → ⊥).
    let down : (a b : ℕ) → Edge there_and_back p a b → b < a = λ a b g. ⊎_elim (λ w. absurd (n w.0)) (λ w. let x = w.1 in let y = w.2 in omega arith) (edge_is p a b g) in
    let l = chain_down there_and_back p down c.signal c.signal c.chain in
    absurd (omega arith))
    (cases_eq (at p 0) 1)

closed : (p : List ℕ) → at p 0 ≡ 1 → at p 1 ≡ 1 → Closed there_and_back p
closed p a b =
    let first : Edge there_and_back p 1 2 = record { index = 0; within = omega arith; on = a; starts = refl; leads = refl } in
    let second : Edge there_and_back p 2 1 = record { index = 1; within = omega arith; on = b; starts = refl; leads = refl } in
    record { signal = 1; chain = link first (last second) }

pub both_are_cyclic : (p : List ℕ) → cyclic there_and_back p ≡ both_on p
both_are_cyclic p = ⊎_elim
    (λ (e : both_on p ≡ true).
    let w = and_parts _ _ e in
    (cyclic_decides there_and_back p).1 (closed p (eqb-true _ _ w.0) (eqb-true _ _ w.1)) ∙ sym e)
    (λ (e : both_on p ≡ false). sym (not_cyclic there_and_back p (not_closed p e)) ∙ sym e)
    (cases_Bool (both_on p))
