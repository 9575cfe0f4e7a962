-- The test for a closed chain decides that there is one: signals are let in one after the other. Assumes nothing.
use Rattle.std.specs.Prelude.{◌≡◌, ℕ, zero, suc, ◌≤◌, true, false, List, Decides}
use Rattle.std.proofs.Math.Path.{refl}
use Rattle.std.proofs.Common.{sym, subst}
use Rattle.std.proofs.Math.Logic.{⊎_elim}
use native.Mathlib.Omega.{arith}
use Rattle.std.proofs.lemmas.List.{get_or_default}
use Rattle.std.proofs.lemmas.Bool.{both_ways, cases_eq, cases_Bool, or_left, or_right, or_cases, and_from, and_parts}
use Rattle.std.proofs.lemmas.Bool.Decides.{Decides-like, Decides-and, Decides-eqb, Decides-by_or, same_from_decides}
use Rattle.assignments.specs.Assignments.{atom, Part}
use Rattle.assignments.specs.Limits.{atom_limit}
use Rattle.vetoes.specs.Meaning.{Lawful}
use Rattle.vetoes.proofs.Highest.{highest_few}
use Rattle.cycles.specs.declared.arc.Arc.{Arc}
use Rattle.cycles.specs.Limits.{signal_limit}
use Rattle.cycles.specs.Arcs.{counted_arc}
use Rattle.cycles.specs.Graphs.{no_arc, Edge, Chain, last, link, Closed}
use Rattle.cycles.specs.Cyclic.{is_edge, has_edge, passes, closes, cyclic, cycle_means}
use Rattle.cycles.specs.ChainLaws.{counted_few, edge_to, edge_grows, edge_near, closed_to, chain_join}

module _ (xs : List Arc) (p : List ℕ) where
  abbrev IsEdge : ℕ → ℕ → Arc → Type 0
  IsEdge a b x = (atom p (counted_arc x) ≡ 1) × ((x.from ≡ a) × (x.to ≡ b))

  one_arc : (a b : ℕ) (x : Arc) → Decides (is_edge p a b x) (IsEdge a b x)
  one_arc a b x = Decides-and _ _ (Decides-eqb _ _) (Decides-and _ _ (Decides-eqb _ _) (Decides-eqb _ _))

  pub edge_decided : (a b : ℕ) → Decides (has_edge p a b xs) (Edge xs p a b)
  edge_decided a b = Decides-like (has_edge p a b xs)
      (λ f. let h = f.2 no_arc in record { index = f.0; within = f.1; on = h.0; starts = h.1.0; leads = h.1.1 })
      (λ e. (e.index, e.within, λ d. subst (IsEdge a b) (get_or_default xs e.index no_arc d e.within) (e.on, (e.starts, e.leads))))
      (Decides-by_or (is_edge p a b) (IsEdge a b) (has_edge p a b) (one_arc a b) refl (λ _ _. refl) xs)

  pub passes_chain : (k a b : ℕ) → passes xs p k a b ≡ true → Chain xs p a b
  unfolding passes
  passes_chain zero a b e = last ((edge_decided a b).0 e)
  passes_chain (suc k) a b e = ⊎_elim
      (λ l. passes_chain k a b l)
      (λ r. let both = and_parts (passes xs p k a (suc k)) (passes xs p k (suc k) b) r in
      chain_join xs p a (suc k) b (passes_chain k a (suc k) both.0) (passes_chain k (suc k) b both.1))
      (or_cases (passes xs p k a b) _ e)

  passes_edge : (k a b : ℕ) → Edge xs p a b → passes xs p k a b ≡ true
  unfolding passes
  passes_edge zero a b e = (edge_decided a b).1 e
  passes_edge (suc k) a b e = or_left (passes xs p k a b) _ (passes_edge k a b e)

  -- to or from the signal that was let in last
  to_last : (k a : ℕ) → passes xs p (suc k) a (suc k) ≡ true → passes xs p k a (suc k) ≡ true
  unfolding passes
  to_last k a e = ⊎_elim (λ l. l) (λ r. (and_parts (passes xs p k a (suc k)) _ r).0) (or_cases (passes xs p k a (suc k)) _ e)

  from_last : (k b : ℕ) → passes xs p (suc k) (suc k) b ≡ true → passes xs p k (suc k) b ≡ true
  unfolding passes
  from_last k b e = ⊎_elim (λ l. l) (λ r. (and_parts (passes xs p k (suc k) (suc k)) _ r).1) (or_cases (passes xs p k (suc k) b) _ e)

  through : (k a b : ℕ) → passes xs p k a (suc k) ≡ true → passes xs p k (suc k) b ≡ true → passes xs p (suc k) a b ≡ true
  unfolding passes
  through k a b l r = or_right (passes xs p k a b) _ (and_from _ _ l r)

  -- a chain by way of a signal that is let in
  passes_join : (k a c b : ℕ) → 1 ≤ c → c ≤ k → passes xs p k a c ≡ true → passes xs p k c b ≡ true → passes xs p k a b ≡ true
  unfolding passes
  passes_join zero a c b low high l r = absurd (omega arith)
  passes_join (suc k) a c b low high l r = ⊎_elim
      (λ (e : c ≡ suc k).
      through k a b (to_last k a (subst (λ s. passes xs p (suc k) a s ≡ true) e l)) (from_last k b (subst (λ s. passes xs p (suc k) s b ≡ true) e r)))
      (λ (n : c ≡ suc k → ⊥).
      let h : c ≤ k = omega arith in
      ⊎_elim
      (λ l0. ⊎_elim
      (λ r0. or_left (passes xs p k a b) _ (passes_join k a c b low h l0 r0))
      (λ r1. let x = and_parts (passes xs p k c (suc k)) (passes xs p k (suc k) b) r1 in
      through k a b (passes_join k a c (suc k) low h l0 x.0) x.1)
      (or_cases (passes xs p k c b) _ r))
      (λ l1. let y = and_parts (passes xs p k a (suc k)) (passes xs p k (suc k) c) l1 in ⊎_elim
      (λ r0. through k a b y.0 (passes_join k (suc k) c b low h y.1 r0))
      (λ r1. let x = and_parts (passes xs p k c (suc k)) (passes xs p k (suc k) b) r1 in through k a b y.0 x.1)
      (or_cases (passes xs p k c b) _ r))
      (or_cases (passes xs p k a c) _ l))
      (cases_eq c (suc k))

  pub chain_passes : (a b : ℕ) → Chain xs p a b → passes xs p signal_limit a b ≡ true
  chain_passes a b (last e) = passes_edge signal_limit a b e
  chain_passes a b (link {b = c} e ch) =
      let s = edge_to xs p a c e in
      passes_join signal_limit a c b s.0 s.1 (passes_edge signal_limit a c e) (chain_passes c b ch)

  chain_end : (a b : ℕ) → Chain xs p a b → (1 ≤ b) × (b ≤ signal_limit)
  chain_end a b (last e) = edge_to xs p a b e
  chain_end a b (link {b = c} e ch) = chain_end c b ch

  closes_closed : (k : ℕ) → closes xs p k ≡ true → Closed xs p
  unfolding closes
  closes_closed zero e = absurd (both_ways false refl e)
  closes_closed (suc k) e = ⊎_elim
      (λ l. record { signal = suc k; chain = passes_chain signal_limit (suc k) (suc k) l })
      (closes_closed k)
      (or_cases (passes xs p signal_limit (suc k) (suc k)) _ e)

  closed_closes : (k s : ℕ) → 1 ≤ s → s ≤ k → Chain xs p s s → closes xs p k ≡ true
  unfolding closes
  closed_closes zero s low high ch = absurd (omega arith)
  closed_closes (suc k) s low high ch = ⊎_elim
      (λ (e : s ≡ suc k). or_left (passes xs p signal_limit (suc k) (suc k)) _ (subst (λ x. passes xs p signal_limit x x ≡ true) e (chain_passes s s ch)))
      (λ (n : s ≡ suc k → ⊥). or_right (passes xs p signal_limit (suc k) (suc k)) _ (closed_closes k s low (omega arith) ch))
      (cases_eq s (suc k))

  pub cyclic_decides : Decides (cyclic xs p) (Closed xs p)
  unfolding cyclic
  cyclic_decides = (
    closes_closed signal_limit,
    λ c.
        let s = chain_end c.signal c.signal c.chain in
        closed_closes signal_limit c.signal s.0 s.1 c.chain,
  )

pub cycle_lawful : (xs : List Arc) → Lawful (cycle_means xs)
cycle_lawful xs = record {
  few = highest_few counted_arc atom_limit counted_few xs;
  near = λ p q same. same_from_decides (cyclic xs p) (cyclic xs q) (cyclic_decides xs p)
      (Decides-like (cyclic xs q) (closed_to xs q p (λ a b. edge_near xs q p a b (λ i h. sym (same i h)))) (closed_to xs p q (λ a b. edge_near xs p q a b same)) (cyclic_decides xs q));
  grows = λ p q part e. (cyclic_decides xs q).1 (closed_to xs p q (λ a b. edge_grows xs p q a b part) ((cyclic_decides xs p).0 e));
}

pub is_cyclic : (xs : List Arc) (p q : List ℕ) → Part q p → Closed xs q → (true ≡ cyclic xs p) × (cyclic xs q ≡ true)
is_cyclic xs p q part c =
    (sym ((cyclic_decides xs p).1 (closed_to xs q p (λ a b. edge_grows xs q p a b part) c)), (cyclic_decides xs q).1 c)

pub not_cyclic : (xs : List Arc) (p : List ℕ) → (Closed xs p → ⊥) → false ≡ cyclic xs p
not_cyclic xs p none = ⊎_elim (λ e. absurd (none ((cyclic_decides xs p).0 e))) sym (cases_Bool (cyclic xs p))
