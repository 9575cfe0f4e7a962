-- Arcs, chains, and how they depend on the assignment. Assumes nothing.
use Rattle.std.specs.Prelude.{◌≡◌, ℕ, ◌<◌, ◌≤◌, Bool, true, false, ◌&&◌, List, nat_le, slice_index_or}
use Rattle.std.proofs.Common.{sym, subst, ◌∙◌, ⊎_elim, arith}
use Rattle.std.proofs.lemmas.Bool.{cases_Bool, and_parts, leb-true, cond-true, cond-false}
use Rattle.assignments.specs.Assignments.{at, atom, Part}
use Rattle.assignments.specs.Limits.{atom_limit}
use Rattle.vetoes.specs.Counted.{highest_of}
use Rattle.vetoes.proofs.Highest.{highest_over, atom_near}
use Rattle.vetoes.proofs.Marking.{atom_grows, atom_positive}
use Rattle.cycles.specs.declared.arc.Arc.{Arc}
use Rattle.cycles.specs.Limits.{signal_limit}
use Rattle.cycles.specs.Arcs.{counted_arc, is_signal}
use Rattle.cycles.specs.Graphs.{no_arc, Edge, Chain, last, link, Closed}

-- an arc whose counted atom is true counts
pub record Live (p : List ℕ) (x : Arc) : Type 0 where
  pub low : 1 ≤ x.atom
  pub high : x.atom ≤ atom_limit
  pub on : atom p x.atom ≡ 1
  pub from_low : 1 ≤ x.from
  pub from_high : x.from ≤ signal_limit
  pub to_low : 1 ≤ x.to
  pub to_high : x.to ≤ signal_limit

abbrev in_range : Arc → Bool
in_range x = nat_le x.atom atom_limit && (is_signal x.from && is_signal x.to)

pub live_arc : (p : List ℕ) (x : Arc) → atom p (counted_arc x) ≡ 1 → Live p x
live_arc p x e = ⊎_elim
    (λ (t : in_range x ≡ true).
    let c : counted_arc x ≡ x.atom = cond-true (in_range x) x.atom 0 t in
    let on : atom p x.atom ≡ 1 = subst (λ a. atom p a ≡ 1) c e in
    let a = and_parts (nat_le x.atom atom_limit) (is_signal x.from && is_signal x.to) t in
    let b = and_parts (is_signal x.from) (is_signal x.to) a.1 in
    let f = and_parts (nat_le 1 x.from) (nat_le x.from signal_limit) b.0 in
    let g = and_parts (nat_le 1 x.to) (nat_le x.to signal_limit) b.1 in
    record {
      low = atom_positive p x.atom on;
      high = leb-true _ _ a.0;
      on = on;
      from_low = leb-true _ _ f.0;
      from_high = leb-true _ _ f.1;
      to_low = leb-true _ _ g.0;
      to_high = leb-true _ _ g.1;
    })
    (λ (t : in_range x ≡ false).
    let c : counted_arc x ≡ 0 = cond-false (in_range x) x.atom 0 t in
    let off : atom p 0 ≡ 1 = subst (λ a. atom p a ≡ 1) c e in
    absurd (omega arith))
    (cases_Bool (in_range x))

pub counted_is : (p : List ℕ) (x : Arc) → atom p (counted_arc x) ≡ 1 → counted_arc x ≡ x.atom
counted_is p x e = ⊎_elim
    (λ (t : in_range x ≡ true). cond-true (in_range x) x.atom 0 t)
    (λ (t : in_range x ≡ false). let off : atom p 0 ≡ 1 = subst (λ a. atom p a ≡ 1) (cond-false (in_range x) x.atom 0 t) e in absurd (omega arith))
    (cases_Bool (in_range x))

pub counted_few : (x : Arc) → counted_arc x ≤ atom_limit
counted_few x = ⊎_elim
    (λ (t : in_range x ≡ true).
    let c = cond-true (in_range x) x.atom 0 t in
    let h = leb-true _ _ (and_parts (nat_le x.atom atom_limit) (is_signal x.from && is_signal x.to) t).0 in
    omega arith)
    (λ (t : in_range x ≡ false). let c = cond-false (in_range x) x.atom 0 t in omega arith)
    (cases_Bool (in_range x))

module _ (xs : List Arc) where
  pub edge_to : (p : List ℕ) (a b : ℕ) → Edge xs p a b → (1 ≤ b) × (b ≤ signal_limit)
  edge_to p a b e =
      let l = live_arc p (slice_index_or xs e.index no_arc) e.on in
      (subst (λ s. 1 ≤ s) e.leads l.to_low, subst (λ s. s ≤ signal_limit) e.leads l.to_high)

  pub edge_grows : (p q : List ℕ) (a b : ℕ) → Part p q → Edge xs p a b → Edge xs q a b
  edge_grows p q a b part e = record { index = e.index; within = e.within; on = atom_grows p q _ part e.on; starts = e.starts; leads = e.leads }

  pub edge_near : (p q : List ℕ) (a b : ℕ) → ((i : ℕ) → i < highest_of counted_arc xs → at p i ≡ at q i) → Edge xs p a b → Edge xs q a b
  edge_near p q a b same e = record {
    index = e.index;
    within = e.within;
    on = sym (atom_near p q _ _ same (highest_over counted_arc xs e.index no_arc e.within)) ∙ e.on;
    starts = e.starts;
    leads = e.leads;
  }

  pub chain_to : (p q : List ℕ) → ((a b : ℕ) → Edge xs p a b → Edge xs q a b) → (a b : ℕ) → Chain xs p a b → Chain xs q a b
  chain_to p q to a b (last e) = last (to a b e)
  chain_to p q to a c (link {b = b} e ch) = link (to a b e) (chain_to p q to b c ch)

  pub closed_to : (p q : List ℕ) → ((a b : ℕ) → Edge xs p a b → Edge xs q a b) → Closed xs p → Closed xs q
  closed_to p q to c = record { signal = c.signal; chain = chain_to p q to c.signal c.signal c.chain }

  pub chain_grows : (p q : List ℕ) (a b : ℕ) → Part p q → Chain xs p a b → Chain xs q a b
  chain_grows p q a b part ch = chain_to p q (λ c d. edge_grows p q c d part) a b ch

  pub chain_join : (p : List ℕ) (a b c : ℕ) → Chain xs p a b → Chain xs p b c → Chain xs p a c
  chain_join p a b c (last e) ch = link e ch
  chain_join p a b c (link {b = d} e rest) ch = link e (chain_join p d b c rest ch)
