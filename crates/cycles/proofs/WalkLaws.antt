-- What a step of the walk keeps. Assumes nothing.
use Rattle.std.proofs.Common.{◌≡◌, ℕ, ◌<◌, ◌≤◌, Bool, true, false, cond, not, eqb, List, length, count_by, get_or, set, replicate, sym, refl, ap, ◌∙◌, subst, ◌⊎◌, ⊎_elim, arith, get_or-set_other, set-set}
use Rattle.std.proofs.lemmas.List.{set-get_or, get_or_past}
use Rattle.std.proofs.lemmas.Grind.{elements}
use Rattle.std.proofs.lemmas.Bool.{both_ways, cases_eq, eq-eqb, eqb-true, ne_eqb, cond-true, cond-false}
use Rattle.assignments.specs.Assignments.{atom}
use Rattle.assignments.specs.Limits.{atom_limit}
use Rattle.vetoes.specs.Counted.{live}
use Rattle.vetoes.specs.Marks.{marked}
use Rattle.vetoes.specs.Verdicts.{ticked}
use Rattle.vetoes.proofs.Marking.{marked_grows, ticked_grows, ticked_atom, marked_there}
use Rattle.cycles.specs.declared.arc.Arc.{Arc}
use Rattle.cycles.specs.declared.walk.Outcome.{Outcome}
use Rattle.cycles.specs.declared.walk.Outcome.TheVariants.{Ended, Closing, Found}
use Rattle.cycles.specs.Limits.{signal_limit}
use Rattle.cycles.specs.Arcs.{counted_arc}
use Rattle.cycles.specs.Graphs.{no_arc, Edge, Chain, last, link, Closed}
use Rattle.cycles.specs.Walks.{Ends, ends, Done, Walked}
use Rattle.cycles.specs.ChainLaws.{Live, live_arc, counted_is, chain_grows, chain_join}

-- how many signals are not on the chain
abbrev pub free : List Bool → ℕ
free on = count_by not on

pub restored : (on : List Bool) (s : ℕ) → get_or on s false ≡ false → set (set on s true) s false ≡ on
restored on s e = set-set on s true false ∙ ap (set on s) (sym e) ∙ set-get_or on s false

pub none_replicate : (n s : ℕ) → get_or (replicate n false) s false ≡ false
none_replicate n s = grind (arith, elements, get_or_past)

module _ (xs : List Arc) (p : List ℕ) where
  pub one_done : (done : List Bool) (a : ℕ) → Done xs p done → Ends xs p a → Done xs p (set done a true)
  one_done done a sound here s h = ⊎_elim
      (λ (same : s ≡ a). subst (Ends xs p) (sym same) here)
      (λ other. sound s (sym (get_or-set_other done a s true false other) ∙ h))
      (cases_eq s a)

  -- every arc from a leads to a signal whose chains end
  pub all_end : (a : ℕ) → ((k : ℕ) → k < length xs → (get_or xs k no_arc).from ≡ a → atom p (counted_arc (get_or xs k no_arc)) ≡ 1 → Ends xs p (get_or xs k no_arc).to) → Ends xs p a
  all_end a each = ends (λ b e. subst (Ends xs p) e.leads (each e.index e.within e.starts e.on))

  pub no_return : (a : ℕ) → Ends xs p a → Chain xs p a a → ⊥
  no_return a (ends f) (last e) = no_return a (f a e) (last e)
  no_return a (ends f) (link {b = b} e rest) = no_return b (f b e) (chain_join xs p b a b rest (last e))

  chain_start : (a b : ℕ) → Chain xs p a b → (c : ℕ) × Edge xs p a c
  chain_start a b (last e) = (b, e)
  chain_start a c (link {b = b} e rest) = (b, e)

  edge_from : (a b : ℕ) → Edge xs p a b → (1 ≤ a) × (a ≤ signal_limit)
  edge_from a b e =
      let l = live_arc p (get_or xs e.index no_arc) e.on in
      (subst (λ s. 1 ≤ s) e.starts l.from_low, subst (λ s. s ≤ signal_limit) e.starts l.from_high)

  pub none_closed : ((s : ℕ) → 1 ≤ s → s ≤ signal_limit → Ends xs p s) → Closed xs p → ⊥
  none_closed each c =
      let first = chain_start c.signal c.signal c.chain in
      let s = edge_from c.signal first.0 first.1 in
      no_return c.signal (each c.signal s.0 s.1) c.chain

-- an arc that is found live is live at p
pub live_at : (p q : List ℕ) (x : Arc) → q ≡ p → true ≡ live counted_arc q x → atom p (counted_arc x) ≡ 1
live_at p q x same e = eqb-true _ _ (subst (λ l. live counted_arc l x ≡ true) same (sym e))

-- an arc of the list, live at p, that leads from a
module _ (xs : List Arc) (p : List ℕ) (k : ℕ) (within : k < length xs) (a : ℕ) (from : (get_or xs k no_arc).from ≡ a) (on : atom p (counted_arc (get_or xs k no_arc)) ≡ 1) where
  abbrev x : Arc
  x = get_or xs k no_arc

  pub live_here : Live p x
  live_here = live_arc p x on

  module _ (t : List ℕ) (long : length t ≡ atom_limit) where
    pub edge_marked : Edge xs (ticked p (marked p x.atom t)) a x.to
    edge_marked = record {
      index = k;
      within = within;
      on = subst (λ b. atom (ticked p (marked p x.atom t)) b ≡ 1) (sym (counted_is p x on))
          (ticked_atom p (marked p x.atom t) x.atom live_here.on (marked_there p t x.atom live_here.on live_here.high long));
      starts = from;
      leads = refl;
    }

    -- the chain goes on to s from where the arc leads
    pub chain_marked : (s : ℕ) → Chain xs (ticked p t) x.to s → Chain xs (ticked p (marked p x.atom t)) a s
    chain_marked s ch = link edge_marked (chain_grows xs (ticked p t) (ticked p (marked p x.atom t)) x.to s (ticked_grows p t (marked p x.atom t) (marked_grows p t x.atom)) ch)

-- the chain from a is closed at a, or leads further up
pub closes_here : (xs : List Arc) (p : List ℕ) (on on' done : List Bool) (t : List ℕ) (a s : ℕ) (r : Outcome) → r ≡ cond (eqb s a) Found (Closing s) → get_or (set on a true) s false ≡ true → Chain xs (ticked p t) a s → Walked xs p on on' done t a r
closes_here xs p on on' done t a s r e h ch = ⊎_elim
    (λ (same : s ≡ a).
    let f : r ≡ Found = e ∙ cond-true _ _ _ (eq-eqb s a same) in
    subst (Walked xs p on on' done t a) (sym f) (record { signal = a; chain = subst (Chain xs (ticked p t) a) same ch }))
    (λ (other : s ≡ a → ⊥).
    let f : r ≡ Closing s = e ∙ cond-false _ _ _ (ne_eqb s a other) in
    subst (Walked xs p on on' done t a) (sym f) (sym (get_or-set_other on a s true false other) ∙ h, ch))
    (cases_eq s a)

-- where no signal was on the chain that led to a, a closed chain from a is closed there
pub closed_there : (xs : List Arc) (p : List ℕ) (on on' done : List Bool) (t : List ℕ) (a : ℕ) (r : Outcome) → ((s : ℕ) → get_or on s false ≡ false) → (r ≡ Found) ⊎ ((s : ℕ) × (r ≡ Closing s)) → Walked xs p on on' done t a r → Closed xs (ticked p t)
closed_there xs p on on' done t a Ended none is w = absurd (⊎_elim (λ (e : Ended ≡ Found). (cc)) (λ (f : (s : ℕ) × (Ended ≡ Closing s)). let e = f.1 in (cc)) is)
closed_there xs p on on' done t a (Closing s) none is w = absurd (both_ways _ (none s) w.0)
closed_there xs p on on' done t a Found none is w = w
