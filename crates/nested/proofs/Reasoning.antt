-- A nest still speaks at the part of an assignment that its reason marks. Assumes nothing.
use Rattle.std.proofs.Common.{◌≡◌, ℕ, ◌<◌, ◌≤◌, true, List, [], ◌++◌, length, get_or, take, pos, sym, refl, ◌∙◌, arith}
use Rattle.std.specs.List.{list_all}
use Rattle.std.proofs.lemmas.List.{length-map}
use Rattle.std.proofs.lemmas.List.Recursion.{and_at, and_from_places}
use Rattle.std.proofs.lemmas.Bool.{ltb-true, leb-true, and_parts}
use Rattle.assignments.specs.Assignments.{at, atom}
use Rattle.assignments.specs.Limits.{atom_limit}
use Rattle.assignments.specs.Literals.{met, all_met}
use Rattle.vetoes.specs.Meaning.{Meaning, Lawful}
use Rattle.vetoes.specs.Verdicts.{ticked}
use Rattle.propagation.specs.Literals.{place}
use Rattle.propagation.proofs.ClauseSteps.{all_has, met_at}
use Rattle.nested.specs.Nests.{Plan, is_atom, seen, is_known, stalls}
use Rattle.nested.specs.NestLaws.{at_seen, front_known, stalls_has}
use Rattle.nested.specs.Completing.{Completed, IsMarked, Explains}
use Rattle.nested.proofs.Searching.{own_part, like, stalls_by}
use Rattle.nested.proofs.Marking.{marked_stays, true_same}

pub mapped_few : (m : List ℕ) (i : ℕ) → list_all is_atom m ≡ true → i < length m → get_or m i 0 ≤ atom_limit
mapped_few m i e h = leb-true _ _ (and_parts _ _ (and_at (list_all is_atom) is_atom refl (λ _ _. refl) m i 0 h e)).1

pub mapped_positive : (m : List ℕ) (i : ℕ) → list_all is_atom m ≡ true → i < length m → 1 ≤ get_or m i 0
mapped_positive m i e h = let z : 0 < get_or m i 0 = ltb-true _ _ (and_parts _ _ (and_at (list_all is_atom) is_atom refl (λ _ _. refl) m i 0 h e)).0 in omega arith

module _ (f : Plan) (b : Meaning) (laws : Lawful b) (mapped : list_all is_atom f.map ≡ true) (p q t : List ℕ) (made : Completed f b (seen f.map p) q) (why : Explains p f.map q f.clauses b.reach t) where
  -- a seen value stays where its host atom is marked
  stays : (i : ℕ) → i < length f.map → IsMarked p (get_or f.map i 0) t → at (seen f.map (ticked p t)) i ≡ at (seen f.map p) i
  stays i h m = at_seen f.map (ticked p t) i h ∙ marked_stays p t (get_or f.map i 0) (mapped_few f.map i mapped h) m ∙ sym (at_seen f.map p i h)

  same : (i : ℕ) → i < length f.map → IsMarked p (get_or f.map i 0) t → at (seen f.map (ticked p t)) i ≡ at q i
  same i h m = stays i h m ∙ sym (made.front i (let l = length-map f.map (atom p) in omega arith))

  met_each : (k : ℕ) → k < length f.clauses → met (seen f.map (ticked p t) ++ own_part f q) (get_or f.clauses k []) ≡ true
  met_each k h =
      let c = get_or f.clauses k [] in
      let r = seen f.map (ticked p t) ++ own_part f q in
      let w = why.each k h (all_has q f.clauses k h made.meets) in
      let l = get_or c w.held.spot (pos 0) in
      let e : at r w.place ≡ at q w.place = like f b laws p q made (seen f.map (ticked p t)) (length-map f.map (atom (ticked p t))) w.place (λ v. same w.place v (w.behind v)) in
      let e' : at r (place l) ≡ at q (place l) = rw w.held.here e in
      met_at 0 r c w.held.spot w.held.within (true_same q r l e' w.held.holds)

  pub reason_stalls : list_all is_known (take b.reach (seen f.map p)) ≡ true → stalls f b (ticked p t) ≡ true
  reason_stalls front = stalls_has f b (ticked p t) (stalls_by f b laws p q made (ticked p t)
      (λ i h w. let e = stays i w (why.front i h w) in let l = length-map f.map (atom p) in let k = front_known b.reach (seen f.map p) front i h (omega arith) in omega arith)
      (λ i h w. same i w (why.front i h w))
      (and_from_places (all_met (seen f.map (ticked p t) ++ own_part f q)) (met (seen f.map (ticked p t) ++ own_part f q)) refl (λ _ _. refl) f.clauses [] met_each))
