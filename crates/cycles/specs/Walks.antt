-- What the walk through the arcs finds. Assumes nothing.
use Rattle.std.specs.Prelude.{◌≡◌, ℕ, Bool, true, false, List, slice_index_or}
use Rattle.std.specs.Coded.{Π_prop, →_prop}
use Rattle.std.proofs.Math.Path.{ap, fun_ext}
use Rattle.vetoes.specs.Verdicts.{ticked}
use Rattle.cycles.specs.declared.arc.Arc.{Arc}
use Rattle.cycles.specs.declared.walk.Outcome.{Outcome}
use Rattle.cycles.specs.declared.walk.Outcome.TheVariants.{Ended, Closing, Found}
use Rattle.cycles.specs.Graphs.{Edge, Chain, Closed}

-- every chain from a comes to an end
pub data Ends (xs : List Arc) (p : List ℕ) : ℕ → Type 0 where
  ends : {a : ℕ} → ((b : ℕ) → Edge xs p a b → Ends xs p b) → Ends xs p a

-- the signals that are marked as done lead to no closed chain
abbrev pub Done : List Arc → List ℕ → List Bool → Type 0
Done xs p done = (s : ℕ) → slice_index_or done s false ≡ true → Ends xs p s

-- a proof that every chain ends says nothing more than that, and so may be kept in a field
pub Ends-prop : (xs : List Arc) (p : List ℕ) (a : ℕ) → IsProp (Ends xs p a)
Ends-prop xs p a (ends f) (ends g) = ap ends (fun_ext (λ b. fun_ext (λ e. Ends-prop xs p b (f b e) (g b e))))

pub Done-prop : (xs : List Arc) (p : List ℕ) (done : List Bool) → IsProp (Done xs p done)
Done-prop xs p done = Π_prop (λ s. →_prop (Ends-prop xs p s))

-- what a walk from a says: `on` are the signals on the chain that led to a, t are the marked atoms; where the walk ends, the
-- signals on the chain are as before
abbrev pub Walked : List Arc → List ℕ → (on on' done : List Bool) → List ℕ → ℕ → Outcome → Type 0
Walked xs p on on' done t a Ended = Ends xs p a × (on' ≡ on) × Done xs p done
Walked xs p on on' done t a (Closing s) = (slice_index_or on s false ≡ true) × Chain xs (ticked p t) a s
Walked xs p on on' done t a Found = Closed xs (ticked p t)
