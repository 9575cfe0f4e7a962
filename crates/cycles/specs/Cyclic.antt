-- Whether there is a closed chain, as a test: signals are allowed on the way one after the other. It is not unfolded, since
-- it computes for long; that it decides `Closed` is all that is used of it. Assumes nothing.
use Rattle.std.specs.Prelude.{ℕ, zero, suc, Bool, false, ◌&&◌, ◌||◌, List, [], ◌∷◌, ◌==◌}
use Rattle.vetoes.specs.Counted.{highest_of, live}
use Rattle.vetoes.specs.Meaning.{Meaning}
use Rattle.cycles.specs.declared.arc.Arc.{Arc}
use Rattle.cycles.specs.Arcs.{counted_arc}
use Rattle.cycles.specs.Limits.{signal_limit}

-- x is an arc with a true atom from a to b
abbrev pub is_edge : List ℕ → ℕ → ℕ → Arc → Bool
is_edge p a b x = live counted_arc p x && (x.from == a && x.to == b)

abbrev pub has_edge : List ℕ → ℕ → ℕ → List Arc → Bool
has_edge p a b [] = false
has_edge p a b (x ∷ xs) = is_edge p a b x || has_edge p a b xs

-- a chain leads from a to b that passes, between its ends, only signals 1 to k
unfoldable pub passes : List Arc → List ℕ → ℕ → ℕ → ℕ → Bool
passes xs p zero a b = has_edge p a b xs
passes xs p (suc k) a b = passes xs p k a b || (passes xs p k a (suc k) && passes xs p k (suc k) b)

-- one of the signals 1 to k is on a closed chain
unfoldable pub closes : List Arc → List ℕ → ℕ → Bool
closes xs p zero = false
closes xs p (suc k) = passes xs p signal_limit (suc k) (suc k) || closes xs p k

unfoldable pub cyclic : List Arc → List ℕ → Bool
cyclic xs p = closes xs p signal_limit

-- what the cycle veto over the arcs xs means
abbrev pub cycle_means : List Arc → Meaning
cycle_means xs = record { reach = highest_of counted_arc xs; speaks = cyclic xs }
