-- Calls on a session with the one answer that is right for each, and reasons without a spare tick. Assumes nothing.
use Rattle.std.specs.Prelude.{◌≡◌, ℕ, false, List, [], ◌∷◌, ◌++◌, length, map, replicate, ℤ, Ok, slice_index, slice_set}
use Rattle.vetoes.specs.declared.veto.Verdict.TheVariants.{Speaks}
use Rattle.vetoes.specs.Meaning.{Meaning}
use Rattle.vetoes.specs.Verdicts.{Examined, Ticks, ticked, Reason}
use Rattle.ledgers.specs.Ledger.{Ledger, Call, size, clause, next, ask, Answer, accepted, handed_out, no_more, clash, Event, fresh, advance}
use Rattle.ledgers.specs.Right.{Right}

-- the answer is right at the ledger, and no other is
pub record OnlyRight (m : Meaning) (l : Ledger) (c : Call) (a : Answer) : Type 0 where
  pub right : Right m l c a
  pub only : (b : Answer) → Right m l c b → b ≡ a

-- from the ledger l on each call has its answer, and no other is right
abbrev pub PlaysFrom : Meaning → Ledger → List Event → Type 0
PlaysFrom m l [] = Unit {0}
PlaysFrom m l (e ∷ es) = OnlyRight m l e.call e.answer × PlaysFrom m (advance l e.call e.answer) es

-- on a fresh session over a veto of the meaning m each call has its answer, and no other is right
abbrev pub Plays : Meaning → List Event → Type 0
Plays m es = PlaysFrom m fresh es

-- a buffer of n bytes
abbrev pub blank : ℕ → List ℕ
blank n = replicate n 2

abbrev pub sized : ℕ → Event
sized n = record { call = size n; answer = accepted }

abbrev pub takes : List ℤ → Event
takes c = record { call = clause c; answer = accepted }

abbrev pub gives : List ℕ → Event
gives q = record { call = next (blank (length q)); answer = handed_out q }

abbrev pub ends : ℕ → Event
ends n = record { call = next (blank n); answer = no_more (blank n) }

-- n atoms and these assumptions: none includes them all, and the ticked ones are the core
abbrev pub clashes : ℕ → List ℤ → List ℕ → Event
clashes n assumed ticks = record { call = ask assumed (blank n) (blank (length ticks)); answer = clash (blank n) ticks }

-- a session of n atoms with the clauses cs hands out the assignments qs, in this order, and no more
abbrev pub Lists : Meaning → ℕ → (cs : List (List ℤ)) → (qs : List (List ℕ)) → Type 0
Lists m n cs qs = Plays m (sized n ∷ map takes cs ++ map gives qs ++ ends n ∷ [])

-- the ticks t are a reason at p, and without any one of them there is none
pub record NeededReason (m : Meaning) (p t : List ℕ) : Type 0 where
  pub speaks : Examined m.speaks p (blank (length p)) t (Ok Speaks)
  pub ticks : Ticks p (blank (length p)) t
  pub reason : Reason m.speaks p t (Ok Speaks)
  pub needed : (i : ℕ) → slice_index t i ≡ 1 → m.speaks (ticked p (slice_set t i 0)) ≡ false
