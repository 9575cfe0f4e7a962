-- When a session's table stands for a ledger, and what a call owes then. Assumes nothing.
use Rattle.std.specs.Prelude.{◌≡◌, ℕ, zero, suc, ◌<◌, true, List, [], ◌∷◌, length, take, ℤ, Some, None, Ok, Err, Option, Result, slice_index_or}
use Rattle.std.specs.Borrow.{Bor}
use Rattle.refusals.specs.declared.Refusal.{Refusal}
use Rattle.assignments.specs.Assignments.{Complete}
use Rattle.assignments.specs.Limits.{atom_limit}
use Rattle.clauses.specs.declared.stretch.Counts.{Counts}
use Rattle.clauses.specs.Books.{atoms_of, clauses_of}
use Rattle.clauses.specs.Adding.{is_front}
use Rattle.vetoes.specs.Meaning.{Meaning}
use Rattle.search.specs.declared.find.Finding.{Finding}
use Rattle.search.specs.declared.find.Finding.TheVariants.{Found, Nothing}
use Rattle.ledgers.specs.Ledger.{Position, before_first, reached, past_end, Ledger, Call, Answer, accepted, handed_out, no_more, chosen, clash, refused, advance}
use Rattle.ledgers.specs.Admitted.{Beyond, LeastOf}
use Rattle.ledgers.specs.Right.{Right}
use Rattle.session.specs.declared.table.Place.{Place}
use Rattle.session.specs.declared.table.Place.TheVariants.{BeforeFirst, Reached, PastEnd}
use Rattle.session.specs.declared.table.Step.{Step}
use Rattle.session.specs.declared.table.Step.TheVariants.{Handed, NoMore}
use Rattle.session.specs.declared.table.Wish.{Wish}
use Rattle.session.specs.declared.table.Wish.TheVariants.{Chosen, Clash}
use Rattle.session.specs.declared.table.SessionTable.{SessionTable}

abbrev pub no_counts : Counts
no_counts = record { clauses = 0; literals = 0 }

-- how many clauses were held at the opening of the first k scopes, the last first
abbrev pub openings : List Counts → ℕ → List ℕ
openings s zero = []
openings s (suc k) = (slice_index_or s k no_counts).clauses ∷ openings s k

-- each scope's counts are those of a front of what the scope opened after it, or now, has
abbrev pub Nested : List (List ℤ) → List Counts → ℕ → Type 0
Nested held s zero = Unit {0}
Nested held s (suc k) = (is_front held (slice_index_or s k no_counts).clauses (slice_index_or s k no_counts).literals ≡ true) × Nested (take (slice_index_or s k no_counts).clauses held) s k

-- the first n bytes of what was reached
abbrev pub place_of : ℕ → Place (List ℕ) → Position
place_of n BeforeFirst = before_first
place_of n (Reached p) = reached (take n p)
place_of n PastEnd = past_end

-- what was reached stands in a slice
abbrev pub lent : Place (Bor (List ℕ)) → Position
lent BeforeFirst = before_first
lent (Reached p) = reached p.now
lent PastEnd = past_end

abbrev pub position_of : SessionTable → Position
position_of t = place_of (atoms_of t.book) t.place

-- what is stored of a position is complete
abbrev pub Stored : ℕ → Position → Type 0
Stored n before_first = Unit {0}
Stored n (reached p) = Complete n p
Stored n past_end = Unit {0}

-- what has P, with n bytes, and lies beyond the position
pub record Ahead (P : List ℕ → Type 0) (n : ℕ) (pos : Position) (q : List ℕ) : Type 0 where
  pub complete : Complete n q
  pub has : P q
  pub beyond : Beyond pos q

-- q is the least with W, or there is none. No session has so many atoms that it is refused
abbrev pub Sought : (List ℕ → Type 0) → List ℕ → Result Finding Refusal → Type 0
Sought W q (Ok Found) = LeastOf W q
Sought W q (Ok Nothing) = (r : List ℕ) → W r → ⊥
Sought W q (Err e) = atom_limit < length q

-- the ledger of an unsized session
pub record Unsized (l : Ledger) : Type 0 where
  pub size : l.size ≡ None
  pub held : l.held ≡ []
  pub scopes : l.scopes ≡ []
  pub position : l.position ≡ before_first

pub record Sized (t : SessionTable) (l : Ledger) : Type 0 where
  pub size : l.size ≡ Some (atoms_of t.book)
  pub held : l.held ≡ clauses_of t.book
  pub scopes : l.scopes ≡ openings t.scopes t.opened
  pub nested : Nested (clauses_of t.book) t.scopes t.opened
  pub position : l.position ≡ position_of t
  pub stored : Stored (atoms_of t.book) (position_of t)

abbrev pub Stands : Option SessionTable → Ledger → Type 0
Stands None l = Unsized l
Stands (Some t) l = Sized t l

-- whatever ledger the session stands for: the answer is right, and afterwards it stands for the advanced ledger
pub record Keeps (m : Meaning) (o o' : Option SessionTable) (c : Call) (a : Answer) : Type 0 where
  pub step : (l : Ledger) → Stands o l → Right m l c a × Stands o' (advance l c a)

-- the answer of a call that hands nothing out
abbrev pub done : {A : Type 0} → Result A Refusal → List (List ℕ) → Answer
done (Ok x) bs = accepted
done (Err e) bs = refused e bs

abbrev pub next_answer : Result Step Refusal → List ℕ → Answer
next_answer (Ok Handed) out = handed_out out
next_answer (Ok NoMore) out = no_more out
next_answer (Err e) out = refused e (out ∷ [])

abbrev pub ask_answer : Result Wish Refusal → (out ticks : List ℕ) → Answer
ask_answer (Ok Chosen) out ticks = chosen out ticks
ask_answer (Ok Clash) out ticks = clash out ticks
ask_answer (Err e) out ticks = refused e (out ∷ ticks ∷ [])
