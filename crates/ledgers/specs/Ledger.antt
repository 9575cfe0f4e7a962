-- The ledger of a session. It follows the calls from a fresh session on, by their arguments and answers alone. Assumes nothing.
use Rattle.std.specs.Prelude.{ℕ, List, [], ◌∷◌, ◌++◌, length, take, ℤ, Some, None, Option}
use Rattle.refusals.specs.declared.Refusal.{Refusal}

pub data Position : Type 0 where
  before_first : Position
  reached : List ℕ → Position
  past_end : Position

pub record Ledger : Type 0 where
  -- the number of atoms, or none where the session is unsized
  pub size : Option ℕ
  pub held : List (List ℤ)
  -- how many clauses were held at each open scope's opening, the last scope first
  pub scopes : List ℕ
  pub position : Position
  -- what next handed out since the last rewind, in the order it came
  pub handed : List (List ℕ)

-- a call with its arguments; of a buffer, what it held before the call
pub data Call : Type 0 where
  size : ℕ → Call
  clause : List ℤ → Call
  open_scope : Call
  close_scope : Call
  rewind : Call
  next : (out : List ℕ) → Call
  ask : (assumed : List ℤ) (out ticks : List ℕ) → Call

-- what came back, with the buffers after the call
pub data Answer : Type 0 where
  accepted : Answer
  handed_out : (out : List ℕ) → Answer
  no_more : (out : List ℕ) → Answer
  chosen : (out ticks : List ℕ) → Answer
  clash : (out ticks : List ℕ) → Answer
  refused : (why : Refusal) (buffers : List (List ℕ)) → Answer

pub record Event : Type 0 where
  pub call : Call
  pub answer : Answer

abbrev pub fresh : Ledger
fresh = record { size = None; held = []; scopes = []; position = before_first; handed = [] }

-- the first n bytes, of a sized session
abbrev pub front : Option ℕ → List ℕ → List ℕ
front None out = []
front (Some n) out = take n out

abbrev pub rewound : Ledger → Ledger
rewound l = record { size = l.size; held = l.held; scopes = l.scopes; position = before_first; handed = [] }

abbrev pub moved : Ledger → List ℕ → Ledger
moved l q = record { size = l.size; held = l.held; scopes = l.scopes; position = reached q; handed = l.handed ++ (q ∷ []) }

abbrev pub finished : Ledger → Ledger
finished l = record { size = l.size; held = l.held; scopes = l.scopes; position = past_end; handed = l.handed }

abbrev pub holding : Ledger → List ℤ → Ledger
holding l c = record { size = l.size; held = l.held ++ (c ∷ []); scopes = l.scopes; position = l.position; handed = l.handed }

abbrev pub closed : Ledger → List ℕ → Ledger
closed l [] = l
closed l (k ∷ ks) = record { size = l.size; held = take k l.held; scopes = ks; position = before_first; handed = [] }

-- after a call that answers nothing but that it was accepted
abbrev pub after : Ledger → Call → Ledger
after l (size n) = record { size = Some n; held = []; scopes = []; position = before_first; handed = [] }
after l (clause c) = holding l c
after l open_scope = record { size = l.size; held = l.held; scopes = length l.held ∷ l.scopes; position = l.position; handed = l.handed }
after l close_scope = closed l l.scopes
after l rewind = rewound l
after l (next b) = l
after l (ask a b t) = l

abbrev pub advance : Ledger → Call → Answer → Ledger
advance l c accepted = after l c
advance l c (handed_out out) = moved l (front l.size out)
advance l c (no_more out) = finished l
advance l c (chosen out t) = l
advance l c (clash out t) = l
advance l c (refused e bs) = l

-- the ledger after the events so far, the newest first
abbrev pub ledger : List Event → Ledger
ledger [] = fresh
ledger (e ∷ h) = advance (ledger h) e.call e.answer
