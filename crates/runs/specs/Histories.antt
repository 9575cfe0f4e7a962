-- The events of played turns: what was called, and what came back, in every buffer. Assumes nothing.
use Rattle.std.specs.Prelude.{ℕ, zero, suc, List, [], ◌∷◌, Ok, Err, vec_items, Result, slice_index_or}
use Rattle.refusals.specs.declared.Refusal.{Refusal}
use Rattle.ledgers.specs.Ledger.{Call as Called, size, clause, open_scope, close_scope, rewind, next, ask, Answer, accepted, handed_out, no_more, chosen, clash, refused, Event}
use Rattle.ledgers.specs.Right.{buffers}
use Rattle.session.specs.declared.table.Step.{Step}
use Rattle.session.specs.declared.table.Wish.{Wish}
use Rattle.runs.specs.declared.turn.Call.{Call}
use Rattle.runs.specs.declared.turn.Call.TheVariants.{Size, Clause, Open, Close, Rewind, Next, Ask}
use Rattle.runs.specs.declared.turn.Done.{Done}
use Rattle.runs.specs.declared.turn.Done.TheVariants.{Accepted, Handed, NoMore, Chosen, Clash}
use Rattle.runs.specs.declared.turn.Turn.{Turn}

-- the call with its arguments and what its buffers hold
abbrev pub called : Call → Called
called (Size n) = size n
called (Clause c) = clause (vec_items c)
called Open = open_scope
called Close = close_scope
called Rewind = rewind
called (Next out) = next (vec_items out)
called (Ask a out ticks) = ask (vec_items a) (vec_items out) (vec_items ticks)

-- the call with its arguments, and nothing of its buffers
abbrev pub asked : Call → Called
asked (Size n) = size n
asked (Clause c) = clause (vec_items c)
asked Open = open_scope
asked Close = close_scope
asked Rewind = rewind
asked (Next out) = next []
asked (Ask a out ticks) = ask (vec_items a) [] []

-- what the buffer of this index holds, of those that the call has
abbrev pub buffer : Call → ℕ → List ℕ
buffer c i = slice_index_or (buffers (called c)) i []

-- the answer that a reply is, with what the buffers of the call c hold after it
abbrev pub answer : Result Done Refusal → Call → Answer
answer (Ok Accepted) c = accepted
answer (Ok Handed) c = handed_out (buffer c 0)
answer (Ok NoMore) c = no_more (buffer c 0)
answer (Ok Chosen) c = chosen (buffer c 0) (buffer c 1)
answer (Ok Clash) c = clash (buffer c 0) (buffer c 1)
answer (Err e) c = refused e (buffers (called c))

-- what a call that answers so did
abbrev pub step_done : Step → Done
step_done Step.Handed = Handed
step_done Step.NoMore = NoMore

abbrev pub wish_done : Wish → Done
wish_done Wish.Chosen = Chosen
wish_done Wish.Clash = Clash

-- a turn as it was before it was played, and as it is after
abbrev pub event : Turn → Turn → Event
event before after = record { call = called before.call; answer = answer after.reply after.call }

-- what stands past the end of a list of turns
abbrev pub no_turn : Turn
no_turn = record { call = Rewind; reply = Ok Accepted }

-- the events of the first k turns, the newest first
abbrev pub history : ℕ → (before after : List Turn) → List Event
history zero before after = []
history (suc k) before after = event (slice_index_or before k no_turn) (slice_index_or after k no_turn) ∷ history k before after
