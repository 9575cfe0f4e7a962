-- What a whole reading comes to. Assumes nothing.
use Rattle.std.proofs.Common.{◌≡◌, ℕ, ◌+◌, ◌≤◌, true, List, [], length, Ok, Err, Result, refl, sym, ap, ap₂, subst, ◌∙◌}
use Rattle.std.proofs.lemmas.Bool.{cond-false, le-ltb}
use Rattle.refusals.specs.declared.Fault.{Fault}
use Rattle.lexer.specs.Lines.{lines}
use Rattle.nestformat.specs.declared.kinds.BodyKind.TheVariants.{Outer}
use Rattle.nestformat.specs.declared.kinds.Contents.{Contents}
use Rattle.nestformat.specs.Limits.{text_limit}
use Rattle.nestformat.specs.Items.{Item, Problem, items_of}
use Rattle.nestformat.specs.Due.{State, start}
use Rattle.nestformat.specs.Reading.{reading, reading_from, whole, finished}
use Rattle.nestformat.specs.Laws.{Accepted, Faulty}
use Rattle.nestformat.proofs.LawsStand.{whole_of, accepts, refuses}
use Rattle.nestformat.proofs.Determined.{same_problem}
use Rattle.nestfile.specs.declared.Problem.{Problem as Held}
use Rattle.nestfile.specs.declared.drafts.Draft.{Draft}
use Rattle.nestfile.specs.Bodies.{problem_of, bare, sized}
use Rattle.nestfile.specs.Problems.{told, empty_problem}
use Rattle.nestfile.specs.Drafts.{state_of, items_in, Sound, Answered}
use Rattle.nestfile.specs.Read.{ReadAs, IsRead, SpeltIsRead}
use Rattle.nestfile.proofs.Endings.{is_whole, bare_whole, sized_whole}

-- the lines of a text that is short enough are read from the first on
begins : (t : List ℕ) (s : State) (n : ℕ) (ls : List (List ℕ)) → length t ≤ text_limit → s ≡ start → n ≡ 0 → ls ≡ lines t → reading t ≡ reading_from s (n + 1) ls
begins t s n ls h a b c =
    cond-false _ _ _ (le-ltb text_limit (length t) h)
    ∙ sym (ap₂ (λ x y. reading_from x (y + 1) ls) a b ∙ ap (reading_from start 1) c)

answered_err : (q : Result (List Item) Fault) (f : Fault) (its jts : List Item) → Answered q {T = Unit {0}} (Err f) its jts → ReadAs q (Err f)
answered_err (Ok more) f its jts h = absurd h
answered_err (Err g) f its jts h = h

pub read_err : (t : List ℕ) (s : State) (n : ℕ) (ls : List (List ℕ)) (f : Fault) (its jts : List Item) → length t ≤ text_limit → s ≡ start → n ≡ 0 → ls ≡ lines t → Answered (reading_from s (n + 1) ls) {T = Unit {0}} (Err f) its jts → ReadAs (reading t) (Err f)
read_err t s n ls f its jts h a b c d = subst (λ q. ReadAs q (Err f)) (sym (begins t s n ls h a b c)) (answered_err (reading_from s (n + 1) ls) f its jts d)

-- what was read, where it was
answered_ok : {T : Type 0} (q : Result (List Item) Fault) (x : T) (jts : List Item) → Answered q (Ok x) [] jts → q ≡ Ok jts
answered_ok (Ok more) x jts h = ap Ok (sym h)
answered_ok (Err g) x jts h = absurd h

nothing : Contents
nothing = record { kind = Outer; size = 0; own = 0; rows = 0 }

pub read_ok : {T : Type 0} (x : T) (t : List ℕ) (s : State) (n : ℕ) (ls : List (List ℕ)) (its : List Item) (d : Draft) → length t ≤ text_limit → s ≡ start → n ≡ 0 → ls ≡ lines t → its ≡ [] → Answered (reading_from s (n + 1) ls) (Ok x) its (items_in d) → finished (state_of d).todo ≡ true → Sound d → reading t ≡ Ok (items_of (problem_of d.parts))
read_ok x t s n ls its d h a b c e r f g =
    begins t s n ls h a b c
    ∙ answered_ok (reading_from s (n + 1) ls) x (items_in d) (subst (λ i. Answered (reading_from s (n + 1) ls) (Ok x) i (items_in d)) e r)
    ∙ ap Ok (is_whole d.parts d.opened d.phase nothing g.phase f)

pub bare_read : (d : Draft) → finished (state_of d).todo ≡ true → Sound d → bare d.parts ≡ true
bare_read d f g = bare_whole d.parts d.opened d.phase nothing g.phase f g.bare

pub sized_read : (d : Draft) → finished (state_of d).todo ≡ true → Sound d → sized d.parts ≡ true
sized_read d f g = sized_whole d.parts d.opened d.phase nothing g.phase f g.sized

pub whole_read : (t : List ℕ) (its : List Item) → reading t ≡ Ok its → whole start its ≡ true
whole_read t its h = whole_of t its h

pub read_as : (t : List ℕ) (p : Held) → reading t ≡ Ok (items_of (told p)) → ReadAs (reading t) (Ok p)
read_as t p h = subst (λ q. ReadAs q (Ok p)) (sym h) refl

-- the words of the laws

found : (q : Result (List Item) Fault) (p : Held) → ReadAs q (Ok p) → q ≡ Ok (items_of (told p))
found (Ok its) p h = ap Ok (sym h)
found (Err f) p h = absurd h

fault : (q : Result (List Item) Fault) (f : Fault) → ReadAs q (Err f) → q ≡ Err f
fault (Ok its) f h = absurd h
fault (Err g) f h = ap Err (sym h)

pub is_read : (q : Result (List Item) Fault) (p : Held) → ReadAs q (Ok p) → IsRead q {T = Unit {0}} (Ok tt) (told p)
is_read (Ok its) p h = h
is_read (Err f) p h = absurd h

pub is_refused : (q : Result (List Item) Fault) (f : Fault) (p : Held) → ReadAs q (Err f) → told p ≡ empty_problem → IsRead q {T = Unit {0}} (Err f) (told p)
is_refused (Ok its) f p h e = absurd h
is_refused (Err g) f p h e = (h, e)

pub accepted : (t : List ℕ) (p : Held) → ReadAs (reading t) (Ok p) → Accepted t (told p)
accepted t p h = (accepts t (told p)).0 (found (reading t) p h)

pub faulty : (t : List ℕ) (f : Fault) → ReadAs (reading t) (Err f) → Faulty t f
faulty t f h = (refuses t f).0 (fault (reading t) f h)

-- two readings of a text are the same
one_reading : (q : Result (List Item) Fault) (its jts : List Item) → q ≡ Ok its → q ≡ Ok jts → its ≡ jts
one_reading q its jts h k = let e : Ok its ≡ Ok jts = sym h ∙ k in cc

pub spelt_ok : {T : Type 0} (x : T) (t : List ℕ) (p : Held) → ReadAs (reading t) (Ok p) → SpeltIsRead t (Ok x) (told p)
spelt_ok x t p h q a = (refl, same_problem q (told p) (one_reading (reading t) (items_of q) (items_of (told p)) ((accepts t q).1 a) (found (reading t) p h)))

pub spelt_err : (T : Type 0) (t : List ℕ) (f : Fault) (p : Problem) → ReadAs (reading t) (Err f) → SpeltIsRead t {T = T} (Err f) p
spelt_err T t f p h q a = let e : Ok (items_of q) ≡ Err f = sym ((accepts t q).1 a) ∙ fault (reading t) f h in cc
