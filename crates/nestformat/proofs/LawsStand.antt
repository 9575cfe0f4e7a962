-- The laws hold. Assumes nothing.
use Rattle.std.proofs.Common.{◌≡◌, ℕ, ◌<◌, ◌≤◌, true, false, List, length, None, Ok, Err, nat_lt, sym, ap, ◌∙◌, subst, inl, inr, ⊎_elim}
use Rattle.std.proofs.lemmas.Bool.{cond-true, cond-false, le-ltb, lt-ltb, ltb-true, ltb-false, cases_Bool}
use Rattle.refusals.specs.declared.Fault.{Fault}
use Rattle.refusals.specs.declared.Refusal.TheVariants.{TextTooLong, BadContents, RowRefused}
use Rattle.refusals.specs.Refusals.{outside}
use Rattle.lexer.specs.Lines.{lines}
use Rattle.nestformat.specs.Limits.{text_limit}
use Rattle.nestformat.specs.Items.{Item, Problem, items_of}
use Rattle.nestformat.specs.Due.{start}
use Rattle.nestformat.specs.Reading.{reading, reading_from, whole}
use Rattle.nestformat.specs.Refused.{Refused}
use Rattle.nestformat.specs.Problems.{RightProblem}
use Rattle.nestformat.specs.Laws.{Spelt, Accepts, ReadsProblems, Faulty, Refuses, ReadsBack, WrittenAlike, WholeProblems, AcceptsLines, EarliestFirst, ContentsCauses, RowCauses, NoOtherCause, ToldApart}
use Rattle.nestformat.proofs.Accepting.{accepted_line, spelled_line, accepted_short, short_accepted}
use Rattle.nestformat.proofs.Earliness.{earliest}
use Rattle.nestformat.proofs.Causes.{row_cause}
use Rattle.nestformat.proofs.ContentsCauses.{contents_cause, refused_without}
use Rattle.nestformat.proofs.Refusing.{read_is_refused, refused_is_read}
use Rattle.nestformat.proofs.Round.{short_is_back}
use Rattle.nestformat.proofs.Parts.{parts}
use Rattle.nestformat.proofs.Determined.{same_problem}
use Rattle.nestformat.proofs.Wholes.{right_is_whole}
use Rattle.nestformat.proofs.Lengths.{whole_is_short}

pub whole_of : (t : List ℕ) (its : List Item) → reading t ≡ Ok its → whole start its ≡ true
whole_of t its h = (accepted_short t its h).1.right

-- what is whole is a problem's
problem_of : (its : List Item) → whole start its ≡ true → (p : Problem) × RightProblem p × (its ≡ items_of p)
problem_of its w = let p = parts its w in (p.problem, p.right, p.is)

pub spelt : (t : List ℕ) (its : List Item) → reading t ≡ Ok its → Spelt t its
spelt t its h = let a = accepted_short t its h in record { short = a.0; allowed = a.1.allowed; tokened = a.1.tokened }

spelt_is_read : (t : List ℕ) (its : List Item) → whole start its ≡ true → Spelt t its → reading t ≡ Ok its
spelt_is_read t its w h = short_accepted t its h.short (record { allowed = h.allowed; tokened = h.tokened; right = w })

-- the items of a problem are whole just where it is right
pub right_of : (p : Problem) → whole start (items_of p) ≡ true → RightProblem p
right_of p w = let q = parts (items_of p) w in subst RightProblem (sym (same_problem p q.problem q.is)) q.right

pub accepts : Accepts
accepts t p = (
  λ h. record { right = right_of p (whole_of t (items_of p) h); spelt = spelt t (items_of p) h },
  λ h. spelt_is_read t (items_of p) (right_is_whole p h.right) h.spelt,
)

pub whole_problems : WholeProblems
whole_problems its = (problem_of its, λ h. subst (λ x. whole start x ≡ true) (sym h.2) (right_is_whole h.0 h.1))

pub reads_problems : ReadsProblems
reads_problems t its h = problem_of its (whole_of t its h)

pub written_alike : WrittenAlike
written_alike t u its h k = (spelt t its h).tokened ∙ sym (spelt u its k).tokened

pub reads_back : ReadsBack
reads_back p h =
    let w = right_is_whole p h in
    let short = whole_is_short (items_of p) w in
    (short, short_is_back (items_of p) w short)

short_reading : (t : List ℕ) → length t ≤ text_limit → reading t ≡ reading_from start 1 (lines t)
short_reading t s = cond-false _ _ _ (le-ltb 60000 (length t) s)

long_reading : (t : List ℕ) → text_limit < length t → reading t ≡ Err (outside TextTooLong)
long_reading t s = cond-true _ _ _ (lt-ltb 60000 (length t) s)

faulty : (t : List ℕ) (f : Fault) → reading t ≡ Err f → Faulty t f
faulty t f h = ⊎_elim
    (λ (long : nat_lt text_limit (length t) ≡ true).
    let l : text_limit < length t = ltb-true 60000 (length t) long in
    let e = sym (long_reading t l) ∙ h in
    inl (l, cc))
    (λ (short : nat_lt text_limit (length t) ≡ false).
    let s : length t ≤ text_limit = ltb-false 60000 (length t) short in
    inr (s, read_is_refused start 1 (lines t) f (sym (short_reading t s) ∙ h)))
    (cases_Bool (nat_lt text_limit (length t)))

faulty_is_read : (t : List ℕ) (f : Fault) → Faulty t f → reading t ≡ Err f
faulty_is_read t f h = ⊎_elim
    (λ (l : (text_limit < length t) × (f ≡ outside TextTooLong)). long_reading t l.0 ∙ ap Err (sym l.1))
    (λ (s : (length t ≤ text_limit) × Refused start 1 (lines t) f). short_reading t s.0 ∙ refused_is_read start 1 (lines t) f s.1)
    h

pub refuses : Refuses
refuses t f = (faulty t f, faulty_is_read t f)

pub accepts_lines : AcceptsLines
accepts_lines s l it = (
  λ h. let a = accepted_line s l it h in (a.allowed, record { tokened = a.tokened; fitting = a.fitting }),
  λ h. spelled_line s l it (record { allowed = h.0; tokened = h.1.tokened; fitting = h.1.fitting }),
)

pub earliest_first : EarliestFirst
earliest_first = earliest

pub row_causes : RowCauses
row_causes = row_cause

pub contents_causes : ContentsCauses
contents_causes = contents_cause

without : (t : List ℕ) (f : Fault) → (f.refusal ≡ BadContents → ⊥) → (f.refusal ≡ RowRefused → ⊥) → Faulty t f → f.cause ≡ None
without t f h r = ⊎_elim
    (λ (l : (text_limit < length t) × (f ≡ outside TextTooLong)). ap (λ d. d.cause) l.1)
    (λ (s : (length t ≤ text_limit) × Refused start 1 (lines t) f). refused_without start 1 (lines t) f h r s.1)

pub no_other_cause : NoOtherCause
no_other_cause t f e h r = without t f h r (faulty t f e)

pub told_apart : ToldApart
told_apart = same_problem
