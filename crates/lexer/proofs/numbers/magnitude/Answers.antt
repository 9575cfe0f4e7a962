use Rattle.std.proofs.Common.{◌≡◌, length, get_or, Some, sym, ap, ◌∙◌, subst, arith, true-eqb, false-eqb}
use Rattle.std.specs.Str.Parse.{digits_value, AllDigits}
use Rattle.std.proofs.lemmas.List.{take_all}
use Rattle.lexer.proofs.Magnitudes.{none_empty, none_long, none_padded, not_padded, none_outside, some_magnitude, digit_none, digit_some, value_step, value_bound}
use Rattle.lexer.proofs.numbers.magnitude.Goals as goal
use Rattle.lexer.proofs.numbers.magnitude.Goals.{then-is_empty-via-then-is_empty, then-is_empty-via-else-is_empty+then-digits-gt-DIGIT_LIMIT}

pub returns-then-is_empty : goal.returns-then-is_empty
returns-then-is_empty c =
    elim c.then-is_empty.branch [
      | then-is_empty-via-then-is_empty w ↦ none_empty c.args.digits.now (true-eqb _ 0 w.if-is_empty.ensures)
      | then-is_empty-via-else-is_empty+then-digits-gt-DIGIT_LIMIT w ↦ none_long c.args.digits.now w.if-digits-gt-DIGIT_LIMIT.true
    ]

pub returns-then-is_padded : goal.returns-then-is_padded
returns-then-is_padded c = none_padded c.args.digits.now (sym c.if-is_padded.ensures)

pub overflow_mul-sum : goal.overflow_mul-sum
overflow_mul-sum c = let b = value_bound c.args.digits.now c.loop-byte.byte-index c.if-digits-gt-DIGIT_LIMIT.false c.loop-byte.invariant.0 in omega arith

pub returns-in_err-digit : goal.returns-in_err-digit
returns-in_err-digit c = c.from_residual.ensures ∙ none_outside c.args.digits.now c.loop-byte.byte-index c.loop-byte-test.true (digit_none _ (sym c.in_err-digit.ensures))

pub overflow_add-sum : goal.overflow_add-sum
overflow_add-sum c =
    let b = value_bound c.args.digits.now c.loop-byte.byte-index c.if-digits-gt-DIGIT_LIMIT.false c.loop-byte.invariant.0 in
    let d = digit_some (get_or c.args.digits.now c.loop-byte.byte-index 0) c.in_ok-digit.field-0 (sym c.in_ok-digit.ensures) in
    omega (arith, d.high, d.is)

pub loop-byte-preserved : goal.loop-byte-preserved
loop-byte-preserved c =
    let s = value_step c.args.digits.now c.loop-byte.byte-index c.in_ok-digit.field-0 c.loop-byte.sum c.loop-byte-test.true (sym c.in_ok-digit.ensures) c.loop-byte.invariant in
    (s.0, omega (arith, s.1, c.from.ensures))

pub returns-else-sum-gt-NUMBER_LIMIT : goal.returns-else-sum-gt-NUMBER_LIMIT
returns-else-sum-gt-NUMBER_LIMIT c =
    let ds = c.args.digits.now in
    let all = take_all c.loop-byte.byte-index ds c.loop-byte-test.false in
    let is : c.loop-byte.sum ≡ digits_value 10 ds = c.loop-byte.invariant.1 ∙ ap (digits_value 10) all in
    let some : (length ds ≡ 0 → ⊥) = false-eqb _ 0 c.if-is_empty.ensures in
    ap Some is
    ∙ some_magnitude ds (subst (AllDigits 10) all c.loop-byte.invariant.0) (omega arith)
    (not_padded ds (sym c.if-is_padded.ensures) (omega arith))
    (omega arith)
