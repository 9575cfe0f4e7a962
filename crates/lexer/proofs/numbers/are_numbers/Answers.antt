use Rattle.std.proofs.Common.{◌≡◌, ◌-◌, true, false, take, drop, is_some, sym, ap, ◌∙◌, rules}
use Rattle.lexer.specs.Numbers.{is_number}
use Rattle.lexer.proofs.Scanning.{is_number_some, numbers_end, numbers_more}
use Rattle.lexer.proofs.numbers.are_numbers.Goals as goal

pub returns-then-start-end : goal.returns-then-start-end
returns-then-start-end c = numbers_end c.args.line.now c.loop-at.at c.skip_spaces-start.result c.until-end.result c.skip_spaces-start.ensures.value c.until-end.ensures.value c.if-start-end.true ∙ c.loop-at.invariant.1

pub returns-then-is_none : goal.returns-then-is_none
returns-then-is_none c =
    let t = take (c.until-end.result - c.skip_spaces-start.result) (drop c.skip_spaces-start.result c.args.line.now) in
    let n : is_some c.number.result ≡ false = search rules in
    let no : is_number t ≡ false = sym (is_number_some t) ∙ ap is_some (sym c.number.ensures) ∙ n in
    sym (numbers_more c.args.line.now c.loop-at.at c.skip_spaces-start.result c.until-end.result c.skip_spaces-start.ensures.value c.until-end.ensures.value c.if-start-end.false false no) ∙ c.loop-at.invariant.1

pub loop-at-preserved : goal.loop-at-preserved
loop-at-preserved c =
    let t = take (c.until-end.result - c.skip_spaces-start.result) (drop c.skip_spaces-start.result c.args.line.now) in
    let n : is_some c.number.result ≡ true = search rules in
    let yes' : is_number t ≡ true = sym (is_number_some t) ∙ ap is_some (sym c.number.ensures) ∙ n in
    (search rules, sym (numbers_more c.args.line.now c.loop-at.at c.skip_spaces-start.result c.until-end.result c.skip_spaces-start.ensures.value c.until-end.ensures.value c.if-start-end.false true yes') ∙ c.loop-at.invariant.1)
