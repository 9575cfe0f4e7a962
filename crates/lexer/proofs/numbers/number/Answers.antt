use Rattle.std.proofs.Common.{◌∙◌}
use Rattle.lexer.proofs.Magnitudes.{minus_none}
use Rattle.lexer.proofs.numbers.number.Goals as goal

pub returns-in_err-size : goal.returns-in_err-size
returns-in_err-size c =
    let s = c.in-Some.ensures.cases in
    c.from_residual-in_err-size.ensures ∙ minus_none c.args.token.now c.in-Some.digits.now s.0 s.1 c.in_err-size.ensures
