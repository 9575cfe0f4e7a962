use Rattle.std.proofs.Common.{◌≡◌, ◌-◌, ◌≤◌, length, drop}
use Rattle.lexer.specs.Lines.{tokens}
use Rattle.lexer.specs.Numbers.{all_numbers}
use Rattle.lexer.proofs.numbers.are_numbers.Given as goal

abbrev pub invariant-loop-at : goal.invariant-loop-at
invariant-loop-at l = (l.at ≤ length l.line) × (all_numbers (tokens (drop l.at l.line)) ≡ all_numbers (tokens l.line))

abbrev pub decreases-loop-at : goal.decreases-loop-at
decreases-loop-at l = length l.line - l.at
