use Rattle.std.proofs.Common.{◌+◌, ◌≤◌, length}
use Rattle.lexer.specs.Scans.{after, whole, line_number}
use Rattle.nestformat.specs.Limits.{text_limit}
use Rattle.nestfile.specs.Drafts.{state_of, items_in, Sound}
use Rattle.nestfile.proofs.Turns.{Turn}
use Rattle.nestfile.proofs.reading.read_lines.Given as goal

abbrev pub invariant-loop-reader : goal.invariant-loop-reader
invariant-loop-reader l = record {
  turn : Turn (state_of l.fn.draft) (line_number l.fn.reader + 1) (after l.fn.reader) (items_in l.fn.draft) (state_of l.draft) (line_number l.reader + 1) (after l.reader) (items_in l.draft);
  short : length (whole l.reader) ≤ text_limit;
  sound : Sound l.draft;
}

abbrev pub decreases-loop-reader : goal.decreases-loop-reader
decreases-loop-reader l = length (after l.reader)
