use Rattle.std.proofs.Common.{◌≡◌, ◌≤◌, Ok, length, arith}
use Rattle.lexer.specs.Scans.{after, line_number}
use Rattle.nestformat.specs.Limits.{text_limit}
use Rattle.nestformat.specs.Items.{items_of}
use Rattle.nestformat.specs.Reading.{reading}
use Rattle.nestfile.specs.Bodies.{problem_of}
use Rattle.nestfile.specs.Drafts.{state_of, items_in}
use Rattle.nestfile.proofs.Outcomes.{read_ok, whole_read, bare_read, sized_read, read_as}
use Rattle.nestfile.proofs.reading.problem_of.Goals as goal

pub invariant_of-result : goal.invariant_of-result
invariant_of-result c =
    let d = c.read_lines.new.draft in
    let t = c.args.text.now in
    let short : length t ≤ text_limit = omega arith in
    let read = c.in_ok-read_lines.ensures in
    let is : reading t ≡ Ok (items_of (problem_of d.parts)) = read_ok tt t (state_of c.new-draft.result) (line_number c.new-reader.result) (after c.new-reader.result) (items_in c.new-draft.result) d short c.new-draft.ensures.state c.new-reader.ensures.line c.new-reader.ensures.after c.new-draft.ensures.items read.answered read.done.0 read.done.1 in
    record { whole = whole_read t (items_of (problem_of d.parts)) is; bare = bare_read d read.done.0 read.done.1; sized = sized_read d read.done.0 read.done.1 }

pub returns : goal.returns
returns c =
    let d = c.read_lines.new.draft in
    let t = c.args.text.now in
    let short : length t ≤ text_limit = omega arith in
    let read = c.in_ok-read_lines.ensures in
    let is : reading t ≡ Ok (items_of (problem_of d.parts)) = read_ok tt t (state_of c.new-draft.result) (line_number c.new-reader.result) (after c.new-reader.result) (items_in c.new-draft.result) d short c.new-draft.ensures.state c.new-reader.ensures.line c.new-reader.ensures.after c.new-draft.ensures.items read.answered read.done.0 read.done.1 in
    read_as t _ is
