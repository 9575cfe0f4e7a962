use Rattle.nestformat.specs.Reading.{reading}
use Rattle.nestfile.specs.Problems.{told}
use Rattle.finder.specs.Listed.{file_lines}
use Rattle.printing.specs.Texts.{lines_text}
use Rattle.printing.proofs.Answering.{prints_listing}
use Rattle.printing.proofs.print_answer.Goals as goal

pub returns : goal.returns
returns g c =
    let p = told c.read.new.problem in
    (lines_text (file_lines p), prints_listing (reading c.args.text.now) c.in_default.field-0 p c.in_default.ensures.read, c.in_ok-print_problem.ensures)
