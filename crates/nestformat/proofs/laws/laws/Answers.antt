use Rattle.nestformat.proofs.LawsStand.{accepts, reads_problems, refuses, reads_back, written_alike, whole_problems, accepts_lines, earliest_first, contents_causes, row_causes, no_other_cause, told_apart}
use Rattle.nestformat.proofs.laws.laws.Goals as goal

pub returns : goal.returns
returns c = record {
  accepts = accepts;
  nothing_else = reads_problems;
  refuses = refuses;
  told_apart = told_apart;
  reads_back = reads_back;
  written_alike = written_alike;
  whole_problems = whole_problems;
  accepts_lines = accepts_lines;
  earliest_first = earliest_first;
  contents_causes = contents_causes;
  row_causes = row_causes;
  no_other_cause = no_other_cause;
}
