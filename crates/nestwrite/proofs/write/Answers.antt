use Rattle.std.proofs.Common.{◌≡◌, [], ap, subst, ◌∙◌}
use Rattle.nestformat.specs.Items.{items_of}
use Rattle.nestformat.specs.Reading.{written}
use Rattle.nestformat.proofs.Lengths.{whole_is_short}
use Rattle.nestfile.specs.Problems.{told}
use Rattle.writing.specs.Texts.{joined, Copied}
use Rattle.writing.specs.Buffers.{held}
use Rattle.writing.proofs.Joining.{joined_whole}
use Rattle.nestwrite.proofs.ReadBack.{is_back, is_alike}
use Rattle.nestwrite.proofs.write.Goals as goal

pub returns-clause-copied : goal.returns-clause-copied
returns-clause-copied c =
    let its = items_of (told c.args.problem.now) in
    let t : held c.put_problem.new.out ≡ written its = c.put_problem.ensures ∙ ap (λ o. joined o (written its)) c.new-out.ensures ∙ joined_whole [] (written its) (whole_is_short its c.args.problem.now.whole) in
    subst (λ w. Copied w c.args.buffer.now c.copy_to.new.buffer c.copy_to.result) t c.copy_to.ensures

pub returns-clause-short : goal.returns-clause-short
returns-clause-short c = whole_is_short (items_of (told c.args.problem.now)) c.args.problem.now.whole

pub returns-clause-read_back : goal.returns-clause-read_back
returns-clause-read_back c = is_back (items_of (told c.args.problem.now)) c.args.problem.now.whole

pub returns-clause-alike : goal.returns-clause-alike
returns-clause-alike c = is_alike (told c.args.problem.now) c.args.problem.now.whole
