use Rattle.std.proofs.Common.{◌∙◌}
use Rattle.vetoes.specs.Meaning.{silent}
use Rattle.nestfile.specs.Problems.{told}
use Rattle.finder.specs.Sessions.{file_ledger}
use Rattle.finder.proofs.FileLines.{rewinds, listed}
use Rattle.finder.proofs.lines.listing_of.Goals as goal

pub unreachable-requires : goal.unreachable-requires
unreachable-requires c =
    let p = told c.args.problem.now in
    rewinds p silent _ (c.in-Err.ensures.refused (file_ledger p) c.session_of.ensures.stands)

pub returns-clause-meaning : goal.returns-clause-meaning
returns-clause-meaning c = c.in-Ok.ensures.meaning ∙ c.session_of.ensures.meaning

pub returns-clause-lists : goal.returns-clause-lists
returns-clause-lists c =
    let p = told c.args.problem.now in
    listed p _ c.map.result _ _ c.session_of.ensures.meaning c.map.ensures (c.in-Ok.ensures.lists (file_ledger p) c.session_of.ensures.stands)
