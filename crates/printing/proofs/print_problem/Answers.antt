use Rattle.nestfile.specs.Problems.{told}
use Rattle.finder.specs.Listed.{file_lines}
use Rattle.printing.proofs.Answering.{lists_by}
use Rattle.printing.proofs.print_problem.Goals as goal

pub returns : goal.returns
returns g c =
    let ls = file_lines (told c.args.problem.now) in
    c.print_listing.ensures.bytes ls (lists_by _ _ c.listing_of-listing.result.session.table c.listing_of-listing.result.progress ls c.listing_of-listing.ensures.meaning c.listing_of-listing.ensures.lists)
