use Rattle.std.proofs.Common.{sym, ◌∙◌}
use Rattle.nestfile.proofs.Listing.{contents_back}
use Rattle.nestfile.proofs.Problem.contents.Goals as goal

pub returns : goal.returns
returns c = c.as_slice.ensures ∙ sym (contents_back c.args.self.now.parts _)
