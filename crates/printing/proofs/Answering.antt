-- What is printed of a text that is read. Assumes nothing.
use Rattle.std.proofs.Common.{◌≡◌, List, Ok, Err, Option, Result, sym, refl, subst}
use Rattle.refusals.specs.declared.Fault.{Fault}
use Rattle.vetoes.specs.Meaning.{Meaning}
use Rattle.session.specs.declared.table.SessionTable.{SessionTable}
use Rattle.nestformat.specs.Items.{Item, Problem}
use Rattle.nestfile.specs.Read.{IsRead}
use Rattle.listing.specs.declared.progress.Progress.{Progress}
use Rattle.listing.specs.Lines.{Said}
use Rattle.listing.specs.Standing.{Lists}
use Rattle.finder.specs.Listed.{file_lines}
use Rattle.printing.specs.declared.Printed.TheVariants.{Listing}
use Rattle.printing.specs.Texts.{lines_text, Prints}

pub lists_by : (m n : Meaning) (o : Option SessionTable) (p : Progress) (ls : List Said) → m ≡ n → Lists n o p ls → Lists m o p ls
lists_by m n o p ls e = subst (λ x. Lists x o p ls) (sym e)

pub prints_listing : {T : Type 0} (r : Result (List Item) Fault) (x : T) (p : Problem) → IsRead r {T = T} (Ok x) p → Prints r Listing (lines_text (file_lines p))
prints_listing (Ok its) x p h = (refl, (p, h, refl))
prints_listing (Err f) x p h = absurd h
