-- The line that is due, in the words of the format, and with which byte a line of each sort begins. Assumes nothing.
use Rattle.std.specs.Prelude.{ℕ, Bool, not, ◌||◌, Some}
use Rattle.nestformat.specs.Due.{Slot, heading_due, contents_due, body_due, map_due, row_due, end_due}
use Rattle.nestformat.specs.Reading.{begins_with, begins_row, skipped}
use Rattle.nestlines.specs.declared.due.Due.{Due}
use Rattle.nestlines.specs.declared.due.Due.TheVariants.{Heading as HeadingDue, Contents as ContentsDue, Body as BodyDue, Map as MapDue, Row as RowDue, End as EndDue}
use Rattle.nestlines.specs.declared.due.Sort.{Sort}
use Rattle.nestlines.specs.declared.due.Sort.TheVariants.{Comment, Heading, Contents, Body, Row, Other}

abbrev pub slot_of : Due → Slot
slot_of HeadingDue = heading_due
slot_of ContentsDue = contents_due
slot_of (BodyDue e) = body_due e
slot_of (MapDue e) = map_due e
slot_of (RowDue e) = row_due e
slot_of EndDue = end_due

abbrev pub begins : Sort → ℕ → Bool
begins Comment b = skipped (Some b)
begins Heading b = begins_with 112 (Some b)
begins Contents b = begins_with 116 (Some b)
begins Body b = begins_with 98 (Some b)
begins Row b = begins_row (Some b)
begins Other b = not (skipped (Some b) || (begins_with 112 (Some b) || (begins_with 116 (Some b) || (begins_with 98 (Some b) || begins_row (Some b)))))
