-- What the laws of the format say of a problem whose items are whole, and of its text. Assumes nothing.
use Rattle.std.proofs.Common.{◌≡◌, ℕ, true, List, Ok}
use Rattle.nestformat.specs.Items.{Item, Problem, items_of}
use Rattle.nestformat.specs.Due.{start}
use Rattle.nestformat.specs.Reading.{reading, whole, written}
use Rattle.nestformat.specs.Laws.{Accepted, Alike}
use Rattle.nestformat.proofs.Lengths.{whole_is_short}
use Rattle.nestformat.proofs.Round.{short_is_back}
use Rattle.nestformat.proofs.LawsStand.{accepts, written_alike}

pub is_back : (its : List Item) → whole start its ≡ true → reading (written its) ≡ Ok its
is_back its w = short_is_back its w (whole_is_short its w)

pub is_alike : (p : Problem) → whole start (items_of p) ≡ true → (t : List ℕ) → Accepted t p → Alike t (written (items_of p))
is_alike p w t a = written_alike t (written (items_of p)) (items_of p) ((accepts t p).1 a) (is_back (items_of p) w)
