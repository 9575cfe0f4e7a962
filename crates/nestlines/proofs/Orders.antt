-- The order of the contents. Assumes nothing.
use Rattle.std.proofs.Common.{◌≡◌, ◌<◌, true, cond, not, ◌&&◌, List, [], ◌∷◌, length, ℤ, pos, negsuc, refl, arith}
use lib.Signed.{lt_z}
use Rattle.nestformat.specs.Reading.{over_atoms}
use Rattle.nestformat.specs.declared.kinds.BodyKind.{BodyKind}
use Rattle.nestformat.specs.declared.kinds.BodyKind.TheVariants.{Nest, Below}
use Rattle.nestformat.specs.declared.kinds.Contents.{Contents}
use Rattle.nestformat.specs.Kinds.{same_kind}
use Rattle.nestformat.specs.Due.{listed, in_order}

pub in_order_some : (k : BodyKind) (es : List Contents) → 0 < length es → in_order k es ≡ (not (listed k es) && cond (same_kind k Below) (listed Nest es) true)
in_order_some k [] h = absurd (omega arith)
in_order_some k (e ∷ es) h = refl

pub over_is : (z : ℤ) → lt_z (pos 200) z ≡ over_atoms z
over_is (pos n) = refl
over_is (negsuc n) = refl
