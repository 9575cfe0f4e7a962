-- Bodies that the contents do not name. Assumes nothing.
use Rattle.std.proofs.Common.{◌≡◌, false, List, [], ◌∷◌, None, refl, ap, ◌∙◌}
use Rattle.std.proofs.lemmas.Bool.{cond-false, or_parts}
use Rattle.nestformat.specs.declared.kinds.BodyKind.{BodyKind}
use Rattle.nestformat.specs.Kinds.{same_kind}
use Rattle.nestformat.specs.Items.{Body, contents_of}
use Rattle.nestformat.specs.Bodies.{body_at, rows_in, rows_at}
use Rattle.nestformat.specs.Due.{listed}

pub no_body : (k : BodyKind) (bs : List Body) → listed k (contents_of bs) ≡ false → body_at k bs ≡ None
no_body k [] h = refl
no_body k (b ∷ bs) h =
    let w = or_parts (same_kind k b.contents.kind) (listed k (contents_of bs)) h in
    cond-false _ _ _ w.0 ∙ no_body k bs w.1

pub no_rows : (k : BodyKind) (bs : List Body) → listed k (contents_of bs) ≡ false → rows_at k bs ≡ []
no_rows k bs h = ap rows_in (no_body k bs h)
