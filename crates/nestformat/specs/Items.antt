-- What the lines of a nest file say, how they are written, and which lines a problem has. Assumes nothing.
use Rattle.std.specs.Prelude.{ℕ, List, [], ◌∷◌, ◌++◌, map, flat_map, length, ℤ, codes, decimal}
use Rattle.std.specs.Fmt.{signed_decimal}
use Rattle.nestformat.specs.declared.kinds.BodyKind.{BodyKind}
use Rattle.nestformat.specs.declared.kinds.Contents.{Contents}
use Rattle.nestformat.specs.declared.kinds.Heading.{Heading}
use Rattle.nestformat.specs.Kinds.{letter_of}

-- what a line says: the heading, a contents line, a body line with its kind and map, or a row's numbers before the closing 0
pub data Item : Type 0 where
  heading_line : Heading → Item
  contents_line : Contents → Item
  body_line : BodyKind → ℕ → Item
  row_line : List ℤ → Item

-- the tokens of the line
abbrev pub item_line : Item → List (List ℕ)
item_line (heading_line h) = codes "p" ∷ codes "nest" ∷ decimal h.map ∷ decimal h.bodies ∷ []
item_line (contents_line e) = codes "t" ∷ (letter_of e.kind ∷ []) ∷ decimal e.size ∷ decimal e.own ∷ decimal e.rows ∷ []
item_line (body_line k m) = codes "b" ∷ (letter_of k ∷ []) ∷ decimal m ∷ []
item_line (row_line zs) = map signed_decimal zs ++ codes "0" ∷ []

-- a body: its contents line, and its rows in order
pub record Body : Type 0 where
  pub contents : Contents
  pub rows : List (List ℤ)

-- a needle map, and bodies in order
pub record Problem : Type 0 where
  pub map : ℕ
  pub bodies : List Body

abbrev pub contents_of : List Body → List Contents
contents_of bs = map (λ b. b.contents) bs

abbrev pub body_items : ℕ → Body → List Item
body_items m b = body_line b.contents.kind m ∷ map row_line b.rows

-- the heading, the contents, and the bodies in the same order
abbrev pub items_of : Problem → List Item
items_of p = heading_line (record { map = p.map; bodies = length p.bodies }) ∷ (map contents_line (contents_of p.bodies) ++ flat_map (body_items p.map) p.bodies)
