-- The text of a whole problem, part by part. Assumes nothing.
use Rattle.std.proofs.Common.{◌≡◌, ℕ, suc, List, [], ◌∷◌, ◌++◌, map, length, pos, Option, Some, None, is_some, IfSome, MatchOption, Bor, decimal, codes, sym, refl, ap, ap₂, subst, ◌∙◌, append_assoc}
use Rattle.std.specs.List.{flat_map}
use Rattle.std.specs.Fmt.{signed_decimal}
use Rattle.std.proofs.lemmas.List.Concat.{flat_map-append}
use Rattle.tables.specs.Items.{entries}
use Rattle.lexer.specs.Lines.{spaced}
use Rattle.nestformat.specs.declared.kinds.BodyKind.{BodyKind}
use Rattle.nestformat.specs.declared.kinds.Contents.{Contents}
use Rattle.nestformat.specs.Items.{Item, heading_line, contents_line, body_line, row_line, item_line, Body, contents_of, body_items, items_of}
use Rattle.nestformat.specs.Bodies.{rows_at}
use Rattle.nestformat.specs.Due.{listed}
use Rattle.nestformat.specs.Reading.{written}
use Rattle.nestformat.proofs.Bodies.{no_rows}
use Rattle.nestfile.specs.declared.Parts.{Parts}
use Rattle.nestfile.specs.declared.Problem.{Problem as Held}
use Rattle.nestfile.specs.declared.NestBody.{NestBody}
use Rattle.nestfile.specs.Bodies.{rows_of, nest_rows, body_of}
use Rattle.nestfile.specs.Problems.{told}
use Rattle.nestfile.proofs.Listing.{contents_back, rows_told}
use Rattle.writing.specs.Texts.{joined, ended, row_tokens}
use Rattle.writing.proofs.Joining.{joined_twice}
use Rattle.nestwrite.specs.Texts.{line_text, contents_text, row_text, rows_text, entry_text}
use Rattle.nestwrite.proofs.Many.{text_mapped}

-- the numbers of a map are written as its atoms are
pub map_tokens : (xs : List ℕ) → map decimal xs ≡ map signed_decimal (map pos xs)
map_tokens [] = refl
map_tokens (x ∷ xs) = ap (λ ts. decimal x ∷ ts) (map_tokens xs)

pub map_row : (xs : List ℕ) → ended (row_tokens decimal xs) ≡ row_text (map pos xs)
map_row xs = ap (λ ts. ended (ts ++ codes "0" ∷ [])) (map_tokens xs)

pub written_is : (its : List Item) → written its ≡ flat_map line_text its
written_is [] = refl
written_is (it ∷ its) = ap (λ t. spaced (item_line it) ++ 10 ∷ t) (written_is its) ∙ sym (append_assoc (spaced (item_line it)) (10 ∷ []) (flat_map line_text its))

length_contents : (p : Parts) (es : List Contents) → length (contents_of (map (body_of p) es)) ≡ length (map (body_of p) es)
length_contents p [] = refl
length_contents p (e ∷ es) = ap suc (length_contents p es)

bodies_text : (h : Held) (es : List Contents) → flat_map line_text (flat_map (body_items h.parts.map) (map (body_of h.parts) es)) ≡ flat_map (entry_text h) es
bodies_text h [] = refl
bodies_text h (e ∷ es) =
    flat_map-append line_text (body_items h.parts.map (body_of h.parts e)) (flat_map (body_items h.parts.map) (map (body_of h.parts) es))
    ∙ ap₂ (λ a b. a ++ b) (ap (λ t. line_text (body_line e.kind h.parts.map) ++ t) (text_mapped line_text row_line (rows_of h.parts e.kind) ∙ ap rows_text (sym (rows_told h.parts e.kind h.bare)))) (bodies_text h es)

-- the heading, the contents and the bodies are the whole
module _ (h : Held) (cs : List Contents) (is : cs ≡ contents_of (map (body_of h.parts) (entries h.parts.contents))) where
  pub parts_are : line_text (heading_line (record { map = h.parts.map; bodies = length cs })) ++ (flat_map contents_text cs ++ flat_map (entry_text h) cs) ≡ written (items_of (told h))
  parts_are =
      let bs = map (body_of h.parts) (entries h.parts.contents) in
      let count : length cs ≡ length bs = ap length is ∙ length_contents h.parts (entries h.parts.contents) in
      let head = ap (λ (n : ℕ). line_text (heading_line (record { map = h.parts.map; bodies = n }))) count in
      let contents = ap (flat_map contents_text) is ∙ sym (text_mapped line_text contents_line (contents_of bs)) in
      let bodies = ap (flat_map (entry_text h)) (is ∙ contents_back h.parts (entries h.parts.contents)) ∙ sym (bodies_text h (entries h.parts.contents)) in
      ap₂ (λ a b. a ++ b) head (ap₂ (λ a b. a ++ b) contents bodies ∙ sym (flat_map-append line_text (map contents_line (contents_of bs)) (flat_map (body_items h.parts.map) bs)))
      ∙ sym (written_is (items_of (told h)))

-- three parts, one after the other
pub three_put : (o a b c x y z : List ℕ) → a ≡ joined o x → b ≡ joined a y → c ≡ joined b z → c ≡ joined o (x ++ (y ++ z))
three_put o a b c x y z h k l =
    l ∙ ap (λ w. joined w z) (k ∙ ap (λ w. joined w y) h) ∙ joined_twice (joined o x) y z ∙ joined_twice o x (y ++ z)

pub two_put : (o a b x y : List ℕ) → a ≡ joined o x → b ≡ joined a y → b ≡ joined o (x ++ y)
two_put o a b x y h k = k ∙ ap (λ w. joined w y) h ∙ joined_twice o x y

-- the rows of a nest that is lent, if it is there
pub lent_put : (a new : List ℕ) (r : Option (Bor NestBody)) (k : BodyKind) (bs : List Body) → joined a [] ≡ a → is_some r ≡ listed k (contents_of bs) → IfSome r (λ b. nest_rows (Some b.now) ≡ rows_at k bs) → MatchOption r (new ≡ a) (λ b. new ≡ joined a (rows_text (nest_rows (Some b.now)))) → new ≡ joined a (rows_text (rows_at k bs))
lent_put a new None k bs n s v h = h ∙ sym n ∙ ap (λ rs. joined a (rows_text rs)) (sym (no_rows k bs (sym s)))
lent_put a new (Some b) k bs n s v h = h ∙ ap (λ rs. joined a (rows_text rs)) v

pub nest_put : (a new : List ℕ) (r : Option (Bor NestBody)) (b : Bor NestBody) → r ≡ Some b → new ≡ joined a (rows_text (nest_rows (Some b.now))) → MatchOption r (new ≡ a) (λ q. new ≡ joined a (rows_text (nest_rows (Some q.now))))
nest_put a new r b e h = subst (λ s. MatchOption s (new ≡ a) (λ q. new ≡ joined a (rows_text (nest_rows (Some q.now))))) (sym e) h
