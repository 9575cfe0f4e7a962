-- What a draft stands for: what is due, and the items that were read. Assumes nothing.
use Rattle.std.specs.Prelude.{◌≡◌, ℕ, ◌+◌, ◌-◌, ◌≤◌, ◌<◌, Bool, true, false, List, [], ◌∷◌, ◌++◌, map, flat_map, length, take, drop, replicate, ℤ, Ok, Err, Some, None, Option, Result, slice_index_or}
use Rattle.tables.specs.Items.{entries}
use Rattle.refusals.specs.declared.Fault.{Fault}
use Rattle.nestformat.specs.declared.faults.LineFault.{LineFault}
use Rattle.nestformat.specs.declared.kinds.BodyKind.{BodyKind}
use Rattle.nestformat.specs.declared.kinds.Contents.{Contents}
use Rattle.nestformat.specs.Limits.{body_limit}
use Rattle.nestformat.specs.Kinds.{letter_of, same_kind, has_map, atoms_in, in_ranges}
use Rattle.nestformat.specs.Items.{Item, heading_line, contents_line, body_items}
use Rattle.nestformat.specs.Due.{Slot, heading_due, contents_due, map_due, row_due, State, advance, bodies_due, listed, atoms_at}
use Rattle.nestformat.specs.Reading.{fault_at}
use Rattle.nestfile.specs.declared.Parts.{Parts}
use Rattle.nestfile.specs.declared.drafts.Draft.{Draft}
use Rattle.nestfile.specs.declared.drafts.Phase.{Phase}
use Rattle.nestfile.specs.declared.drafts.Phase.TheVariants.{Heading, Contents as InContents, Bodies, Map, Rows}
use Rattle.nestfile.specs.Bodies.{rows_of, clauses_in, body_of, book_atoms, IsBegun, IsReady}

-- the lines to come, after these contents
abbrev pub slots : Phase → List Contents → List Slot
slots Heading es = heading_due ∷ []
slots (InContents left) es = replicate left contents_due
slots (Bodies next) es = bodies_due (drop next es)
slots (Map e next) es = map_due e ∷ (replicate (e.rows - 1) (row_due e) ++ bodies_due (drop next es))
slots (Rows e left next) es = replicate left (row_due e) ++ bodies_due (drop next es)

-- the phase after one of so many lines of the contents
abbrev pub EntriesLeft : ℕ → Phase → Type 0
EntriesLeft left (InContents n) = (n + 1 ≡ left) × (1 ≤ n)
EntriesLeft left (Bodies n) = (left ≡ 1) × (n ≡ 0)
EntriesLeft left _ = ⊥

-- the phase with so many rows of e to come
abbrev pub RowsLeft : Contents → ℕ → ℕ → Phase → Type 0
RowsLeft e left next (Bodies n) = (left ≡ 0) × (n ≡ next)
RowsLeft e left next (Rows f l n) = (f ≡ e) × (l ≡ left) × (n ≡ next) × (1 ≤ left)
RowsLeft e left next _ = ⊥

abbrev pub letter_opened : Option BodyKind → ℕ
letter_opened None = 45
letter_opened (Some k) = letter_of k

abbrev pub clauses_opened : Parts → Option BodyKind → List (List ℤ)
clauses_opened p None = []
clauses_opened p (Some k) = clauses_in p k

abbrev pub state_with : Parts → Phase → Option BodyKind → State
state_with p x o = record { todo = slots x (entries p.contents); map = p.map; contents = entries p.contents; letter = letter_opened o; clauses = clauses_opened p o }

abbrev pub state_of : Draft → State
state_of d = state_with d.parts d.phase d.opened

-- the items of the first n bodies
abbrev pub bodies_items : Parts → List Contents → List Item
bodies_items p es = flat_map (λ e. body_items p.map (body_of p e)) es

abbrev pub items_to : Parts → ℕ → List Item
items_to p n = heading_line (record { map = p.map; bodies = length (entries p.contents) }) ∷ (map contents_line (entries p.contents) ++ bodies_items p (take n (entries p.contents)))

abbrev pub items_with : Parts → Phase → List Item
items_with p Heading = []
items_with p (InContents left) = heading_line (record { map = p.map; bodies = length (entries p.contents) + left }) ∷ map contents_line (entries p.contents)
items_with p (Bodies n) = items_to p n
items_with p (Map e n) = items_to p n
items_with p (Rows e l n) = items_to p n

abbrev pub items_in : Draft → List Item
items_in d = items_with d.parts d.phase

-- each entry is in its ranges, and no kind stands twice
abbrev pub Good : List Contents → Type 0
Good es = (i : ℕ) (d : Contents) → i < length es → (in_ranges (slice_index_or es i d) ≡ true) × (listed (slice_index_or es i d).kind (take i es) ≡ false)

-- e is the last of the first n entries
pub record Here (es : List Contents) (n : ℕ) (e : Contents) : Type 0 where
  pub before : List Contents
  pub same : take n es ≡ before ++ e ∷ []
  pub apart : listed e.kind before ≡ false
  pub ranged : in_ranges e ≡ true
  pub within : n ≤ length es

pub record MapSound (p : Parts) (o : Option BodyKind) (e : Contents) (n : ℕ) : Type 0 where
  pub here : Here (entries p.contents) n e
  pub mapped : has_map e.kind ≡ true
  pub begun : IsBegun e.kind (atoms_in e) p
  pub opened : o ≡ Some e.kind

pub record RowsSound (p : Parts) (o : Option BodyKind) (e : Contents) (left n : ℕ) : Type 0 where
  pub here : Here (entries p.contents) n e
  pub some : 1 ≤ left
  pub count : length (rows_of p e.kind) + left ≡ e.rows
  pub ready : IsReady e.kind (atoms_in e) p
  pub opened : o ≡ Some e.kind

abbrev pub PhaseSound : Parts → Option BodyKind → Phase → Type 0
PhaseSound p o Heading = (entries p.contents ≡ []) × (o ≡ None)
PhaseSound p o (InContents left) = (1 ≤ left) × (length (entries p.contents) + left ≤ body_limit) × (o ≡ None)
PhaseSound p o (Bodies n) = n ≤ length (entries p.contents)
PhaseSound p o (Map e n) = MapSound p o e n
PhaseSound p o (Rows e left n) = RowsSound p o e left n

-- the entries whose bodies were opened
abbrev pub opened_in : Phase → List Contents → List Contents
opened_in (Bodies n) es = take n es
opened_in (Map e n) es = take n es
opened_in (Rows e left n) es = take n es
opened_in _ es = []

-- no other body has rows
abbrev pub Bare : Parts → Phase → Type 0
Bare p x = (k : BodyKind) → listed k (opened_in x (entries p.contents)) ≡ false → rows_of p k ≡ []

-- the map of the nest of that kind is due
abbrev pub lacks_map : Phase → BodyKind → Bool
lacks_map (Map e n) k = same_kind k e.kind
lacks_map _ k = false

-- the book of a body that was opened is over its atoms, any other over none; nothing is said of a nest whose map is due
abbrev pub Sized : Parts → Phase → Type 0
Sized p x = (k : BodyKind) → lacks_map x k ≡ false → book_atoms p k ≡ atoms_at k (opened_in x (entries p.contents))

pub record Sound (d : Draft) : Type 0 where
  pub good : Good (entries d.parts.contents)
  pub phase : PhaseSound d.parts d.opened d.phase
  pub bare : Bare d.parts d.phase
  pub sized : Sized d.parts d.phase

-- the n-th line was judged, and answered: the item is taken, or the fault is told with its place
abbrev pub LineTaken : Result Item LineFault → ℕ → {T : Type 0} → Result T Fault → Draft → Draft → Type 0
LineTaken (Ok it) n (Ok x) old new = (state_of new ≡ advance (state_of old) it) × (items_in new ≡ items_in old ++ it ∷ []) × Sound new
LineTaken (Ok it) n (Err g) old new = ⊥
LineTaken (Err f) n (Ok x) old new = ⊥
LineTaken (Err f) n (Err g) old new = g ≡ fault_at (state_of old) n f

-- all lines were read, and answered
abbrev pub Answered : Result (List Item) Fault → {T : Type 0} → Result T Fault → List Item → List Item → Type 0
Answered (Ok more) (Ok x) its jts = jts ≡ its ++ more
Answered (Ok more) (Err f) its jts = ⊥
Answered (Err f) (Ok x) its jts = ⊥
Answered (Err f) (Err g) its jts = g ≡ f
