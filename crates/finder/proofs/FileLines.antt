-- The listing of a problem's session has the problem's lines. Assumes nothing.
use Rattle.std.proofs.Common.{◌≡◌, ℕ, Some, None, Option, subst}
use Rattle.refusals.specs.declared.Refusal.{Refusal}
use Rattle.vetoes.specs.Meaning.{Meaning}
use Rattle.ledgers.specs.Ledger.{rewind}
use Rattle.ledgers.specs.Right.{due}
use Rattle.session.specs.declared.table.SessionTable.{SessionTable}
use Rattle.nestformat.specs.Items.{Problem}
use Rattle.listing.specs.declared.progress.Progress.{Progress}
use Rattle.listing.specs.Lines.{all_lines, lines_of}
use Rattle.listing.specs.Settings.{settings}
use Rattle.listing.specs.Standing.{Lists}
use Rattle.finder.specs.Bodies.{atoms_of, clauses_of}
use Rattle.finder.specs.Meanings.{file_means}
use Rattle.finder.specs.Sessions.{file_ledger}
use Rattle.finder.specs.Listed.{file_lines}

-- a sized session rewinds
pub rewinds : (p : Problem) (m : Meaning) (e : Refusal) → Some e ≡ due m (file_ledger p) rewind → ⊥
rewinds p m e w = let x : Some e ≡ None = w in absurd (cc)

pub listed : (p : Problem) (m : Meaning) (k : ℕ) (t : Option SessionTable) (g : Progress) → m ≡ file_means p → k ≡ p.map → Lists m t g (lines_of m k (file_ledger p)) → Lists (file_means p) t g (file_lines p)
listed p m k t g e q w =
    let here : Lists m t g (all_lines p.map (atoms_of p) (settings m (atoms_of p) (clauses_of p))) = subst (λ (j : ℕ). Lists m t g (all_lines j (atoms_of p) (settings m (atoms_of p) (clauses_of p)))) q w in
    subst (λ (x : Meaning). Lists x t g (all_lines p.map (atoms_of p) (settings x (atoms_of p) (clauses_of p)))) e here
