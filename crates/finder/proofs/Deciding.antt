-- The file's meaning decides where a body vetoes. Assumes nothing.
use Rattle.std.proofs.Common.{◌≡◌, ℕ, Bool, false, List, map, Option, Some, None, sym, refl, subst}
use Rattle.std.specs.Bool.{Decides}
use Rattle.std.proofs.lemmas.Bool.{both_ways}
use Rattle.std.proofs.lemmas.Bool.Decides.{Decides-or}
use Rattle.vetoes.specs.Meaning.{Meaning}
use Rattle.cycles.specs.Warshall.{cyclic_decides}
use Rattle.loads.specs.Kinds.{sum, more, union, wider}
use Rattle.loads.specs.Rows.{load_means}
use Rattle.nested.specs.Nests.{nest_means}
use Rattle.nested.specs.NestLaws.{stalls_is, stalls_has}
use Rattle.nestformat.specs.declared.kinds.BodyKind.TheVariants.{Nest, Loop, Milliamperes, Lines}
use Rattle.nestformat.specs.Items.{Body, Problem}
use Rattle.nestformat.specs.Bodies.{body_at, rows_at}
use Rattle.finder.specs.Meanings.{plan_with, plan_in, below_means, nests_mean, arc_in, loop_means, loads_in, milliamperes, lowest_lines, milliamperes_mean, lines_mean, file_means}
use Rattle.finder.specs.Vetoed.{NestVetoes, LoadVetoes, Vetoed}

nest_decides : (o : Option Body) (b : Meaning) (q : List ℕ) → Decides ((nest_means (plan_in o) b).speaks q) (NestVetoes o b q)
nest_decides None b q = (λ h. both_ways false refl h, λ h. absurd h)
nest_decides (Some x) b q = (stalls_is (plan_with x.contents.own x.rows) b q, stalls_has (plan_with x.contents.own x.rows) b q)

load_decides : (join : ℕ → ℕ → ℕ) (over : ℕ → ℕ → Bool) (limit : ℕ → ℕ) (o : Option Body) (q : List ℕ) → Decides ((load_means 0 join over (loads_in limit o)).speaks q) (LoadVetoes join over limit o q)
load_decides join over limit None q = (λ h. both_ways false refl h, λ h. absurd h)
load_decides join over limit (Some x) q = (λ h. h, λ h. h)

pub file_decides : (p : Problem) (q : List ℕ) → Decides ((file_means p).speaks q) (Vetoed p q)
file_decides p q =
    Decides-or ((nests_mean p).speaks q) _ (nest_decides (body_at Nest p.bodies) (below_means p) q)
    (Decides-or ((loop_means p).speaks q) _ (cyclic_decides (map arc_in (rows_at Loop p.bodies)) q)
    (Decides-or ((milliamperes_mean p).speaks q) ((lines_mean p).speaks q)
    (load_decides sum more milliamperes (body_at Milliamperes p.bodies) q)
    (load_decides union wider lowest_lines (body_at Lines p.bodies) q)))

pub meaning_decides : (p : Problem) (m : Meaning) → m ≡ file_means p → (q : List ℕ) → Decides (m.speaks q) (Vetoed p q)
meaning_decides p m e q = subst (λ x. Decides (x.speaks q) (Vetoed p q)) (sym e) (file_decides p q)
