use Rattle.std.proofs.Common.{◌≡◌, true, false, ◌+◌, length, ap, rules}
use Rattle.vetoes.specs.Meaning.{either}
use Rattle.vetoes.specs.Solutions.{Solution}
use Rattle.nested.specs.Nests.{nest_means}
use Rattle.nested.specs.Plans.{plan_of}
use Rattle.nested.specs.Sets.{Projection, over_first}
use Rattle.nested.proofs.SetLaws.{excluded, excluded_not}
use Rattle.nested.proofs.sets.is_excluded.Goals as goal

pub returns-in-Speaks-clause-value : goal.returns-in-Speaks-clause-value
returns-in-Speaks-clause-value g c =
    let p = c.args.assignment.now in
    let k = c.args.own in
    let a = g.A.Veto.means c.args.left in
    let b = g.B.Veto.means c.args.right in
    let nest = c.in_ok-nest.nest in
    let means = nest_means (plan_of nest.shape) (nest_means (plan_of nest.below.shape) (either (g.A.Veto.means nest.below.below.left) (g.B.Veto.means nest.below.below.right))) in
    let left = ap g.A.Veto.means c.new.ensures.left in
    let right = ap g.B.Veto.means c.new.ensures.right in
    let shadow : Projection (length p) (Solution means (length p)) (Solution (either a b) (length p + k)) = rw (left, right) at c.in_ok-nest.ensures.leaves in
    let same : means ≡ over_first (length p) 0 (over_first (length p) k (either a b)) = rw (left, right) at c.in_ok-nest.ensures.means in
    let e : means.speaks p ≡ true = search rules in
    excluded k a b means p shadow same e

pub returns-clause-value : goal.returns-clause-value
returns-clause-value g c =
    let p = c.args.assignment.now in
    let k = c.args.own in
    let a = g.A.Veto.means c.args.left in
    let b = g.B.Veto.means c.args.right in
    let nest = c.in_ok-nest.nest in
    let means = nest_means (plan_of nest.shape) (nest_means (plan_of nest.below.shape) (either (g.A.Veto.means nest.below.below.left) (g.B.Veto.means nest.below.below.right))) in
    let shadow : Projection (length p) (Solution means (length p)) (Solution (either a b) (length p + k)) =
    rw (ap g.A.Veto.means c.new.ensures.left, ap g.B.Veto.means c.new.ensures.right) at c.in_ok-nest.ensures.leaves in
    let e : means.speaks p ≡ false = search rules in
    excluded_not k a b means p shadow e
