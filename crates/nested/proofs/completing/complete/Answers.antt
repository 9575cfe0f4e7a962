use Rattle.std.proofs.Common.{◌≡◌, true, false, min, length, take, sym, ◌∙◌, rules}
use Rattle.std.specs.List.{list_all}
use Rattle.tables.specs.Items.{entries}
use Rattle.clauses.specs.Books.{clauses_of}
use Rattle.search.specs.Completions.{Allowed, Least, Reasoned}
use Rattle.nested.specs.Nests.{is_known, seen}
use Rattle.nested.specs.Completing.{Begins}
use Rattle.nested.specs.Plans.{plan_in}
use Rattle.nested.proofs.Searching.{front_of, front_unknown, completed_stalls, shape_found, shape_nothing}
use Rattle.nested.proofs.completing.complete.Goals as goal

pub returns-then-not-are_known-clause-value : goal.returns-then-not-are_known-clause-value
returns-then-not-are_known-clause-value g c =
    let s = c.args.shape.now in
    let m = entries s.map in
    let b = g.V.Veto.means c.args.below.now in
    let p = c.args.assignment.now in
    let k = c.min-front.result in
    let e : k ≡ min b.reach (length m) = search rules in
    let off : list_all is_known (seen (take k m) p) ≡ false = search rules in
    sym (front_unknown (plan_in s) b p (sym (front_of b.reach k m p e) ∙ off))

pub returns-in-Ok-Found-clause-completed : goal.returns-in-Ok-Found-clause-completed
returns-in-Ok-Found-clause-completed g c =
    let s = c.args.shape.now in
    let m = entries s.map in
    let v = c.args.below.now in
    let b = g.V.Veto.means v in
    let p = c.args.assignment.now in
    let n = c.atoms.result in
    let values = c.seen_values-values.result in
    let begins : Begins (seen m p) values = search rules in
    let least : Least (Allowed (clauses_of s.book) b.speaks) (length m) (take n values) c.find_least.new.assignment = search rules in
    shape_found s b p values n c.atoms.ensures c.seen_values-values.ensures.long begins (g.met.V.Veto.lawful v) c.find_least.new.assignment least

pub returns-in-Ok-Nothing-clause-value : goal.returns-in-Ok-Nothing-clause-value
returns-in-Ok-Nothing-clause-value g c =
    let s = c.args.shape.now in
    let m = entries s.map in
    let b = g.V.Veto.means c.args.below.now in
    let p = c.args.assignment.now in
    let n = c.atoms.result in
    let values = c.seen_values-values.result in
    let begins : Begins (seen m p) values = search rules in
    let none : Reasoned (Allowed (clauses_of s.book) b.speaks) (length m) (take n values) c.find_least.new.ticks = search rules in
    sym (shape_nothing s b p values n c.atoms.ensures c.seen_values-values.ensures.long begins c.find_least.new.ticks none)

pub returns-in-Ok-Found-clause-value : goal.returns-in-Ok-Found-clause-value
returns-in-Ok-Found-clause-value g c =
    let s = c.args.shape.now in
    let m = entries s.map in
    let v = c.args.below.now in
    let b = g.V.Veto.means v in
    let p = c.args.assignment.now in
    let n = c.atoms.result in
    let k = c.min-front.result in
    let values = c.seen_values-values.result in
    let begins : Begins (seen m p) values = search rules in
    let least : Least (Allowed (clauses_of s.book) b.speaks) (length m) (take n values) c.find_least.new.assignment = search rules in
    let made = shape_found s b p values n c.atoms.ensures c.seen_values-values.ensures.long begins (g.met.V.Veto.lawful v) c.find_least.new.assignment least in
    let e : k ≡ min b.reach (length m) = search rules in
    let on : list_all is_known (seen (take k m) p) ≡ true = search rules in
    sym (completed_stalls (plan_in s) b (g.met.V.Veto.lawful v) p _ made (sym (front_of b.reach k m p e) ∙ on))
