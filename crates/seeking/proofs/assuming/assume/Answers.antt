use Rattle.std.proofs.Common.{◌≡◌, true, length, get_or, pos, Some, arith, w16, SFits, rules}
use Rattle.std.specs.Option.{option_copied}
use Rattle.std.proofs.lemmas.Int.{to_z-of_z}
use Rattle.assignments.specs.Literals.{place_in}
use Rattle.assignments.proofs.ByteLaws.{at_read}
use Rattle.propagation.specs.Literals.{wanted}
use Rattle.seeking.specs.Choosing.{chosen}
use Rattle.propagation.proofs.LiteralLaws.{placed}
use Rattle.seeking.proofs.Assumptions.{stands_same, stands_set, none_differs}
use Rattle.seeking.proofs.assuming.assume.Goals.{then-assignment-place-gt1, else-assignment-place-gt1+else-assignment-place}
use Rattle.seeking.proofs.assuming.assume.Goals as goal

pub returns-then-assignment-place : goal.returns-then-assignment-place
returns-then-assignment-place c =
    let ls = c.args.assumed.now in
    let j = c.loop-index.index in
    let w = c.loop-index.assignment in
    let z = get_or ls j (pos 0) in
    let k = c.in-Some.place in
    let f : SFits w16 z = search rules in
    let p : Some k ≡ place_in (length w) z = simp to_z-of_z at c.in-Some.ensures.place in
    let v : c.wanted-value.result ≡ wanted z = simp to_z-of_z at c.wanted-value.ensures in
    let at_k = placed (length w) z k p in
    let b = at_read w k at_k.within in
    let pick : chosen (option_copied c.args.only) j ≡ true = search rules in
    none_differs ls (option_copied c.args.only) (length c.args.assignment.now) w j c.loop-index.invariant k _ at_k v (omega arith) (λ e. omega arith) (search rules) pick

pub loop-index-preserved : goal.loop-index-preserved
loop-index-preserved c =
    let ls = c.args.assumed.now in
    let j = c.loop-index.index in
    let w = c.loop-index.assignment in
    let z = get_or ls j (pos 0) in
    let k = c.in-Some.place in
    let f : SFits w16 z = search rules in
    let p : Some k ≡ place_in (length w) z = simp to_z-of_z at c.in-Some.ensures.place in
    let v : c.wanted-value.result ≡ wanted z = simp to_z-of_z at c.wanted-value.ensures in
    let at_k = placed (length w) z k p in
    let b = at_read w k at_k.within in
    let pick : chosen (option_copied c.args.only) j ≡ true = search rules in
    elim c.if-assignment-place-gt1.branch [
      | then-assignment-place-gt1 w' ↦ rw w'.assignment-is (stands_set ls (option_copied c.args.only) _ w j c.loop-index.invariant k _ at_k v (λ known. omega arith) at_k.within (search rules) pick)
      | else-assignment-place-gt1+else-assignment-place w' ↦ rw w'.assignment-is (stands_same ls (option_copied c.args.only) _ w j c.loop-index.invariant k _ at_k v (omega arith))
    ]
