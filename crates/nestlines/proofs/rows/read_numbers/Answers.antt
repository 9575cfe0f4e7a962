use Rattle.std.proofs.Common.{◌≡◌, true, false, w32, to_z, of_z, refl, rules}
use Rattle.tables.specs.Items.{entries}
use Rattle.lexer.proofs.Moves.{same_line_trans}
use Rattle.nestlines.proofs.RowLines.{sofar_more, over_full, not_closed}
use Rattle.nestlines.proofs.Placed.{told_same}
use Rattle.nestlines.proofs.rows.read_numbers.Goals as goal

pub loop-value-preserved : goal.loop-value-preserved
loop-value-preserved c =
    let v = c.in-Number.value in
    let yes : c.push.result ≡ true = search rules in
    let back : to_z w32 (of_z w32 v) ≡ v = search rules in
    sofar_more c.args.reader.now c.loop-value.reader c.next_token.new.self (entries c.loop-value.numbers) (entries c.push.new.self) c.in-Number.bytes.now v _ c.push.result c.loop-value.invariant c.in-Number.ensures.token c.next_token.ensures.rest c.next_token.ensures.same c.if-value-eq0.false c.push.ensures.value yes c.push.ensures.items back

pub returns-in_default-next_token : goal.returns-in_default-next_token
returns-in_default-next_token c =
    record {
      found = (
        not_closed c.args.reader.now c.loop-value.reader c.next_token.new.self (entries c.loop-value.numbers) c.in-Number.bytes.now c.in-Number.value c.next_token-2.result c.loop-value.invariant c.in-Number.ensures.token c.next_token.ensures.rest c.if-value-eq0.true c.next_token-2.ensures.token c.in_default-next_token.not-LineEnd,
        told_same _ _ _ _ _ _ _ c.at-in_default-next_token.ensures c.plain-in_default-next_token.ensures c.line-line.ensures refl,
      );
      same = same_line_trans c.loop-value.invariant.same (same_line_trans c.next_token.ensures.same c.next_token-2.ensures.same);
    }

pub returns-then-not-push-clause-found : goal.returns-then-not-push-clause-found
returns-then-not-push-clause-found c =
    let no : c.push.result ≡ false = search rules in (
      over_full c.args.reader.now c.loop-value.reader c.next_token.new.self (entries c.loop-value.numbers) c.in-Number.bytes.now c.in-Number.value c.push.result c.loop-value.invariant c.in-Number.ensures.token c.next_token.ensures.rest c.if-value-eq0.false c.push.ensures.value no,
      told_same _ _ _ _ _ _ _ c.at-then-not-push.ensures c.plain-then-not-push.ensures c.line-line.ensures refl,
    )
