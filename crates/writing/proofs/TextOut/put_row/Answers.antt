use Rattle.std.proofs.Common.{sym}
use Rattle.writing.specs.Buffers.{held}
use Rattle.writing.proofs.Joining.{joined_none}
use Rattle.writing.proofs.Rows.{number_more, row_ends}
use Rattle.writing.proofs.TextOut.put_row.Goals as goal

pub loop-number-init : goal.loop-number-init
loop-number-init g c = sym (joined_none c.args.self.now)

pub loop-number-preserved : goal.loop-number-preserved
loop-number-preserved g c =
    number_more g.I.Integer.text (held c.args.self.now) (held c.loop-number.self) (held c.put_number.new.self) (held c.put.new.self) c.args.numbers.now c.loop-number.number-index c.number-item.result
    c.loop-number-test.true c.number-item.is c.loop-number.invariant c.put_number.ensures c.put.ensures

pub returns : goal.returns
returns g c =
    row_ends g.I.Integer.text (held c.args.self.now) (held c.loop-number.self) (held c.put-2.new.self) c.args.numbers.now c.loop-number.number-index
    c.loop-number-test.false c.loop-number.invariant c.put-2.ensures
