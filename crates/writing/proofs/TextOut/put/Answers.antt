use Rattle.std.proofs.Common.{◌-◌, min, length, ap, ◌∙◌}
use Rattle.nestformat.specs.Limits.{text_limit}
use Rattle.writing.specs.Texts.{joined}
use Rattle.writing.specs.Buffers.{held}
use Rattle.writing.proofs.Joining.{put_takes, entries_few}
use Rattle.writing.proofs.TextOut.put.Goals as goal

pub returns : goal.returns
unfolding joined
returns c =
    let room = c.min-count.ensures ∙ ap (λ l. min (text_limit - length l) (length c.args.bytes.now)) c.as_slice.ensures in
    put_takes text_limit c.min-count.result (held c.args.self.now) c.args.bytes.now _ c.extend.result (entries_few c.args.self.now.bytes) room c.extend.ensures.value c.extend.ensures.items
