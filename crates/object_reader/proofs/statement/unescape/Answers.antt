use Rattle.std.proofs.Common.{sym, arith, ◌∙◌}
use Rattle.object_reader.proofs.Escapes.{escape_dropped, byte_pushed, all_unescaped}
use Rattle.object_reader.proofs.statement.unescape.Goals as goal

pub loop-left-preserved-in_ok-push : goal.loop-left-preserved-in_ok-push
loop-left-preserved-in_ok-push c =
    rw c.in_ok-push.ensures.items (byte_pushed c.args.bytes.now c.loop-left.meant.items c.loop-left.left.now c.in-len1-up.len_at_least c.loop-left.invariant (sym c.is_escape.ensures ∙ c.if-not-is_escape.true))

pub loop-left-preserved : goal.loop-left-preserved
loop-left-preserved c =
    escape_dropped c.args.bytes.now c.loop-left.meant.items c.loop-left.left.now c.in-len1-up.len_at_least c.loop-left.invariant (sym c.is_escape.ensures ∙ c.if-not-is_escape.false)

pub returns : goal.returns
returns c = sym (all_unescaped c.args.bytes.now c.loop-left.meant.items c.loop-left.left.now c.loop-left.invariant (omega arith))
