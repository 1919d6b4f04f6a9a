use Rattle.std.proofs.Common.{get_or, sym, arith}
use Rattle.object_reader.proofs.Escapes.{bare_more, bare_stop, bare_is, covered_is, other_is, bare_end}
use Rattle.object_reader.proofs.statement.before_comment.Goals as goal
use Rattle.object_reader.proofs.statement.before_comment.Goals.{else-byte-eq59-via-then-byte-eq59+else-last-ne92, else-byte-eq59-via-else-byte-eq59}

pub returns-then-last-ne92 : goal.returns-then-last-ne92
returns-then-last-ne92 c =
    sym (bare_stop c.args.bytes.now c.loop-i.i c.loop-i.last (omega arith) c.loop-i.invariant (bare_is c.loop-i.last (get_or c.args.bytes.now c.loop-i.i 0) c.if-byte-eq59.true c.if-last-ne92.true))

pub loop-i-preserved : goal.loop-i-preserved
loop-i-preserved c =
    bare_more c.args.bytes.now c.loop-i.i c.loop-i.last (omega arith) c.loop-i.invariant (elim c.else-byte-eq59.branch [
      | else-byte-eq59-via-then-byte-eq59+else-last-ne92 w ↦ covered_is c.loop-i.last (get_or c.args.bytes.now c.loop-i.i 0) w.if-last-ne92.false
      | else-byte-eq59-via-else-byte-eq59 w ↦ other_is c.loop-i.last (get_or c.args.bytes.now c.loop-i.i 0) w.if-byte-eq59.false
    ])

pub returns : goal.returns
returns c = sym (bare_end c.args.bytes.now c.loop-i.i c.loop-i.last (omega arith) c.loop-i.invariant)
