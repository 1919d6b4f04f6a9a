use Rattle.std.proofs.Common.{sym, arith, ◌∙◌}
use Rattle.object_reader.proofs.DayLines.{mark_pushed, space_pushed, blank_dropped, all_spaced}
use Rattle.object_reader.proofs.day_line.spaced.Goals as goal

pub loop-left-preserved-in_ok-push : goal.loop-left-preserved-in_ok-push
loop-left-preserved-in_ok-push c =
    rw c.in_ok-push.ensures.items (mark_pushed c.args.words.now c.loop-left.name.items c.loop-left.left.now c.in-len1-up.len_at_least c.loop-left.invariant (sym c.is_blank.ensures ∙ c.if-not-is_blank.true))

pub loop-left-preserved-in_ok-push-2 : goal.loop-left-preserved-in_ok-push-2
loop-left-preserved-in_ok-push-2 c =
    rw c.in_ok-push-2.ensures.items (space_pushed c.args.words.now c.loop-left.name.items c.loop-left.left.now c.in-len1-up.len_at_least c.loop-left.invariant (sym c.is_blank.ensures ∙ c.if-not-is_blank.false) (sym c.starts_word.ensures ∙ c.if-starts_word.true))

pub loop-left-preserved : goal.loop-left-preserved
loop-left-preserved c =
    blank_dropped c.args.words.now c.loop-left.name.items c.loop-left.left.now c.in-len1-up.len_at_least c.loop-left.invariant (sym c.is_blank.ensures ∙ c.if-not-is_blank.false) (sym c.starts_word.ensures ∙ c.if-starts_word.false)

pub returns : goal.returns
returns c = sym (all_spaced c.args.words.now c.loop-left.name.items c.loop-left.left.now c.loop-left.invariant (omega arith))
