use Rattle.nagios_text.proofs.LoopLemmas.{lines-end, lines-more}
use Rattle.nagios_text.proofs.lone.marked.Goals as goal

pub returns-then-line-rest : goal.returns-then-line-rest
returns-then-line-rest c =
    lines-end c.loop-made.made.items c.push_line.new.made.items _ c.loop-made.is_rest c.loop-made.rest.now c.before-line.result.now c.loop-made.invariant c.before-line.ensures c.in_ok-push_line.ensures c.if-line-rest.true

pub loop-made-preserved : goal.loop-made-preserved
loop-made-preserved c =
    lines-more c.loop-made.made.items c.push_line.new.made.items c.push.new.self.items _ c.loop-made.is_rest c.goes_on-is_rest.result c.loop-made.rest.now c.before-line.result.now c.loop-made.invariant c.before-line.ensures c.in_ok-push_line.ensures c.in_ok-push.ensures.items c.if-line-rest.false c.goes_on-is_rest.ensures
