use Rattle.std.proofs.Common.{map, refl}
use Rattle.run_resumed.proofs.JournalLaws.{line_more, no_lines}
use Rattle.run_resumed.proofs.journal_lines.lines_of.Goals as goal

pub loop-number-init : goal.loop-number-init
loop-number-init c = no_lines c.args.config.now c.args.states.now (map (λ cs. cs.items) c.args.channels.now) c.new-text.result.items c.new-text.ensures.items

pub loop-number-preserved : goal.loop-number-preserved
loop-number-preserved c =
    line_more c.args.config.now c.args.states.now (map (λ cs. cs.items) c.args.channels.now) c.loop-number.number _ c.loop-number.text.items c.push_number.new.text.items
    c.in_ok-push_number.ensures.0 refl c.loop-number.invariant c.in_ok-push_number.ensures.2 c.in_ok-push_number.ensures.1
