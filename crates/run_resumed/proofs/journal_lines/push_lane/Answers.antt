use Rattle.std.proofs.Common.{◌∙◌}
use Rattle.run_resumed.proofs.JournalLaws.{lane_line}
use Rattle.run_resumed.proofs.journal_lines.push_lane.Goals as goal

pub returns : goal.returns
returns c =
    lane_line c.args.config.now c.args.lane.0 c.args.state.now c.args.channels.now c.in_ok-tally.tally _ _ c.args.text.now.items c.push_tally.new.line.items
    c.deref.ensures (c.deref-2.ensures.value ∙ c.in_ok-taken.ensures) c.in_ok-tally.ensures.tally c.in_ok-tally.ensures.earlier c.in_ok-push_tally.ensures
