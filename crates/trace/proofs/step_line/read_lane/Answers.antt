use Rattle.trace.proofs.StepLineLaws.{lane_none}
use Rattle.trace.proofs.step_line.read_lane.Goals as goal

pub returns-in-Some-clause-none : goal.returns-in-Some-clause-none
returns-in-Some-clause-none c = lane_none c.args.config.now c.args.word.now c.args.line.now c.in-Some.name.now c.find_lane.result c.in-Some.ensures c.find_lane.ensures.none
