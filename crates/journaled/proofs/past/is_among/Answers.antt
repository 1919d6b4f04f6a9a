use Rattle.journaled.proofs.FindLaws.{held_here, held_there}
use Rattle.journaled.proofs.past.is_among.Goals as goal

pub returns-then-start-end : goal.returns-then-start-end
returns-then-start-end c = (
  λ is. held_here c.args.settled.now c.args.notice.now c.count_before-start.result c.count_up_to-end.result c.place_of-at.result
      c.place_of-at.ensures.place c.count_up_to-end.ensures.within c.count_before-start.ensures.less c.count_up_to-end.ensures.rest (c.holds.ensures.0 is),
  λ there. c.holds.ensures.1 (held_there c.args.settled.now c.args.notice.now c.count_before-start.result c.count_up_to-end.result c.place_of-at.result
      c.place_of-at.ensures.place c.count_up_to-end.ensures.within c.count_before-start.ensures.less c.count_up_to-end.ensures.rest there).1,
)
