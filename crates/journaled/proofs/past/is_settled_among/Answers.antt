use Rattle.std.proofs.Common.{sym}
use Rattle.journaled.proofs.FindLaws.{first_tells, none_settles}
use Rattle.journaled.proofs.past.is_settled_among.Goals as goal

pub returns-in-Some : goal.returns-in-Some
returns-in-Some c =
    let look = c.in-Some.ensures.lookup in
    first_tells c.args.settled.now c.args.notice.now c.count_before.result c.place_of.result c.place_of.ensures.place c.requires.within
    c.place_of.ensures.within c.count_before.ensures.less c.count_before.ensures.rest c.requires.order c.in-Some.next.now look.3.0 look.1

pub returns-in-None : goal.returns-in-None
returns-in-None c =
    let look = c.in-None.ensures.lookup in
    sym (none_settles c.args.settled.now c.args.notice.now c.count_before.result c.place_of.result c.place_of.ensures.place c.requires.within
    c.place_of.ensures.within c.count_before.ensures.less c.count_before.ensures.rest look.3)
