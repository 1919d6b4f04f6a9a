use Rattle.std.proofs.Common.{◌≡◌, Some, sym, ◌∙◌}
use Rattle.paired_feed.proofs.PairLaws.{event_pair, fault_ends, fault_pair, none_ends}
use Rattle.paired_feed.proofs.paired.PairedFeed.next.Goals as goal

pub returns-in-Ok-None-clause-over : goal.returns-in-Ok-None-clause-over
returns-in-Ok-None-clause-over g c =
    let gives = rw c.in-Ok-None.field-0-is at c.in-Ok-None.ensures.none in
    let ended = rw (c.requires.goes_on, c.in-Ok-None.field-0-is) at c.in-Ok-None.ensures.ended in
    none_ends g.R.Input.can_fail c.args.first.now c.args.second.now c.args.self.now.feeder c.next.new.self c.args.self.now.last c.requires.goes_on gives ended.stop

pub returns-in-Ok-Some-clause-line : goal.returns-in-Ok-Some-clause-line
returns-in-Ok-Some-clause-line g c =
    let gives = rw c.in-Ok-Some.field-0-is at c.in-Ok-Some.ensures.event in
    rw c.pair.ensures.feeder
    (event_pair c.args.first.now c.args.second.now c.args.self.now.feeder c.next.new.self c.args.self.now.last c.pair.new.self.last c.in-Ok-Some.event c.pair.result c.requires.goes_on gives
    c.pair.ensures.line c.pair.ensures.first c.pair.ensures.second c.pair.ensures.last)

pub returns-in-Some-clause-over : goal.returns-in-Some-clause-over
returns-in-Some-clause-over g c =
    let over : c.next.new.self.stop ≡ Some c.in-Some.field-0 = sym c.stop.ensures ∙ c.in-Some.is in
    fault_ends g.R.Input.can_fail c.args.first.now c.args.second.now c.args.self.now.feeder c.next.new.self c.args.self.now.last c.in-Err.refused c.in-Some.field-0 c.requires.goes_on over
    c.in-Err.ensures.fault c.in-Err.ensures.last

pub returns-in-None-clause-line : goal.returns-in-None-clause-line
returns-in-None-clause-line g c =
    rw c.pair-in-None.ensures.feeder
    (fault_pair c.args.first.now c.args.second.now c.args.self.now.feeder c.next.new.self c.args.self.now.last c.pair-in-None.new.self.last c.in-Err.refused c.pair-in-None.result c.requires.goes_on
    (sym c.stop.ensures ∙ c.in-None.is) c.in-Err.ensures.fault c.pair-in-None.ensures.line c.pair-in-None.ensures.first c.pair-in-None.ensures.second c.pair-in-None.ensures.last)
