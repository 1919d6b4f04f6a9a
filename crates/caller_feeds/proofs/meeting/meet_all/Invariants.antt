use Rattle.std.proofs.Common.{take}
use Rattle.std.specs.List.{AllZip}
use Rattle.caller_feeds.specs.Feeds.{ArePairs, HasLooked, HasMet, HasSentSame}
use Rattle.caller_feeds.proofs.meeting.meet_all.Given as goal

abbrev pub invariant-loop-place : goal.invariant-loop-place
invariant-loop-place l = record {
  sent : AllZip HasSentSame l.fn.handles.items l.handles.items;
  looked : AllZip HasLooked l.fn.ends.items l.ends.items;
  pairs : ArePairs l.handles.items l.ends.items;
  met : AllZip HasMet (take l.place l.fn.handles.items) (take l.place l.fn.ends.items);
}
