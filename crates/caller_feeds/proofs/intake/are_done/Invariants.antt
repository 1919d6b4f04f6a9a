use Rattle.std.specs.List.{AllWithin, AllZip}
use Rattle.caller_feeds.specs.Feeds.{HasLooked, NothingWaits}
use Rattle.caller_feeds.proofs.intake.are_done.Given as goal

abbrev pub invariant-loop-place : goal.invariant-loop-place
invariant-loop-place l = record {
  looked : AllZip HasLooked l.fn.ends.items l.ends.items;
  done : AllWithin NothingWaits l.ends.items 0 l.place;
}
