use Rattle.std.proofs.Common.{rules, ◌<◌, length}
use Rattle.std.proofs.lemmas.List.Elements.{AllWithin-more_set, AllWithin-none}
use Rattle.caller_feeds.specs.Feeds.{NothingWaits}
use Rattle.caller_feeds.proofs.MeetLemmas.{all_looked, more-looked}
use Rattle.caller_feeds.proofs.intake.are_done.Goals as goal

pub loop-place-init : goal.loop-place-init
loop-place-init c = record {
  looked = all_looked c.args.ends.now.items;
  done = AllWithin-none NothingWaits c.args.ends.now.items 0;
}

pub returns-then-not-is_done-clause-looked : goal.returns-then-not-is_done-clause-looked
returns-then-not-is_done-clause-looked c =
    let ends = c.loop-place.ends.items in
    let place = c.loop-place.place in
    let e = c.index_mut.result.now in
    let within : place < length ends = search rules in
    more-looked c.args.ends.now.items ends place e c.is_done.new.self within (search rules) c.is_done.ensures.looked c.loop-place.invariant.looked

pub loop-place-preserved : goal.loop-place-preserved
loop-place-preserved c =
    let ends = c.loop-place.ends.items in
    let place = c.loop-place.place in
    let e = c.index_mut.result.now in
    let within : place < length ends = search rules in
    let done : NothingWaits c.is_done.new.self = search rules in
    record {
      looked = more-looked c.args.ends.now.items ends place e c.is_done.new.self within (search rules) c.is_done.ensures.looked c.loop-place.invariant.looked;
      done = AllWithin-more_set ends place c.is_done.new.self within NothingWaits c.loop-place.invariant.done done;
    }
