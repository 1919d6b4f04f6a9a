use Rattle.std.proofs.Common.{rules, ◌≡◌, ◌<◌, ◌≤◌, length, Some, slice_get}
use Rattle.lemmas.proofs.Lists.{slice_get_read}
use Rattle.caller_feeds.specs.Feeds.{HasLooked, HasSentSame, IsPair}
use Rattle.caller_feeds.specs.FeedLaws.{pair_then}
use Rattle.caller_feeds.proofs.MeetLemmas.{all_looked, all_sent_same, looked_then, merge-sent, met-all, met-more, sent_same_then, zip-pair, zip-set-both, zip-within}
use Rattle.caller_feeds.proofs.TakenLemmas.{zip-set}
use Rattle.caller_feeds.proofs.meeting.meet_all.Goals as goal

pub loop-place-init : goal.loop-place-init
loop-place-init c = record {
  sent = all_sent_same c.args.handles.now.items;
  looked = all_looked c.args.ends.now.items;
  pairs = c.requires;
  met = tt;
}

pub index_mut-requires-in-loop-place : goal.index_mut-requires-in-loop-place
index_mut-requires-in-loop-place c =
    let within : c.loop-place.place < length c.loop-place.ends.items = search rules in
    let found = zip-within IsPair c.loop-place.handles.items c.loop-place.ends.items c.loop-place.place within c.loop-place.invariant.pairs in
    search rules

-- the two that meet are of one feed
pub meet-requires : goal.meet-requires
meet-requires c =
    let handles = c.loop-place.handles.items in
    let ends = c.loop-place.ends.items in
    let place = c.loop-place.place in
    let d = c.index_mut.result.now in
    let g = c.index_mut-in-loop-place.result.now in
    let within_e : place < length ends = search rules in
    let within_h = zip-within IsPair handles ends place within_e c.loop-place.invariant.pairs in
    let at_d : slice_get ends place ≡ Some d = slice_get_read ends place d within_e (search rules) in
    let at_g : slice_get handles place ≡ Some g = slice_get_read handles place g within_h (search rules) in
    record { pair = zip-pair IsPair handles ends place g d at_g at_d c.loop-place.invariant.pairs }

pub loop-place-preserved : goal.loop-place-preserved
loop-place-preserved c =
    let inv = c.loop-place.invariant in
    let handles = c.loop-place.handles.items in
    let ends = c.loop-place.ends.items in
    let place = c.loop-place.place in
    let d = c.index_mut.result.now in
    let g = c.index_mut-in-loop-place.result.now in
    let d' = c.meet.new.self in
    let g' = c.meet.new.handle in
    let met = c.meet.ensures in
    let within_e : place < length ends = search rules in
    let within_h = zip-within IsPair handles ends place within_e c.loop-place.invariant.pairs in
    let at_d : slice_get ends place ≡ Some d = slice_get_read ends place d within_e (search rules) in
    let at_g : slice_get handles place ≡ Some g = slice_get_read handles place g within_h (search rules) in
    record {
      sent = zip-set HasSentSame c.args.handles.now.items handles place g g' at_g (λ x same. sent_same_then x g g' same (met.handle, met.sent)) inv.sent;
      looked = zip-set HasLooked c.args.ends.now.items ends place d d' at_d (λ x looked. looked_then x d d' looked met.looked) inv.looked;
      pairs = zip-set-both IsPair handles ends place g' d' (pair_then g g' d d' (zip-pair IsPair handles ends place g d at_g at_d inv.pairs) met.handle met.looked.feed) inv.pairs;
      met = met-more c.args.handles.now.items handles c.args.ends.now.items ends place g d at_g at_d inv.sent inv.looked (record { front = met.front; all = met.all }) inv.met;
    }

pub returns-clause-met : goal.returns-clause-met
returns-clause-met c =
    let inv = c.loop-place.invariant in
    let all : length c.loop-place.ends.items ≤ c.loop-place.place = search rules in
    met-all c.args.handles.now.items c.args.ends.now.items c.loop-place.ends.items c.loop-place.place all inv.looked c.requires inv.met

pub returns-clause-merge : goal.returns-clause-merge
returns-clause-merge c =
    let inv = c.loop-place.invariant in
    let all : length c.loop-place.ends.items ≤ c.loop-place.place = search rules in
    let met = met-all c.args.handles.now.items c.args.ends.now.items c.loop-place.ends.items c.loop-place.place all inv.looked c.requires inv.met in
    λ over config events taken. merge-sent config events c.args.handles.now.items c.args.ends.now.items met over taken
