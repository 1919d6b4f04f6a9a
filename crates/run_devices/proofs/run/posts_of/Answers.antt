use Rattle.std.proofs.Common.{rules, ◌≡◌, ◌<◌, ◌∙◌, ap, append-nil, sym, ◌++◌, ◌∷◌, [], length, subst}
use Rattle.std.proofs.lemmas.List.{nil_from_length}
use Rattle.std.specs.Vec.Iter.{into_iter_items}
use Rattle.run_devices.specs.Channels.{numbered_from}
use Rattle.run_devices.proofs.PostLaws.{all_posted, longer, next_rest, numbers_more, posted_on, within}
use Rattle.run_devices.proofs.run.posts_of.Goals as goal

pub bounds-lanes-len : goal.bounds-lanes-len
bounds-lanes-len c =
    let inv = c.loop-channel.invariant in
    let len : length c.loop-channel.yielded ≡ c.len.result = search rules in
    subst (λ n. n < length c.args.lanes.now) len
    (within c.loop-channel.yielded (into_iter_items c.loop-channel.channel-iterator) c.args.channels.items c.args.lanes.now inv.2 c.requires.each
    c.in-Some.channel (into_iter_items c.next.new.self) c.in-Some.ensures.steps.0)

pub loop-channel-preserved : goal.loop-channel-preserved
loop-channel-preserved c =
    let inv = c.loop-channel.invariant in
    let len : length c.loop-channel.yielded ≡ c.len.result = search rules in
    let items : c.push.new.self.items ≡ c.loop-channel.posts.items ++ _ ∷ [] = c.in_ok-push.ensures.items in (
      posted_on c.loop-channel.yielded (into_iter_items c.loop-channel.channel-iterator) c.args.channels.items c.args.lanes.now inv.2 c.requires.each
          c.in-Some.channel (into_iter_items c.next.new.self) c.in-Some.ensures.steps.0 (λ post. post.lane) c.loop-channel.posts.items c.push.new.self.items _ (record { 0 = 0 }) items (search rules) inv.0,
      longer c.loop-channel.yielded (into_iter_items c.loop-channel.channel-iterator) c.args.channels.items c.args.lanes.now inv.2 c.requires.each
          c.in-Some.channel (into_iter_items c.next.new.self) c.in-Some.ensures.steps.0 c.loop-channel.posts.items c.push.new.self.items _ items inv.1,
      next_rest c.loop-channel.yielded (into_iter_items c.loop-channel.channel-iterator) c.args.channels.items c.args.lanes.now inv.2 c.requires.each
          c.in-Some.channel (into_iter_items c.next.new.self) c.in-Some.ensures.steps.0,
      numbers_more (λ post. post.channel.channel) c.loop-channel.posts.items c.push.new.self.items _ c.loop-channel.yielded c.in-Some.channel items (search rules) inv.3,
    )

pub returns-clause-lanes : goal.returns-clause-lanes
returns-clause-lanes c =
    let inv = c.loop-channel.invariant in
    let none : into_iter_items c.loop-channel.channel-iterator ≡ [] = nil_from_length (into_iter_items c.loop-channel.channel-iterator) (search rules) in
    all_posted c.loop-channel.yielded (into_iter_items c.loop-channel.channel-iterator) c.args.channels.items c.args.lanes.now inv.2 c.requires.each
    (λ post. post.lane) c.loop-channel.posts.items none inv.0

pub returns-clause-channels : goal.returns-clause-channels
returns-clause-channels c =
    let inv = c.loop-channel.invariant in
    let none : into_iter_items c.loop-channel.channel-iterator ≡ [] = nil_from_length (into_iter_items c.loop-channel.channel-iterator) (search rules) in
    let all = sym (append-nil c.loop-channel.yielded) ∙ ap (λ rest. c.loop-channel.yielded ++ rest) (sym none) ∙ inv.2 in
    inv.3 ∙ ap (numbered_from 0) all
