use Rattle.std.proofs.Common.{◌∙◌, List, ap, map, subst, sym}
use Rattle.std.specs.Arc.{arc_value}
use Rattle.std.proofs.lemmas.Simd.{map-map}
use Rattle.channel_kinds.specs.DeviceChannel.{account_of}
use Rattle.earlier_runs.specs.declared.left.LaneState.{LaneState}
use Rattle.run_resumed.specs.Resumed.{AreFresh}
use Rattle.run_resumed.proofs.TiedLaws.{all_fresh, posts_unused}
use Rattle.run_resumed.proofs.resumed.posts_on.Goals as goal

pub returns-in-Ok-clause-lanes : goal.returns-in-Ok-clause-lanes
returns-in-Ok-clause-lanes g c = c.in-Ok.ensures.lanes ∙ c.in_ok-posts.ensures.lanes

pub returns-in-Ok-clause-inner : goal.returns-in-Ok-clause-inner
returns-in-Ok-clause-inner g c =
    sym (map-map (λ channel. channel.channel) (λ post. post.channel.inner.sent) c.in-Ok.posts.items)
    ∙ ap (map (λ channel. channel.channel)) c.in-Ok.ensures.inner
    ∙ map-map (λ channel. channel.channel) (λ post. post.channel) c.in_ok-posts.posts.items
    ∙ c.in_ok-posts.ensures.channels

pub returns-in-Ok-clause-fresh : goal.returns-in-Ok-clause-fresh
returns-in-Ok-clause-fresh g c =
    let posts = c.in-Ok.posts.items in
    let inner =
    sym (map-map (λ channel. channel.channel) (λ post. post.channel.inner.sent) posts)
    ∙ ap (map (λ channel. channel.channel)) c.in-Ok.ensures.inner
    ∙ map-map (λ channel. channel.channel) (λ post. post.channel) c.in_ok-posts.posts.items
    ∙ c.in_ok-posts.ensures.channels in
    let unused = posts_unused (λ post. post.channel.inner.sent.channel) posts c.args.opened.items inner c.requires.unused in
    subst (λ (states : List LaneState). AreFresh (λ channel. account_of channel.sent.channel) states posts) c.deref-2.ensures.value
    (all_fresh (λ channel. account_of channel.sent.channel) (arc_value c.args.config.now) _ posts c.in-Ok.ensures.each unused)
