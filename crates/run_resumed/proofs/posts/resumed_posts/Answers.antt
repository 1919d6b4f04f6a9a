use Rattle.std.proofs.Common.{◌≡◌, ◌∷◌, ◌++◌, []}
use Rattle.std.proofs.lemmas.List.Elements.{All-push, All-same}
use Rattle.std.specs.Arc.{arc_value}
use Rattle.std.specs.Vec.Iter.{into_iter_items}
use Rattle.run_resumed.specs.Resumed.{IsResumedPost}
use Rattle.run_resumed.proofs.PostLaws.{grown, next_rest}
use Rattle.run_resumed.proofs.posts.resumed_posts.Goals as goal

pub loop-post-preserved : goal.loop-post-preserved
loop-post-preserved c =
    let inv = c.loop-post.invariant in
    let items : c.push.new.self.items ≡ c.loop-post.found.items ++ c.in_ok-resumed.resumed ∷ [] = c.in_ok-push.ensures.items in (
      grown (λ post. post.lane) (λ post. post.lane) c.loop-post.found.items c.push.new.self.items c.in_ok-resumed.resumed c.loop-post.yielded c.in-Some.post items c.in_ok-resumed.ensures.lane inv.0,
      grown (λ post. post.channel.inner.sent) (λ post. post.channel) c.loop-post.found.items c.push.new.self.items c.in_ok-resumed.resumed c.loop-post.yielded c.in-Some.post items c.in_ok-resumed.ensures.inner inv.1,
      All-same (IsResumedPost (arc_value c.args.config.now) c.args.states.now) c.push.new.self.items (c.loop-post.found.items ++ c.in_ok-resumed.resumed ∷ []) items (All-push (IsResumedPost (arc_value c.args.config.now) c.args.states.now) c.loop-post.found.items c.in_ok-resumed.resumed inv.2 c.in_ok-resumed.ensures.each),
      next_rest c.loop-post.yielded (into_iter_items c.loop-post.post-iterator) c.args.posts.items c.in-Some.post (into_iter_items c.next.new.self) inv.3 c.in-Some.ensures.steps.0,
    )
