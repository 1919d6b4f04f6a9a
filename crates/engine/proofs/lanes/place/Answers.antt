use Rattle.std.proofs.Common.{rules, arith, ◌≡◌, ◌<◌, ◌++◌, ◌∷◌, [], length}
use Rattle.lemmas.proofs.Lists.{slice_get_read}
use Rattle.engine.proofs.PostLaws.{placed_here, placed_nowhere}
use Rattle.engine.proofs.lanes.place.Goals as goal

pub returns-in_ok-push-clause-placed : goal.returns-in_ok-push-clause-placed
returns-in_ok-push-clause-placed g c =
    let channels = c.args.channels.now.items in
    let its : c.from-place.result ≡ c.args.post.lane.0 = search rules in
    let long : c.len.result ≡ length channels = search rules in
    let below : c.from-place.result < length channels = omega (arith, long, c.if-place-len.true) in
    let at = slice_get_read channels c.from-place.result c.index_mut.result.now below (search rules) in
    placed_here (λ p. p.lane.0) (λ p. p.channel) (λ bs. bs.items) channels c.args.post c.from-place.result c.index_mut.result.now c.push.new.self its at c.in_ok-push.ensures.items

pub returns-else-place-len-clause-placed : goal.returns-else-place-len-clause-placed
returns-else-place-len-clause-placed g c =
    let channels = c.args.channels.now.items in
    let its : c.from-place.result ≡ c.args.post.lane.0 = search rules in
    let long : c.len.result ≡ length channels = search rules in
    placed_nowhere (λ p. p.lane.0) (λ p. p.channel) (λ bs. bs.items) channels c.args.post (omega (arith, its, long, c.if-place-len.false))
