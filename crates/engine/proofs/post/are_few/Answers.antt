use Rattle.std.proofs.Common.{rules, arith, ◌≡◌, ◌≤◌, length, true}
use Rattle.engine.proofs.PostLaws.{count_most}
use Rattle.engine.proofs.post.are_few.Goals as goal

pub returns-clause-few : goal.returns-clause-few
returns-clause-few g c = λ is l.
    let few : length c.args.posts.now ≤ 8 = search rules in
    let most = count_most (λ post. post.lane.0) l c.args.posts.now in
    omega (arith, few, most)
