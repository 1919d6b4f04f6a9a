use Rattle.std.proofs.Common.{rules, arith, ◌≡◌, ◌<◌, ◌∙◌, ◌++◌, ◌∷◌, [], ap, length, slice_get, Some, subst, sym}
use Rattle.std.proofs.lemmas.Option.{slice_get_within}
use Rattle.lemmas.proofs.Lists.{some_at}
use Rattle.engine.specs.claims.Lanes.{channels_on}
use Rattle.engine.proofs.PostLaws.{channels_more, taken_all, taken_more, taken_none}
use Rattle.engine.proofs.lanes.channels_of.Goals as goal

pub loop-post-init : goal.loop-post-init
loop-post-init g c = (
  taken_none _ _ _ c.into_iter-post-iterator.ensures.into_iter_gives.0 (search rules),
  c.in_ok-channels.ensures.count,
  c.in_ok-channels.ensures.none,
)

pub loop-post-preserved : goal.loop-post-preserved
loop-post-preserved g c =
    let inv = c.loop-post.invariant in
    let post = c.in-Some.post in
    let long = c.in_ok-place.ensures.count in (
      taken_more _ _ _ _ _ _ post inv.0 c.in-Some.ensures.steps.0 (let gone = c.in-Some.ensures.steps.1 in omega arith),
      long ∙ inv.1,
      (λ k new at.
          let inside = slice_get_within c.place.new.channels.items k new at in
          let old = some_at c.loop-post.channels.items k (subst (λ n. k < n) long inside) in
          c.in_ok-place.ensures.placed k old.0 new old.1 at
          ∙ ap (λ bs. bs ++ channels_on (λ p. p.lane.0) (λ p. p.channel) k (post ∷ [])) (inv.2 k old.0 old.1)
          ∙ sym (channels_more (λ p. p.lane.0) (λ p. p.channel) k c.loop-post.yielded (post ∷ []))),
    )

pub returns-clause-each : goal.returns-clause-each
returns-clause-each g c =
    let inv = c.loop-post.invariant in
    let all = taken_all _ _ _ _ inv.0 c.in-None.ensures.steps.0 in
    λ l of_lane at. inv.2 l of_lane at ∙ ap (λ ps. channels_on (λ p. p.lane.0) (λ p. p.channel) l ps) all
