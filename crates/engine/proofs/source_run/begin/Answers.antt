use Rattle.std.proofs.Common.{◌≡◌, ◌<◌, ◌∙◌, Some, ap, length, map, slice_get, subst, sym}
use Rattle.std.proofs.lemmas.List.{length-map}
use Rattle.std.proofs.lemmas.Option.{same_Some, slice_get-map, slice_get_within}
use Rattle.std.specs.Option.{option_map}
use Rattle.lemmas.proofs.Lists.{some_at}
use Rattle.engine.proofs.PostLaws.{channels_count}
use Rattle.engine.proofs.source_run.begin.Goals as goal

pub returns-clause-each : goal.returns-clause-each
returns-clause-each g c = λ l n at.
    let channels = c.in_ok-channels.channels.items in
    let counts : c.in_ok-counts.counts.items ≡ map (λ bs. length bs.items) channels = c.in_ok-counts.ensures ∙ ap (map (λ bs. length bs.items)) c.deref.ensures.value in
    let here : slice_get (map (λ bs. length bs.items) channels) l ≡ Some n = subst (λ ns. slice_get ns l ≡ Some n) counts at in
    let inside = subst (λ k. l < k) (length-map channels (λ bs. length bs.items)) (slice_get_within (map (λ bs. length bs.items) channels) l n here) in
    let of_lane = some_at channels l inside in
    let same = same_Some n (length of_lane.0.items) (sym here ∙ slice_get-map (λ bs. length bs.items) channels l ∙ ap (option_map (λ bs. length bs.items)) of_lane.1) in
    same ∙ ap (λ bs. length bs) (c.in_ok-channels.ensures.each l of_lane.0 of_lane.1) ∙ channels_count (λ p. p.lane.0) (λ p. p.channel) l c.args.posts.items
