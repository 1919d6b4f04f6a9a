use Rattle.std.proofs.Common.{◌∙◌, ◌*◌, ◌<◌, ◌≤◌, All, ap, get_or, length, subst, sym}
use Rattle.due_model.specs.claims.Limits.{max_number}
use Rattle.escalation.specs.Matching.{applying, least_of}
use Rattle.escalation.proofs.ByObjectLemmas.{places_within}
use Rattle.escalation.proofs.MatchingLemmas.{are_matching, interval_is, interval_within, read_at, times_within}
use Rattle.lemmas.proofs.Lists.{is_read}
use Rattle.escalation.proofs.interval.matching_interval.Goals as goal

pub least_interval-least-requires-clause-within : goal.least_interval-least-requires-clause-within
least_interval-least-requires-clause-within c =
    subst (All (λ place. place < length c.args.config.now.escalations)) (sym c.of-places.ensures)
    (places_within c.args.config.now.escalations c.args.object.0)

pub returns-clause-value : goal.returns-clause-value
returns-clause-value c = λ settings at.
    let config = c.args.config.now in
    let own = is_read config.objects c.as_slice.result.now c.args.object.0 c.from.result c.index-as_slice-from.result settings c.as_slice.ensures c.from.ensures at in
    let matching = ap (applying config c.args.zone.now c.args.number c.args.letter c.args.t) c.of-places.ensures
    ∙ are_matching config c.args.zone.now c.args.number c.args.letter c.args.t c.args.object.0 in
    ap (λ units. 60 * units) (c.from-2.ensures ∙ c.unwrap_or.ensures ∙ interval_is settings _ _ _ (c.least_interval-least.ensures ∙ ap least_of matching) (ap (λ o. o.interval) own))

pub returns-clause-range : goal.returns-clause-range
returns-clause-range c =
    let config = c.args.config.now in
    let settings = c.index-as_slice-from.result in
    let here = c.index-as_slice-from.is ∙ ap (λ k. get_or c.as_slice.result.now k settings) c.from.ensures in
    let at = read_at config.objects c.as_slice.result.now c.args.object.0 settings c.as_slice.ensures c.requires.object here in
    let matching = ap (applying config c.args.zone.now c.args.number c.args.letter c.args.t) c.of-places.ensures
    ∙ are_matching config c.args.zone.now c.args.number c.args.letter c.args.t c.args.object.0 in
    let own = is_read config.objects c.as_slice.result.now c.args.object.0 c.from.result c.index-as_slice-from.result settings c.as_slice.ensures c.from.ensures at in
    let units = c.from-2.ensures ∙ c.unwrap_or.ensures ∙ interval_is settings _ _ _ (c.least_interval-least.ensures ∙ ap least_of matching) (ap (λ o. o.interval) own) in
    let low = interval_within config c.args.zone.now c.args.object.0 c.args.number c.args.letter c.args.t settings c.requires.accepted at in
    subst (λ n. 60 * n ≤ 60 * max_number) (sym units) (times_within _ _ low)
