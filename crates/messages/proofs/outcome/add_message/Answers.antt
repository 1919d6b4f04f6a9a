use Rattle.std.proofs.Common.{◌++◌, ◌||◌, not, ap, ◌∙◌}
use Rattle.std.proofs.lemmas.Result.{err_from_is_err_and}
use Rattle.due_model.specs.claims.Receivers.{receivers}
use Rattle.escalation.specs.Named.{contact_ids}
use Rattle.filters.specs.Attempt.{plain}
use Rattle.messages.proofs.MessageLemmas.{heard_law, receivers_law, receivers_within}
use Rattle.messages.proofs.outcome.add_message.Goals as goal

pub add_to_receivers-requires-clause-within : goal.add_to_receivers-requires-clause-within
add_to_receivers-requires-clause-within c =
    let config = c.args.rules.now.config.now in
    let m = c.args.message.now in
    receivers_within config c.args.rules.now.zone.now m c.as_slice.result.now c.requires.message.object
    (λ settings at. c.as_slice.ensures.value ∙ c.in_ok-add_receivers.ensures settings at
    ∙ ap (λ old. old ++ contact_ids (receivers config c.args.rules.now.zone.now m.object.0 settings (plain m.attempt) m.number m.standing)) c.clear.ensures.items)

pub returns-clause-entries : goal.returns-clause-entries
returns-clause-entries c =
    let config = c.args.rules.now.config.now in
    let zone = c.args.rules.now.zone.now in
    let m = c.args.message.now in
    λ settings at. c.in_ok-passes.ensures.entries
    ∙ ap (λ xs. c.args.entries.now.items ++ xs) (receivers_law config zone m settings c.as_slice.result.now c.requires.message.zone (c.requires.message.service settings at)
    (c.as_slice.ensures.value ∙ c.in_ok-add_receivers.ensures settings at
    ∙ ap (λ old. old ++ contact_ids (receivers config zone m.object.0 settings (plain m.attempt) m.number m.standing)) c.clear.ensures.items))

pub returns-clause-heard : goal.returns-clause-heard
returns-clause-heard c =
    let config = c.args.rules.now.config.now in
    let zone = c.args.rules.now.zone.now in
    let m = c.args.message.now in
    λ settings at. c.counts-heard.ensures
    ∙ ap (λ passes. not config.choices.nobody || passes) c.in_ok-passes.ensures.passes
    ∙ heard_law config zone m settings c.as_slice.result.now c.requires.message.zone (c.requires.message.service settings at)
    (c.as_slice.ensures.value ∙ c.in_ok-add_receivers.ensures settings at
    ∙ ap (λ old. old ++ contact_ids (receivers config zone m.object.0 settings (plain m.attempt) m.number m.standing)) c.clear.ensures.items)

pub returns-in_err-passes-clause-left : goal.returns-in_err-passes-clause-left
returns-in_err-passes-clause-left c =
    let p = err_from_is_err_and c.from_residual-in_err-passes.result c.from_residual-in_err-passes.ensures.1 in
    rw p.1 c.in_err-passes.ensures.left
