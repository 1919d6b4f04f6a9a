use Rattle.std.proofs.Common.{◌≡◌, Bool, ◌++◌, ap, subst, sym, ◌∙◌, Some, slice_get}
use Rattle.std.proofs.lemmas.Result.{IfOk-weaker, on_ok_weaker}
use Rattle.due_model.specs.declared.config.Object.{Object}
use Rattle.outcomes.specs.Outcome.{heard_of}
use Rattle.messages.specs.Message.{outcome_of}
use Rattle.messages.specs.claims.Entries.{outcome_entries}
use Rattle.messages.proofs.MessageLemmas.{heard_parts, parts_law}
use Rattle.messages.proofs.outcome.add_messages.Goals as goal

pub returns-in-Sent-clause-entries : goal.returns-in-Sent-clause-entries
returns-in-Sent-clause-entries c =
    let config = c.args.rules.now.config.now in
    let zone = c.args.rules.now.zone.now in
    let old = c.args.entries.now.items in
    let is = c.message_of-message.ensures in
    on_ok_weaker c.add_message.result (λ told settings at.
    told settings (subst (λ o. slice_get config.objects o.0 ≡ Some settings) (sym is.object) at)
    ∙ ap (λ xs. old ++ xs) (parts_law config zone c.message_of-message.result settings c.args.object c.args.event _ is.object is.event is.outcome)
    ∙ ap (λ x. old ++ outcome_entries config zone c.args.object.0 settings c.args.event x) (sym c.in-Sent.is)) c.add_message.ensures.entries

pub returns-in-Sent-clause-heard : goal.returns-in-Sent-clause-heard
returns-in-Sent-clause-heard c =
    let config = c.args.rules.now.config.now in
    let zone = c.args.rules.now.zone.now in
    let m = c.message_of-message.result in
    let is = c.message_of-message.ensures in
    IfOk-weaker c.add_message.result
    (λ (heard : Bool). (settings : Object) → slice_get config.objects m.object.0 ≡ Some settings → heard ≡ heard_of config zone m.object.0 settings (outcome_of m))
    (λ (heard : Bool). (settings : Object) → slice_get config.objects c.args.object.0 ≡ Some settings → heard ≡ heard_of config zone c.args.object.0 settings c.args.outcome)
    (λ heard counts settings at.
    counts settings (subst (λ o. slice_get config.objects o.0 ≡ Some settings) (sym is.object) at)
    ∙ heard_parts config zone m settings c.args.object _ is.object is.outcome
    ∙ ap (heard_of config zone c.args.object.0 settings) (sym c.in-Sent.is)) c.add_message.ensures.heard
