use Rattle.std.proofs.Common.{Bool, not, ◌||◌, ap, sym, ◌∙◌}
use Rattle.std.proofs.lemmas.Result.{IfOk-weaker}
use Rattle.std.specs.List.{list_any}
use Rattle.due_model.specs.claims.Receivers.{passes, receivers}
use Rattle.due_model.specs.declared.config.ContactId.{ContactId}
use Rattle.slow_rules.proofs.SlowLemmas.{any_numbers}
use Rattle.slow_rules.proofs.receivers.is_heard.Goals as goal

pub returns : goal.returns
returns c =
    let s = c.args.subject.now in
    let f = passes s.config.now s.zone.now s.object.now c.args.attempt c.args.told in
    let all = receivers s.config.now s.zone.now s.id.0 s.object.now c.args.attempt c.args.number c.args.standing in
    IfOk-weaker c.one_passes.result _ _
    (λ pass is. is
    ∙ ap (list_any (λ (contact : ContactId). f contact.0)) c.as_slice.ensures.value
    ∙ any_numbers f c.in_ok-receivers.receivers.items
    ∙ ap (list_any f) c.in_ok-receivers.ensures
    ∙ sym (ap (λ (b : Bool). not b || list_any f all) c.if-not-subject.false)) c.one_passes.ensures
