use Rattle.std.proofs.Common.{Bool, ◌||◌, take, take_all, ap, sym, ◌∙◌}
use Rattle.std.specs.List.{list_any}
use Rattle.due_model.specs.claims.Receivers.{passes}
use Rattle.due_model.specs.declared.config.ContactId.{ContactId}
use Rattle.lemmas.proofs.Lists.{any_more}
use Rattle.slow_rules.proofs.receivers.one_passes.Goals as goal

pub loop-contact-preserved : goal.loop-contact-preserved
loop-contact-preserved c =
    let s = c.args.subject.now in
    let f = (λ (contact : ContactId). passes s.config.now s.zone.now s.object.now c.args.attempt c.args.told contact.0) in
    let i = c.loop-contact.contact-index in
    c.either-found.ensures
    ∙ ap (λ (b : Bool). b || c.in_ok-pass.pass) c.loop-contact.invariant
    ∙ ap (λ (b : Bool). list_any f (take i c.args.contacts.now) || b) c.in_ok-pass.ensures
    ∙ sym (any_more f c.args.contacts.now i (record { 0 = 0 }) c.loop-contact-test.true)

pub returns : goal.returns
returns c =
    let s = c.args.subject.now in
    c.loop-contact.invariant
    ∙ ap (list_any (λ (contact : ContactId). passes s.config.now s.zone.now s.object.now c.args.attempt c.args.told contact.0)) (take_all c.loop-contact.contact-index c.args.contacts.now c.loop-contact-test.false)
