use Rattle.std.proofs.Common.{◌≡◌, ◌∙◌, ◌++◌, ◌<◌, All, Some, ap, length, slice_get, subst, sym}
use Rattle.std.proofs.lemmas.Result.{on_ok_weaker}
use Rattle.lemmas.proofs.Lists.{All-slice_get}
use Rattle.due_model.specs.claims.Accepted.{ObjectFits}
use Rattle.due_model.specs.claims.Escalations.{contacts_with, has_contact}
use Rattle.escalation.specs.Named.{contact_ids}
use Rattle.lemmas.proofs.Lists.{is_read}
use Rattle.escalation.proofs.InOrderLemmas.{AreRising, already_in_order, appended}
use Rattle.escalation.proofs.contacts.own_contacts.Goals as goal

pub returns-then-is_in_order-clause-appended : goal.returns-then-is_in_order-clause-appended
returns-then-is_in_order-clause-appended c =
    let config = c.args.config.now in
    let object = c.index-as_slice-from.result in
    appended c.extend_from_slice.result (λ settings. slice_get config.objects c.args.object.0 ≡ Some settings)
    (λ settings. contact_ids (contacts_with config (has_contact settings.contacts))) _ _ c.as_slice-own.result.now c.extend_from_slice.ensures.items
    (λ settings at.
    let own = is_read config.objects c.as_slice.result.now c.args.object.0 c.from.result object settings c.as_slice.ensures c.from.ensures at in
    let same = c.as_slice-own.ensures ∙ ap (λ o. o.contacts) own in
    let fits = All-slice_get (ObjectFits config) config.objects c.args.object.0 settings c.requires.accepted.objects at in
    let rising = subst AreRising same (c.is_in_order.ensures.0 c.if-is_in_order.true) in
    same ∙ already_in_order settings.contacts rising (length config.contacts) fits.contacts)

pub returns-in_ok-from_slice-clause-appended : goal.returns-in_ok-from_slice-clause-appended
returns-in_ok-from_slice-clause-appended c =
    let config = c.args.config.now in
    let object = c.index-as_slice-from.result in
    on_ok_weaker c.append_in_order.result (λ appended settings at.
    let own = is_read config.objects c.as_slice.result.now c.args.object.0 c.from.result object settings c.as_slice.ensures c.from.ensures at in
    let same = c.in_ok-from_slice.ensures.items ∙ c.as_slice-own.ensures ∙ ap (λ o. o.contacts) own in
    let fits = All-slice_get (ObjectFits config) config.objects c.args.object.0 settings c.requires.accepted.objects at in
    appended (length config.contacts) (subst (All (λ contact. contact.0 < length config.contacts)) (sym same) fits.contacts)
    ∙ ap (λ contacts. c.args.out.now.items ++ contact_ids (contacts_with config (has_contact contacts))) same) c.append_in_order.ensures.appended
