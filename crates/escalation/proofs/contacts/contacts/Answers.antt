use Rattle.std.proofs.Common.{◌∙◌, ◌++◌, ◌<◌, All, ap, length, subst, sym}
use Rattle.std.proofs.lemmas.Result.{on_ok_weaker}
use Rattle.due_model.specs.claims.Escalations.{contacts_with, has_contact}
use Rattle.escalation.specs.Matching.{applying}
use Rattle.escalation.specs.Named.{contact_ids, has_some, named_by}
use Rattle.escalation.proofs.ByObjectLemmas.{places_within}
use Rattle.escalation.proofs.MatchingLemmas.{are_matching, named_fit, reaches_named, reaches_own}
use Rattle.escalation.proofs.contacts.contacts.Goals as goal

pub name_applying-requires-clause-within : goal.name_applying-requires-clause-within
name_applying-requires-clause-within c =
    subst (All (λ place. place < length c.args.config.now.escalations)) (sym c.of-places.ensures)
    (places_within c.args.config.now.escalations c.args.object.0)

pub returns-then-branch-clause-appended : goal.returns-then-branch-clause-appended
returns-then-branch-clause-appended c =
    let config = c.args.config.now in
    let out = c.args.out.now.items in
    let matching = ap (applying config c.args.zone.now c.args.number c.args.letter c.args.t) c.of-places.ensures
    ∙ are_matching config c.args.zone.now c.args.number c.args.letter c.args.t c.args.object.0 in
    let named = c.in_ok-name_applying.ensures.named ∙ ap (λ old. old ++ named_by (applying config c.args.zone.now c.args.number c.args.letter c.args.t c.of-places.result.now)) c.new-named.ensures.items ∙ ap named_by matching in
    let some = sym (ap has_some matching) ∙ sym c.in_ok-name_applying.ensures.some ∙ c.if-branch.true in
    let fit = subst (All (λ contact. contact.0 < length config.contacts)) (sym named) (named_fit config c.args.zone.now c.args.object.0 c.args.number c.args.letter c.args.t c.requires.accepted) in
    on_ok_weaker c.append_in_order.result (λ appended settings at. appended (length config.contacts) fit
    ∙ ap (λ contacts. out ++ contact_ids (contacts_with config (has_contact contacts))) named
    ∙ ap (λ contacts. out ++ contact_ids contacts) (reaches_named config settings _ some)) c.append_in_order.ensures.appended

pub returns-else-branch-clause-appended : goal.returns-else-branch-clause-appended
returns-else-branch-clause-appended c =
    let config = c.args.config.now in
    let matching = ap (applying config c.args.zone.now c.args.number c.args.letter c.args.t) c.of-places.ensures
    ∙ are_matching config c.args.zone.now c.args.number c.args.letter c.args.t c.args.object.0 in
    let none = sym (ap has_some matching) ∙ sym c.in_ok-name_applying.ensures.some ∙ c.if-branch.false in
    on_ok_weaker c.own_contacts.result (λ appended settings at. appended settings at
    ∙ ap (λ contacts. c.args.out.now.items ++ contact_ids contacts) (reaches_own config settings _ none)) c.own_contacts.ensures.appended
