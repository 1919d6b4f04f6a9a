use Rattle.std.proofs.Common.{[], ◌∷◌, ◌++◌, length, ap, ◌∙◌, sym}
use Rattle.std.specs.Result.{result_err}
use Rattle.filters.specs.Attempt.{rights_of}
use Rattle.messages.specs.declared.entries.Entry.TheVariants.{Withheld}
use Rattle.messages.specs.Message.{lane_entries}
use Rattle.messages.proofs.MessageLemmas.{passed, passes_none, passes_some, read_at, refused}
use Rattle.messages.proofs.contact.add_to_contact.Goals as goal

pub returns-in_ok-add_on_lanes-in-Ok-clause-entries : goal.returns-in_ok-add_on_lanes-in-Ok-clause-entries
returns-in_ok-add_on_lanes-in-Ok-clause-entries c =
    let config = c.args.config.now in
    let m = c.args.message.now in
    let old = c.args.entries.now.items in
    let k = c.args.contact.0 in
    let contact = c.index-as_slice-from.result in
    let at = read_at config.contacts c.as_slice.result.now k c.from.result contact c.as_slice.ensures c.from.ensures c.requires.contact c.index-as_slice-from.is in
    let none = sym (c.contact_verdict.ensures contact at) ∙ ap result_err c.in-Ok.is in
    c.in_ok-add_on_lanes-in-Ok.ensures.entries
    ∙ ap (λ rights. old ++ lane_entries m k rights (length c.as_slice-in-Ok.result.now)) c.rights_of-rights.ensures
    ∙ ap (λ lanes. old ++ lane_entries m k (rights_of m.attempt.service contact) (length lanes)) c.as_slice-in-Ok.ensures
    ∙ ap (λ xs. old ++ xs) (sym (passed config m k contact at none))

pub returns-in_ok-push-in-Err-clause-entries : goal.returns-in_ok-push-in-Err-clause-entries
returns-in_ok-push-in-Err-clause-entries c =
    let config = c.args.config.now in
    let m = c.args.message.now in
    let old = c.args.entries.now.items in
    let k = c.args.contact.0 in
    let contact = c.index-as_slice-from.result in
    let at = read_at config.contacts c.as_slice.result.now k c.from.result contact c.as_slice.ensures c.from.ensures c.requires.contact c.index-as_slice-from.is in
    let some = sym (c.contact_verdict.ensures contact at) ∙ ap result_err c.in-Err.is in
    c.in_ok-push-in-Err.ensures.items
    ∙ ap (λ s. old ++ Withheld s ∷ []) c.suppression.ensures
    ∙ ap (λ xs. old ++ xs) (sym (refused config m k contact c.in-Err.filter at some))

pub returns-in_ok-add_on_lanes-in-Ok-clause-passes : goal.returns-in_ok-add_on_lanes-in-Ok-clause-passes
returns-in_ok-add_on_lanes-in-Ok-clause-passes c =
    let config = c.args.config.now in
    let contact = c.index-as_slice-from.result in
    let at = read_at config.contacts c.as_slice.result.now c.args.contact.0 c.from.result contact c.as_slice.ensures c.from.ensures c.requires.contact c.index-as_slice-from.is in
    sym (passes_none config c.args.message.now c.args.contact.0 contact at (sym (c.contact_verdict.ensures contact at) ∙ ap result_err c.in-Ok.is))

pub returns-in_ok-push-in-Err-clause-passes : goal.returns-in_ok-push-in-Err-clause-passes
returns-in_ok-push-in-Err-clause-passes c =
    let config = c.args.config.now in
    let contact = c.index-as_slice-from.result in
    let at = read_at config.contacts c.as_slice.result.now c.args.contact.0 c.from.result contact c.as_slice.ensures c.from.ensures c.requires.contact c.index-as_slice-from.is in
    sym (passes_some config c.args.message.now c.args.contact.0 contact c.in-Err.filter at (sym (c.contact_verdict.ensures contact at) ∙ ap result_err c.in-Err.is))
