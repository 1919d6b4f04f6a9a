use Rattle.std.proofs.Common.{◌≡◌, ◌∙◌, List, Bool, ap, false, refl, replicate}
use Rattle.std.specs.Prelude.{codes}
use Rattle.std.proofs.lemmas.List.{take_at}
use Rattle.std.proofs.lemmas.Result.{IfOk-weaker}
use Rattle.object_contacts.specs.claims.Lanes.{IsUsed}
use Rattle.object_contacts.specs.Marks.{marked}
use Rattle.object_contacts.proofs.LaneLemmas.{lanes-are, marks-moved, used-for}
use Rattle.object_contacts.proofs.lanes.lanes_of.Goals as goal

pub returns : goal.returns
returns c =
    let blocks = c.args.templates.now in
    let hosts = codes "host_notification_commands" in
    let services = codes "service_notification_commands" in
    let names = c.names-names.result.now in
    let places = c.places-places.result.now in
    let first : c.as_mut_slice.result.now ≡ replicate c.len.result false = c.as_mut_slice.ensures.value ∙ c.in_ok-marks.ensures.items_if_clones_equal (λ y is. is) in
    let second : c.as_mut_slice-2.result.now ≡ c.mark_used_for.new.marks =
    c.as_mut_slice-2.ensures.value ∙ take_at c.mark_used_for.new.marks _ c.in_ok-marks.marks.len (c.mark_used_for.ensures.long ∙ c.as_mut_slice.ensures.len) in
    let third : c.as_slice.result.now ≡ c.mark_used_for-2.new.marks =
    c.as_slice.ensures.value ∙ take_at c.mark_used_for-2.new.marks _ c.in_ok-marks.marks.len (c.mark_used_for-2.ensures.long ∙ c.as_mut_slice-2.ensures.len) in
    IfOk-weaker c.marked_numbers.result _ _
    (λ numbers are. lanes-are blocks c.len.result c.as_mut_slice.result.now c.mark_used_for.new.marks c.mark_used_for-2.new.marks numbers.items first
    (used-for blocks hosts c.in_ok-hosts.hosts c.args.contacts.now c.args.commands.now names places c.as_mut_slice.result.now c.mark_used_for.new.marks
    c.as_bytes.result.now c.in_ok-hosts.ensures c.as_bytes.ensures.value c.requires.contacts c.requires.commands c.names-names.ensures.names c.places-places.ensures.places
    c.in_ok-mark_used_for.ensures.marked)
    (marks-moved (IsUsed blocks services) c.as_mut_slice-2.result.now c.mark_used_for.new.marks c.mark_used_for-2.new.marks c.mark_used_for-2.new.marks second refl
    (used-for blocks services c.in_ok-services.services c.args.contacts.now c.args.commands.now names places c.as_mut_slice-2.result.now c.mark_used_for-2.new.marks
    c.as_bytes-2.result.now c.in_ok-services.ensures c.as_bytes-2.ensures.value c.requires.contacts c.requires.commands c.names-names.ensures.names c.places-places.ensures.places
    c.in_ok-mark_used_for-2.ensures.marked))
    (are ∙ ap (λ (marks : List Bool). marked marks) third))
    c.marked_numbers.ensures
