use Rattle.std.proofs.Common.{◌≡◌, Some, map, rules, subst}
use Rattle.channel_words.specs.Lanes.{AreLanesOf, lane_named, names_of}
use Rattle.channel_words.specs.Words.{AreRead}
use Rattle.run_devices.specs.Channels.{asked, opened}
use Rattle.run_resumed.proofs.FaultLaws.{are_opened, are_right, each_opened, numbered_asked, opened_by, right_fails}
use Rattle.run_resumed.proofs.TiedLaws.{opened_unused}
use Rattle.run_resumed.proofs.ready.ready_run.Goals as goal

pub returns-in_default-clause-fault : goal.returns-in_default-clause-fault
returns-in_default-clause-fault c = search rules

pub returns-in_err-config-clause-fault : goal.returns-in_err-config-clause-fault
returns-in_err-config-clause-fault c = search rules

pub returns-in_err-kept-clause-fault : goal.returns-in_err-kept-clause-fault
returns-in_err-kept-clause-fault c =
    let checks = c.in_ok-config.ensures.checked in
    let read = subst (λ texts. AreRead (map (λ text. text.now) texts) c.in_ok-read.read.items) c.texts_of.ensures c.in_ok-read.ensures.ok in
    let right = are_right _ _ c.in_ok-read.read.items _ c.in_ok-config.config c.in_ok-config.lanes.items read checks.accepted checks.by c.deref.ensures.value checks.lanes_are in
    let fails = right_fails _ _ c.in_err-kept.field-0.0 c.in_ok-config.config c.in_ok-config.lanes.items right c.in_err-kept.ensures.fault in
    search rules

pub returns-in_err-unchanged-clause-fault : goal.returns-in_err-unchanged-clause-fault
returns-in_err-unchanged-clause-fault c =
    let checks = c.in_ok-config.ensures.checked in
    let read = subst (λ texts. AreRead (map (λ text. text.now) texts) c.in_ok-read.read.items) c.texts_of.ensures c.in_ok-read.ensures.ok in
    let right = are_right _ _ c.in_ok-read.read.items _ c.in_ok-config.config c.in_ok-config.lanes.items read checks.accepted checks.by c.deref.ensures.value checks.lanes_are in
    let fails = right_fails _ _ c.in_err-unchanged.field-0.0 c.in_ok-config.config c.in_ok-config.lanes.items right c.in_err-unchanged.ensures.fault in
    search rules

pub returns-in_err-opened-clause-fault : goal.returns-in_err-opened-clause-fault
returns-in_err-opened-clause-fault c = search rules

pub returns-clause-right : goal.returns-clause-right
returns-clause-right c =
    let checks = c.in_ok-config.ensures.checked in
    let read = subst (λ texts. AreRead (map (λ text. text.now) texts) c.in_ok-read.read.items) c.texts_of.ensures c.in_ok-read.ensures.ok in
    opened_by
    (are_opened _ _ c.in_ok-read.read.items _ c.in_ok-config.config c.in_ok-config.lanes.items _ read checks.accepted checks.by c.deref.ensures.value checks.lanes_are
    (numbered_asked 0 c.in_ok-opened.opened.items c.in_ok-read.read.items
    (subst (λ words. map opened c.in_ok-opened.opened.items ≡ map (asked 0) words) c.deref-2.ensures.value c.in_ok-opened.ensures.opened)))
    c.in_ok-config-2.ensures.ok

pub returns-clause-each : goal.returns-clause-each
returns-clause-each c =
    let checks = c.in_ok-config.ensures.checked in
    let lanes_are = subst (λ words. AreLanesOf c.in_ok-config.config (names_of words) c.in_ok-config.lanes.items) c.deref.ensures.value checks.lanes_are in
    each_opened opened (asked 0) (λ word. word.name.now) (lane_named c.in_ok-config.config) (λ lane. Some lane.0) c.in_ok-opened.opened.items c.in_ok-read.read.items c.in_ok-config.lanes.items
    (subst (λ words. map opened c.in_ok-opened.opened.items ≡ map (asked 0) words) c.deref-2.ensures.value c.in_ok-opened.ensures.opened) lanes_are.each

pub returns-clause-unused : goal.returns-clause-unused
returns-clause-unused c = opened_unused c.in_ok-opened.opened.items _ c.in_ok-opened.ensures.opened
