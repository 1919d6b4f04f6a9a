use Rattle.std.proofs.Common.{◌≡◌, Some, map, rules, subst}
use Rattle.channel_words.specs.Lanes.{AreLanesOf, lane_named, names_of}
use Rattle.channel_words.specs.Words.{AreRead}
use Rattle.run_devices.specs.Channels.{asked, opened}
use Rattle.run_devices.proofs.PostLaws.{each_opened, numbered_asked}
use Rattle.run_devices.proofs.run.open_words.Goals as goal

pub returns-in_default-clause-fault : goal.returns-in_default-clause-fault
returns-in_default-clause-fault c = search rules

pub returns-in_err-config-clause-fault : goal.returns-in_err-config-clause-fault
returns-in_err-config-clause-fault c = search rules

pub returns-in_err-opened-clause-fault : goal.returns-in_err-opened-clause-fault
returns-in_err-opened-clause-fault c = search rules

pub returns-clause-right : goal.returns-clause-right
returns-clause-right c =
    let checks = c.in_ok-config.ensures.checked in
    record {
      right = record {
        words = c.in_ok-words.words.items;
        read = subst (λ texts. AreRead (map (λ text. text.now) texts) c.in_ok-words.words.items) c.texts_of.ensures c.in_ok-words.ensures.ok;
        accepted = checks.accepted;
        by = checks.by;
        lanes_are = subst (λ words. AreLanesOf c.in_ok-config.config (names_of words) c.in_ok-config.lanes.items) c.deref.ensures.value checks.lanes_are;
      };
      each = numbered_asked 0 c.in_ok-opened.opened.items c.in_ok-words.words.items
          (subst (λ words. map opened c.in_ok-opened.opened.items ≡ map (asked 0) words) c.deref-2.ensures.value c.in_ok-opened.ensures.opened);
    }

pub returns-clause-each : goal.returns-clause-each
returns-clause-each c =
    let checks = c.in_ok-config.ensures.checked in
    let lanes_are = subst (λ words. AreLanesOf c.in_ok-config.config (names_of words) c.in_ok-config.lanes.items) c.deref.ensures.value checks.lanes_are in
    each_opened opened (asked 0) (λ word. word.name.now) (lane_named c.in_ok-config.config) (λ lane. Some lane.0) c.in_ok-opened.opened.items c.in_ok-words.words.items c.in_ok-config.lanes.items
    (subst (λ words. map opened c.in_ok-opened.opened.items ≡ map (asked 0) words) c.deref-2.ensures.value c.in_ok-opened.ensures.opened) lanes_are.each
