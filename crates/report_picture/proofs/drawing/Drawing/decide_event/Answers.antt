use Rattle.std.proofs.Common.{◌≡◌, ◌++◌, Err, List, length, map, true, false, Ok, refl, sym, ap, subst, ◌∙◌}
use Rattle.std.proofs.lemmas.Bool.{eq-eqb, ne_eqb}
use Rattle.lemmas.proofs.Results.{ok_is_no_fault}
use Rattle.due_model.specs.declared.config.Config.{Config}
use Rattle.due_model.specs.declared.zone.Zone.{Zone}
use Rattle.due_model.specs.claims.Limits.{max_events}
use Rattle.due_model.specs.claims.Proper.{IsProper}
use Rattle.messages.specs.declared.entries.Entry.{Entry}
use Rattle.decider.specs.declared.share.Share.{Share}
use Rattle.messages.specs.claims.Entries.{event_entries}
use Rattle.night_marks.specs.declared.night.Night.{Night}
use Rattle.night_marks.specs.Night.{heard_event, told_entries}
use Rattle.replay.specs.claims.Report.{is_ended}
use Rattle.line_forms.specs.declared.report_line.ReportLine.TheVariants.{Decided}
use Rattle.report_telling.specs.Told.{after_all, form_of, told_all}
use Rattle.report_picture.proofs.drawing.Drawing.decide_event.Goals as goal

pub decide-requires-clause-proper : goal.decide-requires-clause-proper
decide-requires-clause-proper g c =
    subst (λ (config : Config). IsProper config c.args.event) (sym (ap (λ (t : Config × Zone × Share). t.0) c.args.self.now.settings)) c.requires.proper

pub returns-in_ok-tell-in-Ok-clause-goes_on : goal.returns-in_ok-tell-in-Ok-clause-goes_on
returns-in_ok-tell-in-Ok-clause-goes_on g c = λ past s.
    let config = c.args.self.now.config.now in
    let zone = c.args.self.now.clock in
    let teller = c.args.self.now.teller in
    let text = c.args.self.now.text.items in
    let form = form_of g.T.Teller.told g.T.Teller.after g.T.Teller.ended config zone in
    let set = c.args.self.now.settings in
    let on : is_ended past (Ok c.args.event) ≡ false = ne_eqb (length past) max_events (λ at. ok_is_no_fault _ _ ((c.in-Ok.ensures.ended past s).1 at)) in
    let entries : c.entries-entries.result.now ≡ event_entries config zone c.args.event past =
    c.entries-entries.ensures ∙ c.in-Ok.ensures.all past s (ap (λ (t : Config × Zone × Share). t.2.deciders) set)
    ∙ ap (λ (t : Config × Zone × Share). event_entries t.0 t.1 c.args.event past) set in
    let told = rw c.move_to.ensures at c.in_ok-tell_entries-in-Ok.ensures.text in
    let after = rw c.move_to.ensures at c.in_ok-tell_entries-in-Ok.ensures.teller in
    let heard : c.hear.new.self ≡ heard_event c.args.self.now.night c.args.event = c.in_ok-hear-in-Ok.ensures in (
      on,
      c.in-Ok.ensures.fits past s,
      told ∙ ap (λ (es : List Entry). text ++ told_all form teller (map Decided es)) entries,
      after ∙ ap (λ (es : List Entry). after_all form teller (map Decided es)) entries,
      c.in_ok-tell-in-Ok.ensures ∙ ap (λ (n : Night). told_entries n c.entries-entries.result.now) heard
          ∙ ap (λ (es : List Entry). told_entries (heard_event c.args.self.now.night c.args.event) es) entries,
    )

pub returns-in_ok-refuse-in-Err-Ended-clause-ends : goal.returns-in_ok-refuse-in-Err-Ended-clause-ends
returns-in_ok-refuse-in-Err-Ended-clause-ends g c = λ past s.
    let ended : is_ended past (Ok c.args.event) ≡ true = eq-eqb (length past) max_events ((c.in-Err-Ended.ensures.ended past s).0 (ap Err c.in-Err-Ended.field-0-is)) in
    let told = rw c.move_to.ensures at c.in_ok-refuse-in-Err-Ended.ensures.text in
    let after = rw c.move_to.ensures at c.in_ok-refuse-in-Err-Ended.ensures.teller in
    (ended, refl, told, after, c.refuse.ensures.night)
