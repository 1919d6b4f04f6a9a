use Rattle.std.proofs.Common.{◌≡◌, ◌∷◌, [], ◌++◌, Err, List, length, map, true, false, Ok, refl, sym, ap, subst, ◌∙◌}
use Rattle.std.proofs.lemmas.Bool.{eq-eqb, ne_eqb}
use Rattle.lemmas.proofs.Results.{ok_is_no_fault}
use Rattle.due_model.specs.declared.config.Config.{Config}
use Rattle.due_model.specs.declared.event.Event.{Event}
use Rattle.due_model.specs.declared.zone.Zone.{Zone}
use Rattle.due_model.specs.claims.Limits.{max_events}
use Rattle.due_model.specs.claims.Proper.{IsProper}
use Rattle.event_feed.specs.declared.fault.FeedFault.TheVariants.{Ended}
use Rattle.messages.specs.declared.entries.Entry.{Entry}
use Rattle.decider.specs.declared.share.Share.{Share}
use Rattle.decider.specs.claims.Fits.{Fits, core_kept}
use Rattle.messages.specs.claims.Entries.{event_entries}
use Rattle.written.specs.claims.Written.{WritesFront}
use Rattle.written.specs.WrittenLaws.{front_longer, front_same, leaves_same}
use Rattle.replay.specs.claims.Report.{is_ended}
use Rattle.line_forms.specs.declared.report_line.ReportLine.{ReportLine}
use Rattle.line_forms.specs.declared.report_line.ReportLine.TheVariants.{Decided}
use Rattle.report_telling.specs.Lines.{answer_lines, given_lines, refusal_line}
use Rattle.report_telling.specs.Told.{Form, after_all, form_of, told_all}
use Rattle.report_telling.specs.ToldLaws.{told-one}
use Rattle.report_telling.specs.FollowLaws.{lines_of_end, lines_of_event}
use Rattle.report_telling.proofs.telling.Telling.decide_event.Given.{Over}
use Rattle.report_telling.proofs.telling.Telling.decide_event.Goals.{After-tell, After-tell_entries}
use Rattle.report_telling.proofs.telling.Telling.decide_event.Goals as goal

pub decide-requires-clause-proper : goal.decide-requires-clause-proper
decide-requires-clause-proper g c =
    subst (λ (config : Config). IsProper config c.args.event) (sym (ap (λ (t : Config × Zone × Share). t.0) c.args.self.now.settings)) c.requires.proper

-- an event that is decided can be numbered, and its entries are the definition's
decided : (g : Over) (c : After-tell_entries g) (past : List Event) → Fits (core_kept c.args.self.now.decider) past
    → (is_ended past (Ok c.args.event) ≡ false) × (c.entries-entries.result.now ≡ event_entries c.args.self.now.config.now c.args.self.now.clock c.args.event past)
decided g c past s =
    let set = c.args.self.now.settings in (
      ne_eqb (length past) max_events (λ at. ok_is_no_fault _ _ ((c.in-Ok.ensures.ended past s).1 at)),
      c.entries-entries.ensures ∙ c.in-Ok.ensures.all past s (ap (λ (t : Config × Zone × Share). t.2.deciders) set)
          ∙ ap (λ (t : Config × Zone × Share). event_entries t.0 t.1 c.args.event past) set,
    )

decided_front : (g : Over) (c : After-tell_entries g) (past : List Event) → Fits (core_kept c.args.self.now.decider) past
    → WritesFront (g.W.Write.contents c.args.writer.now) (g.W.Write.contents c.tell_entries.new.writer)
    (c.args.self.now.lines.buffer ++ told_all (form_of g.T.Teller.told g.T.Teller.after g.T.Teller.ended c.args.self.now.config.now c.args.self.now.clock) c.args.self.now.lines.teller
    (answer_lines c.args.self.now.config.now c.args.self.now.clock past (record { line = c.args.line; given = Ok c.args.event })))
decided_front g c past s =
    let is = decided g c past s in
    let config = c.args.self.now.config.now in
    let zone = c.args.self.now.clock in
    let form = form_of g.T.Teller.told g.T.Teller.after g.T.Teller.ended config zone in
    let front = rw c.move_to.ensures at c.tell_entries.ensures.front in
    front_same _ _ c.args.self.now.lines.buffer c.args.self.now.lines.buffer _ _ refl
    (ap (λ (entries : List Entry). told_all form c.args.self.now.lines.teller (map Decided entries)) is.1
    ∙ ap (λ (xs : List ReportLine). told_all form c.args.self.now.lines.teller xs) (lines_of_event config zone past c.args.line c.args.event is.0))
    front

pub returns-in_err-tell_entries-in-Ok-clause-front : goal.returns-in_err-tell_entries-in-Ok-clause-front
returns-in_err-tell_entries-in-Ok-clause-front g c = decided_front g (goal.at.returns-in_err-tell_entries-in-Ok-clause-front g c).After-tell_entries

pub returns-in_ok-tell_entries-in-Ok-clause-front : goal.returns-in_ok-tell_entries-in-Ok-clause-front
returns-in_ok-tell_entries-in-Ok-clause-front g c = decided_front g (goal.at.returns-in_ok-tell_entries-in-Ok-clause-front g c).After-tell_entries

pub returns-in_ok-tell_entries-in-Ok-clause-goes_on : goal.returns-in_ok-tell_entries-in-Ok-clause-goes_on
returns-in_ok-tell_entries-in-Ok-clause-goes_on g c = λ past s.
    let is = decided g (goal.at.returns-in_ok-tell_entries-in-Ok-clause-goes_on g c).After-tell_entries past s in
    let form = form_of g.T.Teller.told g.T.Teller.after g.T.Teller.ended c.args.self.now.config.now c.args.self.now.clock in
    let told = rw c.move_to.ensures at c.in_ok-tell_entries-in-Ok.ensures.ok in
    let after = rw c.move_to.ensures at c.in_ok-tell_entries-in-Ok.ensures.after in (
      is.0,
      c.in-Ok.ensures.fits past s,
      leaves_same _ _ c.args.self.now.lines.buffer _ _ _ (ap (λ (entries : List Entry). told_all form c.args.self.now.lines.teller (map Decided entries)) is.1) told,
      after ∙ ap (λ (entries : List Entry). after_all form c.args.self.now.lines.teller (map Decided entries)) is.1,
    )

-- a front of the refusal of one that can't be numbered
ended_front : (g : Over) (c : After-tell g) (past : List Event) → Fits (core_kept c.args.self.now.decider) past
    → WritesFront (g.W.Write.contents c.args.writer.now) (g.W.Write.contents c.tell.new.writer)
    (c.args.self.now.lines.buffer ++ told_all (form_of g.T.Teller.told g.T.Teller.after g.T.Teller.ended c.args.self.now.config.now c.args.self.now.clock) c.args.self.now.lines.teller
    (answer_lines c.args.self.now.config.now c.args.self.now.clock past (record { line = c.args.line; given = Ok c.args.event })))
ended_front g c past s =
    let ended : is_ended past (Ok c.args.event) ≡ true = eq-eqb (length past) max_events ((c.in-Err-Ended.ensures.ended past s).0 (ap Err c.in-Err-Ended.field-0-is)) in
    let form = form_of g.T.Teller.told g.T.Teller.after g.T.Teller.ended c.args.self.now.config.now c.args.self.now.clock in
    let front = rw c.move_to.ensures at c.tell.ensures.front in
    front_same _ _ c.args.self.now.lines.buffer c.args.self.now.lines.buffer _ _ refl
    (told-one form c.args.self.now.lines.teller (refusal_line c.args.line Ended)
    ∙ ap (λ (xs : List ReportLine). told_all form c.args.self.now.lines.teller xs) (lines_of_end c.args.self.now.config.now c.args.self.now.clock past c.args.line c.args.event ended)) front

pub returns-in_err-tell-in-Err-Ended-clause-front : goal.returns-in_err-tell-in-Err-Ended-clause-front
returns-in_err-tell-in-Err-Ended-clause-front g c = ended_front g (goal.at.returns-in_err-tell-in-Err-Ended-clause-front g c).After-tell

pub returns-in_ok-tell-in-Err-Ended-clause-front : goal.returns-in_ok-tell-in-Err-Ended-clause-front
returns-in_ok-tell-in-Err-Ended-clause-front g c = ended_front g (goal.at.returns-in_ok-tell-in-Err-Ended-clause-front g c).After-tell

pub returns-in-Err-NoMemory-clause-front : goal.returns-in-Err-NoMemory-clause-front
returns-in-Err-NoMemory-clause-front g c = λ past s. front_longer _ _ c.args.self.now.lines.buffer _ c.out_of_memory.ensures.front
