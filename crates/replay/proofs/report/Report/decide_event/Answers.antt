use Rattle.std.proofs.Common.{◌≡◌, ◌++◌, Err, List, length, true, false, Ok, refl, sym, ap, subst, ◌∙◌}
use Rattle.std.proofs.lemmas.Bool.{eq-eqb, ne_eqb}
use Rattle.lemmas.proofs.Results.{ok_is_no_fault}
use Rattle.due_model.specs.declared.config.Config.{Config}
use Rattle.due_model.specs.declared.event.Event.{Event}
use Rattle.due_model.specs.declared.zone.Zone.{Zone}
use Rattle.due_model.specs.claims.Limits.{max_events}
use Rattle.due_model.specs.claims.Proper.{IsProper}
use Rattle.messages.specs.declared.entries.Entry.{Entry}
use Rattle.decider.specs.declared.share.Share.{Share}
use Rattle.decider.specs.claims.Fits.{Fits, core_kept}
use Rattle.messages.specs.claims.Entries.{event_entries}
use Rattle.command_output.specs.claims.OutputLine.{entries_text}
use Rattle.written.specs.claims.Written.{WritesFront}
use Rattle.replay.specs.claims.Report.{answer_text, is_ended}
use Rattle.replay.proofs.ReportLaws.{event_text, text_of_end}
use Rattle.written.specs.WrittenLaws.{front_longer, front_same, leaves_same}
use Rattle.replay.proofs.report.Report.decide_event.Given.{Over}
use Rattle.replay.proofs.report.Report.decide_event.Goals.{After-write, After-write_entries}
use Rattle.replay.proofs.report.Report.decide_event.Goals as goal

pub decide-requires-clause-proper : goal.decide-requires-clause-proper
decide-requires-clause-proper g c =
    subst (λ (config : Config). IsProper config c.args.event) (sym (ap (λ (t : Config × Zone × Share). t.0) c.args.self.now.settings)) c.requires.proper

-- an event that is decided can be numbered, and its entries are the definition's
decided : (g : Over) (c : After-write_entries g) (past : List Event) → Fits (core_kept c.args.self.now.decider) past
    → (is_ended past (Ok c.args.event) ≡ false) × (c.entries-entries.result.now ≡ event_entries c.args.self.now.config.now c.args.self.now.zone.now c.args.event past)
decided g c past s =
    let set = c.args.self.now.settings in (
      ne_eqb (length past) max_events (λ at. ok_is_no_fault _ _ ((c.in-Ok.ensures.ended past s).1 at)),
      c.entries-entries.ensures ∙ c.in-Ok.ensures.all past s (ap (λ (t : Config × Zone × Share). t.2.deciders) set)
          ∙ ap (λ (t : Config × Zone × Share). event_entries t.0 t.1 c.args.event past) set,
    )

decided_front : (g : Over) (c : After-write_entries g) (past : List Event) → Fits (core_kept c.args.self.now.decider) past
    → WritesFront (g.W.Write.contents c.args.writer.now) (g.W.Write.contents c.write_entries.new.writer)
    (c.args.self.now.lines ++ answer_text c.args.self.now.config.now c.args.self.now.zone.now past (record { line = c.args.line; given = Ok c.args.event }))
decided_front g c past s =
    let is = decided g c past s in
    front_same _ _ c.args.self.now.lines c.args.self.now.lines _ _ refl
    (event_text c.args.self.now.config.now c.args.self.now.zone.now past c.args.line c.args.event c.entries-entries.result.now is.1 is.0)
    c.write_entries.ensures.front

pub returns-in_err-write_entries-in-Ok-clause-front : goal.returns-in_err-write_entries-in-Ok-clause-front
returns-in_err-write_entries-in-Ok-clause-front g c = decided_front g (goal.at.returns-in_err-write_entries-in-Ok-clause-front g c).After-write_entries

pub returns-in_ok-write_entries-in-Ok-clause-front : goal.returns-in_ok-write_entries-in-Ok-clause-front
returns-in_ok-write_entries-in-Ok-clause-front g c = decided_front g (goal.at.returns-in_ok-write_entries-in-Ok-clause-front g c).After-write_entries

pub returns-in_ok-write_entries-in-Ok-clause-goes_on : goal.returns-in_ok-write_entries-in-Ok-clause-goes_on
returns-in_ok-write_entries-in-Ok-clause-goes_on g c = λ past s.
    let is = decided g (goal.at.returns-in_ok-write_entries-in-Ok-clause-goes_on g c).After-write_entries past s in (
      is.0,
      c.in-Ok.ensures.fits past s,
      leaves_same _ _ c.args.self.now.lines _ _ _ (ap (λ (entries : List Entry). entries_text c.args.self.now.config.now entries) is.1) c.in_ok-write_entries-in-Ok.ensures.ok,
    )

-- a front of the refusal of one that can't be numbered
ended_front : (g : Over) (c : After-write g) (past : List Event) → Fits (core_kept c.args.self.now.decider) past
    → WritesFront (g.W.Write.contents c.args.writer.now) (g.W.Write.contents c.write.new.writer)
    (c.args.self.now.lines ++ answer_text c.args.self.now.config.now c.args.self.now.zone.now past (record { line = c.args.line; given = Ok c.args.event }))
ended_front g c past s =
    let ended : is_ended past (Ok c.args.event) ≡ true = eq-eqb (length past) max_events ((c.in-Err-Ended.ensures.ended past s).0 (ap Err c.in-Err-Ended.field-0-is)) in
    front_same _ _ c.args.self.now.lines c.args.self.now.lines _ _ refl
    (text_of_end c.args.self.now.config.now c.args.self.now.zone.now past c.args.line c.args.event ended) c.write.ensures.front

pub returns-in_err-write-in-Err-Ended-clause-front : goal.returns-in_err-write-in-Err-Ended-clause-front
returns-in_err-write-in-Err-Ended-clause-front g c = ended_front g (goal.at.returns-in_err-write-in-Err-Ended-clause-front g c).After-write

pub returns-in_ok-write-in-Err-Ended-clause-front : goal.returns-in_ok-write-in-Err-Ended-clause-front
returns-in_ok-write-in-Err-Ended-clause-front g c = ended_front g (goal.at.returns-in_ok-write-in-Err-Ended-clause-front g c).After-write

pub returns-in-Err-NoMemory-clause-front : goal.returns-in-Err-NoMemory-clause-front
returns-in-Err-NoMemory-clause-front g c = λ past s. front_longer _ _ c.args.self.now.lines _ c.out_of_memory.ensures.front
