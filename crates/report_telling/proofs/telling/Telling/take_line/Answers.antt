use Rattle.std.proofs.Common.{◌≡◌, List, ◌∷◌, ◌++◌, [], cond, None, Ok, Some, refl, rules, ap, ◌∙◌}
use Rattle.std.proofs.lemmas.Option.{IfSome_then}
use Rattle.std.proofs.lemmas.Result.{IfOk-weaker}
use Rattle.decider.specs.claims.Fits.{core_kept}
use Rattle.event_feed.specs.claims.Feed.{Answer, AreGivenBy, refusal}
use Rattle.event_feed.specs.FeedLaws.{event_answers, fault_given, fault_last, next_given, none_given}
use Rattle.written.specs.WrittenLaws.{front_none, front_same, leaves_nothing, leaves_same}
use Rattle.replay.specs.claims.Report.{is_ended, past_after}
use Rattle.line_forms.specs.declared.report_line.ReportLine.{ReportLine}
use Rattle.report_telling.specs.Lines.{answer_lines, given_lines, lines_from, refusal_line}
use Rattle.report_telling.specs.Telling.{TellsPart}
use Rattle.report_telling.specs.Told.{Form, after_all, form_of, told_all}
use Rattle.report_telling.specs.ToldLaws.{told-one}
use Rattle.report_telling.proofs.ToldLaws.{part_begun}
use Rattle.report_telling.specs.FollowLaws.{event_taken, fault_taken, if_none, lines_of_event, report_of_end, short_at_end, short_at_refusal, taken_same}
use Rattle.report_telling.proofs.telling.Telling.take_line.Given.{Over}
use Rattle.report_telling.proofs.telling.Telling.take_line.Goals.{After-decide_event, After-tell}
use Rattle.report_telling.proofs.telling.Telling.take_line.Goals as goal

pub returns-in-Ok-None-clause-ends : goal.returns-in-Ok-None-clause-ends
returns-in-Ok-None-clause-ends g c =
    let gives = rw c.in-Ok-None.field-0-is at c.in-Ok-None.ensures.none in
    record { each = λ past s. ([], none_given g.R.Input.can_fail c.args.self.now.config.now.objects c.args.self.now.feeder c.next.new.self gives.answers, refl, leaves_nothing _ _, refl) }

pub returns-in-Ok-None-clause-front : goal.returns-in-Ok-None-clause-front
returns-in-Ok-None-clause-front g c =
    let gives = rw c.in-Ok-None.field-0-is at c.in-Ok-None.ensures.none in
    record { each = λ past s. ([], none_given g.R.Input.can_fail c.args.self.now.config.now.objects c.args.self.now.feeder c.next.new.self gives.answers, front_none _ _) }

-- the answer of an event
abbrev answer_of : (g : Over) → After-decide_event g → Answer
answer_of g c = record { line = c.line-line.result; given = Ok c.in-Ok-Some.event }

-- and what is given of the feed with it
more : (g : Over) (c : After-decide_event g) → (others : List Answer) × AreGivenBy g.R.Input.can_fail c.args.self.now.config.now.objects c.args.self.now.feeder (answer_of g c ∷ others)
more g c =
    let gives = rw c.in-Ok-Some.field-0-is at c.in-Ok-Some.ensures.event in
    let config = c.args.self.now.config.now in
    next_given g.R.Input.can_fail config.objects c.args.self.now.feeder c.next.new.self (answer_of g c)
    (event_answers config c.args.self.now.feeder c.next.new.self c.in-Ok-Some.event c.line-line.result c.line-line.ensures gives)

pub returns-in-Ok-Some-clause-goes_on : goal.returns-in-Ok-Some-clause-goes_on
returns-in-Ok-Some-clause-goes_on g c =
    let gives = rw c.in-Ok-Some.field-0-is at c.in-Ok-Some.ensures.event in
    let event = c.in-Ok-Some.event in
    let config = c.args.self.now.config.now in
    let zone = c.args.self.now.clock in
    let line = c.line-line.result in
    let here = (goal.at.returns-in-Ok-Some-clause-goes_on g c).After-decide_event in
    let answer = answer_of g here in
    IfOk-weaker c.decide_event.result _ _
    (λ ended. if_none _ _ ended (λ on. record {
      each = λ past s.
          let now = on past s in
          let lines = lines_of_event config zone past line event now.0 in (
            answer,
            taken_same config.objects past c.args.self.now.feeder answer c.next.new.self c.decide_event.new.self.feeder c.decide_event.ensures.feed
                (event_taken config past c.args.self.now.feeder c.next.new.self event line c.line-line.ensures now.0 gives),
            now.1,
            leaves_same _ _ c.args.self.now.lines.buffer _ _ _ (ap (λ (xs : List ReportLine). told_all (form_of g.T.Teller.told g.T.Teller.after g.T.Teller.ended c.args.self.now.config.now c.args.self.now.clock) c.args.self.now.lines.teller xs) lines) now.2,
            now.3 ∙ ap (λ (xs : List ReportLine). after_all (form_of g.T.Teller.told g.T.Teller.after g.T.Teller.ended c.args.self.now.config.now c.args.self.now.clock) c.args.self.now.lines.teller xs) lines,
          );
    }))
    (rw c.in-Ok-Some.field-0-is at c.decide_event.ensures.goes_on)

pub returns-in-Ok-Some-clause-ends : goal.returns-in-Ok-Some-clause-ends
returns-in-Ok-Some-clause-ends g c =
    let here = (goal.at.returns-in-Ok-Some-clause-ends g c).After-decide_event in
    let answer = answer_of g here in
    let more = more g here in
    let config = c.args.self.now.config.now in
    let zone = c.args.self.now.clock in
    let teller = c.args.self.now.lines.teller in
    IfOk-weaker c.decide_event.result _ _
    (λ ended found. IfSome_then ended found (λ ending at. record {
      each = λ past s.
          let now = at past s in
          let lines = report_of_end config zone past answer more.0 now.0 in (
            answer ∷ more.0,
            more.1,
            now.1 ∙ short_at_end past answer more.0 now.0,
            leaves_same _ _ c.args.self.now.lines.buffer _ _ _ (told-one (form_of g.T.Teller.told g.T.Teller.after g.T.Teller.ended c.args.self.now.config.now c.args.self.now.clock) teller _ ∙ ap (λ (xs : List ReportLine). told_all (form_of g.T.Teller.told g.T.Teller.after g.T.Teller.ended c.args.self.now.config.now c.args.self.now.clock) teller xs) lines) now.2,
            now.3 ∙ ap (λ (xs : List ReportLine). after_all (form_of g.T.Teller.told g.T.Teller.after g.T.Teller.ended c.args.self.now.config.now c.args.self.now.clock) teller xs) lines,
          );
    }))
    c.decide_event.ensures.ends

pub returns-in-Ok-Some-clause-front : goal.returns-in-Ok-Some-clause-front
returns-in-Ok-Some-clause-front g c =
    let here = (goal.at.returns-in-Ok-Some-clause-front g c).After-decide_event in
    let config = c.args.self.now.config.now in
    let zone = c.args.self.now.clock in
    let answer = answer_of g here in
    let more = more g here in
    let front = rw c.in-Ok-Some.field-0-is at c.decide_event.ensures.front in
    record {
      each = λ past s. (
        answer ∷ more.0,
        more.1,
        part_begun (form_of g.T.Teller.told g.T.Teller.after g.T.Teller.ended c.args.self.now.config.now c.args.self.now.clock) c.args.self.now.lines.teller _ _ c.args.self.now.lines.buffer (answer_lines config zone past answer)
            (cond (is_ended past answer.given) [] (lines_from config zone (past_after past answer.given) more.0)) (front past s),
      );
    }

-- a front of a refusal
refused : (g : Over) (c : After-tell g) → TellsPart (form_of g.T.Teller.told g.T.Teller.after g.T.Teller.ended) g.R.Input.can_fail c.args.self.now.config.now c.args.self.now.clock (core_kept c.args.self.now.decider) c.args.self.now.feeder
    c.args.self.now.lines.teller (g.W.Write.contents c.args.writer.now) c.args.self.now.lines.buffer (g.W.Write.contents c.tell.new.writer)
refused g c =
    let fault = c.in-Err.refusal in
    let config = c.args.self.now.config.now in
    let zone = c.args.self.now.clock in
    let teller = c.args.self.now.lines.teller in
    let buffer = c.args.self.now.lines.buffer in
    let form = form_of g.T.Teller.told g.T.Teller.after g.T.Teller.ended config zone in
    let more = fault_given g.R.Input.can_fail config.objects c.args.self.now.feeder c.next.new.self fault c.in-Err.ensures.fault c.in-Err.ensures.last in
    let line = refusal_line fault.line fault.fault in
    record {
      each = λ past s. (
        refusal fault ∷ more.0,
        more.1,
        part_begun form teller _ _ buffer (line ∷ []) (lines_from config zone past more.0)
            (front_same _ _ buffer buffer _ _ refl (told-one form teller line) c.tell.ensures.front),
      );
    }

pub returns-in_err-tell-in-Err-clause-front : goal.returns-in_err-tell-in-Err-clause-front
returns-in_err-tell-in-Err-clause-front g c = refused g (goal.at.returns-in_err-tell-in-Err-clause-front g c).After-tell

pub returns-in-None-clause-goes_on : goal.returns-in-None-clause-goes_on
returns-in-None-clause-goes_on g c =
    let fault = c.in-Err.refusal in
    let config = c.args.self.now.config.now in
    let zone = c.args.self.now.clock in
    let teller = c.args.self.now.lines.teller in
    let form = form_of g.T.Teller.told g.T.Teller.after g.T.Teller.ended config zone in
    let stopped : c.next.new.self.stop ≡ None = search rules in
    record {
      each = λ past s. (
        refusal fault,
        fault_taken config.objects past c.args.self.now.feeder c.next.new.self fault stopped c.in-Err.ensures.fault,
        s,
        leaves_same _ _ c.args.self.now.lines.buffer _ _ _ (told-one form teller (refusal_line fault.line fault.fault)) c.in_ok-tell-in-Err.ensures.ok,
        c.in_ok-tell-in-Err.ensures.after,
      );
    }

pub returns-in-None-clause-front : goal.returns-in-None-clause-front
returns-in-None-clause-front g c = refused g (goal.at.returns-in-None-clause-front g c).After-tell

pub returns-in-Some-clause-ends : goal.returns-in-Some-clause-ends
returns-in-Some-clause-ends g c =
    let fault = c.in-Err.refusal in
    let config = c.args.self.now.config.now in
    let zone = c.args.self.now.clock in
    let teller = c.args.self.now.lines.teller in
    let form = form_of g.T.Teller.told g.T.Teller.after g.T.Teller.ended config zone in
    let stopped : c.next.new.self.stop ≡ Some c.in-Some.field-0 = search rules in
    let last = fault_last g.R.Input.can_fail config.objects c.args.self.now.feeder c.next.new.self fault c.in-Some.field-0 stopped c.in-Err.ensures.fault c.in-Err.ensures.last in
    record {
      each = λ past s. (
        refusal fault ∷ [],
        last.0,
        short_at_refusal past fault last.1,
        leaves_same _ _ c.args.self.now.lines.buffer _ _ _ (told-one form teller (refusal_line fault.line fault.fault)) c.in_ok-tell-in-Err.ensures.ok,
        c.in_ok-tell-in-Err.ensures.after,
      );
    }

pub returns-in-Some-clause-front : goal.returns-in-Some-clause-front
returns-in-Some-clause-front g c = refused g (goal.at.returns-in-Some-clause-front g c).After-tell
