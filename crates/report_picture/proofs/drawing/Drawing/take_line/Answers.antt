use Rattle.std.proofs.Common.{◌≡◌, List, ◌∷◌, ◌++◌, [], cond, None, Ok, Some, refl, rules, ap, subst, sym, ◌∙◌}
use Rattle.std.proofs.lemmas.List.{append-nil}
use Rattle.std.proofs.lemmas.Option.{IfSome_then}
use Rattle.std.proofs.lemmas.Result.{IfOk-weaker}
use Rattle.decider.specs.claims.Fits.{Fits, core_kept}
use Rattle.event_feed.specs.claims.Feed.{Answer, AreGivenBy, refusal}
use Rattle.event_feed.specs.FeedLaws.{event_answers, fault_last, next_given, none_given}
use Rattle.line_forms.specs.declared.report_line.ReportLine.{ReportLine}
use Rattle.replay.specs.claims.Report.{past_after}
use Rattle.report_telling.specs.Lines.{refusal_line}
use Rattle.report_telling.specs.Told.{after_all, form_of, told_all}
use Rattle.report_telling.specs.ToldLaws.{told-one}
use Rattle.report_telling.specs.FollowLaws.{event_taken, fault_taken, if_none, lines_of_event, report_of_end, short_at_end, short_at_refusal, taken_same}
use Rattle.report_picture.specs.Nights.{night_given, night_on}
use Rattle.report_picture.proofs.drawing.Drawing.take_line.Given.{Over}
use Rattle.report_picture.proofs.drawing.Drawing.take_line.Goals.{After-decide_event}
use Rattle.report_picture.proofs.drawing.Drawing.take_line.Goals as goal

pub returns-in-Ok-None-clause-ends : goal.returns-in-Ok-None-clause-ends
returns-in-Ok-None-clause-ends g c =
    let gives = rw c.in-Ok-None.field-0-is at c.in-Ok-None.ensures.none in
    record { each = λ past s. ([], none_given g.R.Input.can_fail c.args.self.now.config.now.objects c.args.self.now.feeder c.next.new.self gives.answers, refl, sym (append-nil c.args.self.now.text.items), refl, refl) }

-- the answer of an event
abbrev answer_of : (g : Over) → After-decide_event g → Answer
answer_of g c = record { line = c.line-line.result; given = Ok c.in-Ok-Some.event }

-- and what is given of the feed with it
more : (g : Over) (c : After-decide_event g) → (others : List Answer) × AreGivenBy g.R.Input.can_fail c.args.self.now.config.now.objects c.args.self.now.feeder (answer_of g c ∷ others)
more g c =
    let gives = rw c.in-Ok-Some.field-0-is at c.in-Ok-Some.ensures.event in
    let config = c.args.self.now.config.now in
    next_given g.R.Input.can_fail config.objects c.args.self.now.feeder c.next.new.self (answer_of g c)
    (event_answers config c.args.self.now.feeder c.next.new.self c.in-Ok-Some.event c.line-line.result c.line-line.ensures gives)

pub returns-in-Ok-Some-clause-goes_on : goal.returns-in-Ok-Some-clause-goes_on
returns-in-Ok-Some-clause-goes_on g c =
    let gives = rw c.in-Ok-Some.field-0-is at c.in-Ok-Some.ensures.event in
    let event = c.in-Ok-Some.event in
    let config = c.args.self.now.config.now in
    let zone = c.args.self.now.clock in
    let line = c.line-line.result in
    let here = (goal.at.returns-in-Ok-Some-clause-goes_on g c).After-decide_event in
    let answer = answer_of g here in
    let form = form_of g.T.Teller.told g.T.Teller.after g.T.Teller.ended config zone in
    let teller = c.args.self.now.teller in
    let text = c.args.self.now.text.items in
    IfOk-weaker c.decide_event.result _ _
    (λ ended. if_none _ _ ended (λ on. record {
      each = λ past s.
          let now = on past s in
          let lines = lines_of_event config zone past line event now.0 in (
            answer,
            taken_same config.objects past c.args.self.now.feeder answer c.next.new.self c.decide_event.new.self.feeder c.decide_event.ensures.feed
                (event_taken config past c.args.self.now.feeder c.next.new.self event line c.line-line.ensures now.0 gives),
            now.1,
            now.2 ∙ ap (λ (xs : List ReportLine). text ++ told_all form teller xs) lines,
            now.3 ∙ ap (λ (xs : List ReportLine). after_all form teller xs) lines,
            now.4,
          );
    }))
    c.decide_event.ensures.goes_on

-- nothing is kept of an event that can't be numbered
pub returns-in-Ok-Some-clause-ends : goal.returns-in-Ok-Some-clause-ends
returns-in-Ok-Some-clause-ends g c =
    let here = (goal.at.returns-in-Ok-Some-clause-ends g c).After-decide_event in
    let answer = answer_of g here in
    let more = more g here in
    let config = c.args.self.now.config.now in
    let zone = c.args.self.now.clock in
    let teller = c.args.self.now.teller in
    let text = c.args.self.now.text.items in
    let night = c.args.self.now.night in
    let form = form_of g.T.Teller.told g.T.Teller.after g.T.Teller.ended config zone in
    IfOk-weaker c.decide_event.result _ _
    (λ ended found. IfSome_then ended found (λ ending at. record {
      each = λ past s.
          let now = at past s in
          let lines = report_of_end config zone past answer more.0 now.0 in (
            answer ∷ more.0,
            more.1,
            now.1 ∙ short_at_end past answer more.0 now.0,
            now.2 ∙ ap (λ (xs : List _). text ++ xs) (told-one form teller _) ∙ ap (λ (xs : List ReportLine). text ++ told_all form teller xs) lines,
            now.3 ∙ ap (λ (xs : List ReportLine). after_all form teller xs) lines,
            now.4 ∙ sym (ap (λ b. cond b night (night_on config zone (past_after past answer.given) (night_given config zone past night answer.given) more.0)) now.0),
          );
    }))
    c.decide_event.ensures.ends

pub returns-in-None-clause-goes_on : goal.returns-in-None-clause-goes_on
returns-in-None-clause-goes_on g c =
    let fault = c.in-Err.refusal in
    let config = c.args.self.now.config.now in
    let zone = c.args.self.now.clock in
    let teller = c.args.self.now.teller in
    let text = c.args.self.now.text.items in
    let form = form_of g.T.Teller.told g.T.Teller.after g.T.Teller.ended config zone in
    let stopped : c.refuse.new.self.feeder.stop ≡ None = search rules in
    let same = c.refuse.ensures.feed in
    record {
      each = λ past s. (
        refusal fault,
        taken_same config.objects past c.args.self.now.feeder (refusal fault) c.next.new.self c.refuse.new.self.feeder same
            (fault_taken config.objects past c.args.self.now.feeder c.next.new.self fault (sym (ap (λ f. f.stop) same) ∙ stopped) c.in-Err.ensures.fault),
        subst (λ d. Fits (core_kept d) past) (sym c.refuse.ensures.decider) s,
        c.in_ok-refuse-in-Err.ensures.text ∙ ap (λ (xs : List _). text ++ xs) (told-one form teller (refusal_line fault.line fault.fault)),
        c.in_ok-refuse-in-Err.ensures.teller,
        c.refuse.ensures.night,
      );
    }

pub returns-in-Some-clause-ends : goal.returns-in-Some-clause-ends
returns-in-Some-clause-ends g c =
    let fault = c.in-Err.refusal in
    let config = c.args.self.now.config.now in
    let zone = c.args.self.now.clock in
    let teller = c.args.self.now.teller in
    let text = c.args.self.now.text.items in
    let form = form_of g.T.Teller.told g.T.Teller.after g.T.Teller.ended config zone in
    let same = c.refuse.ensures.feed in
    let stopped : c.refuse.new.self.feeder.stop ≡ Some c.in-Some.field-0 = search rules in
    let last = fault_last g.R.Input.can_fail config.objects c.args.self.now.feeder c.next.new.self fault c.in-Some.field-0 (sym (ap (λ f. f.stop) same) ∙ stopped) c.in-Err.ensures.fault c.in-Err.ensures.last in
    record {
      each = λ past s. (
        refusal fault ∷ [],
        last.0,
        short_at_refusal past fault last.1,
        c.in_ok-refuse-in-Err.ensures.text ∙ ap (λ (xs : List _). text ++ xs) (told-one form teller (refusal_line fault.line fault.fault)),
        c.in_ok-refuse-in-Err.ensures.teller,
        c.refuse.ensures.night,
      );
    }
