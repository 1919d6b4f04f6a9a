use Rattle.std.proofs.Common.{◌≡◌, subst, sym, ◌∙◌, arith}
use Rattle.due_model.specs.claims.Local.{local}
use Rattle.given_times.specs.Given.{shown_by}
use Rattle.jiff_fmt.specs.Temporal.{date_parts, time_parts}
use Rattle.zone_times.specs.Clock.{GoesOn}
use Rattle.given_times.proofs.Unseen.{day_kept, seen, unseen_more}
use Rattle.given_times.proofs.showing.first_showing.Goals as goal

pub returns-then-moment-le-LAST_MOMENT-clause-held : goal.returns-then-moment-le-LAST_MOMENT-clause-held
returns-then-moment-le-LAST_MOMENT-clause-held c =
    let from = c.loop-from.from in
    let until = c.goes_on_until-until.result in
    let now = c.local_time.result in
    let is : c.move_to.new.self ≡ c.args.zone.now = c.move_to.ensures ∙ c.loop-from.invariant.0 in
    let goes = subst (λ z. GoesOn z from until) is c.goes_on_until-until.ensures.goes_on in
    let day = subst (λ z. now.day ≡ (local z from).day) is c.local_time.ensures.day in
    let second = subst (λ z. now.second ≡ (local z from).second) is c.local_time.ensures.second in
    let held = c.in-Some.ensures.held in
    let wanted = day_kept c.to_unix_epoch_day-day.result c.to_unix_epoch_day-day.ensures.bound ∙ c.to_unix_epoch_day-day.ensures.value in
    seen c.args.zone.now (shown_by (date_parts c.args.shown.date, time_parts c.args.shown.time)) from until goes now.day now.second c.in-Some.moment day second c.loop-from.invariant.1
    (held.0 ∙ wanted) held.1 held.2 (held.3 ∙ c.second_of_day-second.ensures)

-- it shows it, but later than moments are
pub returns-else-moment-le-LAST_MOMENT-clause-lacking : goal.returns-else-moment-le-LAST_MOMENT-clause-lacking
returns-else-moment-le-LAST_MOMENT-clause-lacking c =
    let from = c.loop-from.from in
    let until = c.goes_on_until-until.result in
    let now = c.local_time.result in
    let is : c.move_to.new.self ≡ c.args.zone.now = c.move_to.ensures ∙ c.loop-from.invariant.0 in
    let goes = subst (λ z. GoesOn z from until) is c.goes_on_until-until.ensures.goes_on in
    let day = subst (λ z. now.day ≡ (local z from).day) is c.local_time.ensures.day in
    let second = subst (λ z. now.second ≡ (local z from).second) is c.local_time.ensures.second in
    let held = c.in-Some.ensures.held in
    let wanted = day_kept c.to_unix_epoch_day-day.result c.to_unix_epoch_day-day.ensures.bound ∙ c.to_unix_epoch_day-day.ensures.value in
    let first = seen c.args.zone.now (shown_by (date_parts c.args.shown.date, time_parts c.args.shown.time)) from until goes now.day now.second c.in-Some.moment day second c.loop-from.invariant.1
    (held.0 ∙ wanted) held.1 held.2 (held.3 ∙ c.second_of_day-second.ensures) in
    let late = c.if-moment-le-LAST_MOMENT.false in
    λ moment within e. first.first moment (omega (arith, within, late)) e

pub loop-from-preserved : goal.loop-from-preserved
loop-from-preserved c =
    let from = c.loop-from.from in
    let until = c.goes_on_until-until.result in
    let now = c.local_time.result in
    let is : c.move_to.new.self ≡ c.args.zone.now = c.move_to.ensures ∙ c.loop-from.invariant.0 in
    let goes = subst (λ z. GoesOn z from until) is c.goes_on_until-until.ensures.goes_on in
    let day = subst (λ z. now.day ≡ (local z from).day) is c.local_time.ensures.day in
    let second = subst (λ z. now.second ≡ (local z from).second) is c.local_time.ensures.second in
    let wanted = day_kept c.to_unix_epoch_day-day.result c.to_unix_epoch_day-day.ensures.bound ∙ c.to_unix_epoch_day-day.ensures.value in (
      is,
      unseen_more c.args.zone.now (shown_by (date_parts c.args.shown.date, time_parts c.args.shown.time)) from until goes now.day now.second day second c.loop-from.invariant.1
          (λ k at less same in_day. c.in_default.ensures.lacking k at less (same ∙ sym wanted) (in_day ∙ sym c.second_of_day-second.ensures)),
    )

pub returns-clause-lacking : goal.returns-clause-lacking
returns-clause-lacking c = let over = c.loop-from-test.false in λ moment within e. c.loop-from.invariant.1 moment (omega (arith, within, over)) e
