use Rattle.std.proofs.Common.{rules, ◌≡◌, true, false, ◌&&◌, ◌∙◌}
use Rattle.std.specs.List.{list_any}
use Rattle.day_rules.specs.Dates.{shown}
use Rattle.due_model.specs.claims.Days.{names_day}
use Rattle.due_model.specs.claims.Local.{weekday_at}
use Rattle.due_model.specs.claims.Periods.{in_range, weekly_ranges}
use Rattle.slow_rules.specs.Rounds.{is_first}
use Rattle.slow_rules.proofs.RangeLemmas.{in_deciding, in_weekly}
use Rattle.slow_rules.proofs.ranges.own_ranges_hold.Goals as goal

pub returns-then-is_named : goal.returns-then-is_named
returns-then-is_named c =
    let time = shown c.args.time in
    let dated = c.args.period.now.dated in
    let named : list_any (λ line. names_day time line.day) dated ≡ true = search rules in
    let result : c.is_in_deciding.result ≡ list_any (λ line. is_first dated time line.day && list_any (in_range time.second) line.ranges) dated = search rules in
    result ∙ in_deciding time c.args.period.now named

pub returns-else-is_named : goal.returns-else-is_named
returns-else-is_named c =
    let time = shown c.args.time in
    let dated = c.args.period.now.dated in
    let named : list_any (λ line. names_day time line.day) dated ≡ false = search rules in
    let result : c.is_in_weekly.result ≡ list_any (in_range time.second) (weekly_ranges c.args.period.now (weekday_at time)) = search rules in
    result ∙ in_weekly time c.args.period.now named
