-- The notices of the lines of a feed are those of its report.
use Rattle.std.proofs.Common.{◌≡◌, ℕ, Bool, true, false, cond, eqb, ◌||◌, List, [], ◌∷◌, ◌++◌, length, flat_map, map, Result, Ok, Err, refl, sym, ap, ap₂, ◌∙◌}
use Rattle.std.proofs.lemmas.Bool.{true≢false}
use Rattle.std.proofs.lemmas.Grind.{flat_map-append}
use Rattle.due_model.specs.declared.config.Config.{Config}
use Rattle.due_model.specs.declared.event.Event.{Event}
use Rattle.due_model.specs.declared.notice.Notice.{Notice}
use Rattle.due_model.specs.declared.zone.Zone.{Zone}
use Rattle.due_model.specs.claims.Limits.{max_events}
use Rattle.event_feed.specs.declared.fault.FeedFault.{FeedFault}
use Rattle.event_feed.specs.declared.fault.FeedFault.TheVariants.{Ended}
use Rattle.event_feed.specs.claims.Feed.{Answer, ends_feed}
use Rattle.messages.specs.declared.entries.Entry.{Entry}
use Rattle.messages.specs.declared.entries.Entry.TheVariants.{Sent, Withheld}
use Rattle.messages.specs.claims.Entries.{event_entries}
use Rattle.messages.specs.Entries.{notices_in}
use Rattle.line_forms.specs.declared.report_line.ReportLine.TheVariants.{Decided}
use Rattle.replay.specs.claims.Report.{ends_short, is_ended, past_after}
use Rattle.notices_compared.specs.Past.{ends_short as ends_before}
use Rattle.report_telling.specs.Lines.{given_lines, lines_from, refusal_line}
use Rattle.notices_compared.specs.Sides.{decided_notices, given_notices, line_notices, past_on}
use Rattle.texts_compared.specs.Reports.{EndsAsTheReports, LineNoticesAreTheReports, notices_of}

abbrev flat : List (List Notice) → List Notice
flat nss = flat_map (λ ns. ns) nss

entries-notices : (entries : List Entry) → flat_map notices_of (map Decided entries) ≡ notices_in entries
entries-notices [] = refl
entries-notices (Sent n ∷ entries) = ap (λ (ns : List Notice). n ∷ ns) (entries-notices entries)
entries-notices (Withheld s ∷ entries) = entries-notices entries

given-notices : (c : Config) (zone : Zone) (past : List Event) (line : ℕ) (given : Result Event FeedFault) → flat_map notices_of (given_lines c zone past line given) ≡ decided_notices c zone past given
given-notices c zone past line (Ok e) = entries-notices (event_entries c zone e past)
given-notices c zone past line (Err fault) = refl

-- once an event can't be numbered nothing more is given
at_most : (past : List Event) (given : Result Event FeedFault) → is_ended past given ≡ true → eqb (length past) max_events ≡ true
at_most past (Ok e) h = h
at_most past (Err fault) h = absurd (true≢false (sym h))

nothing_more : (c : Config) (zone : Zone) (past : List Event) (given : List Answer) → eqb (length past) max_events ≡ true → flat (line_notices c zone past given) ≡ []
nothing_more c zone past [] full = refl
nothing_more c zone past (answer ∷ more) full = by answer.given (nothing_more c zone past more full)
  where
    by : (given : Result Event FeedFault) → flat (line_notices c zone past more) ≡ [] → flat (given_notices c zone past given ∷ line_notices c zone (past_on past given) more) ≡ []
    by (Ok e) rest = rw full rest
    by (Err fault) rest = rest

notices-from : (c : Config) (zone : Zone) (past : List Event) (given : List Answer) → flat (line_notices c zone past given) ≡ flat_map notices_of (lines_from c zone past given)
notices-from c zone past [] = refl
notices-from c zone past (answer ∷ more) = by (is_ended past answer.given) refl (notices-from c zone (past_after past answer.given) more)
  where
    by : (b : Bool) → is_ended past answer.given ≡ b
        → flat (line_notices c zone (past_after past answer.given) more) ≡ flat_map notices_of (lines_from c zone (past_after past answer.given) more)
        → flat (cond b [] (decided_notices c zone past answer.given) ∷ line_notices c zone (cond b past (past_after past answer.given)) more)
        ≡ flat_map notices_of (cond b (refusal_line answer.line Ended ∷ []) (given_lines c zone past answer.line answer.given) ++ cond b [] (lines_from c zone (past_after past answer.given) more))
    by true e rest = nothing_more c zone past more (at_most past answer.given e)
    by false e rest =
        ap₂ (λ (xs ys : List Notice). xs ++ ys) (sym (given-notices c zone past answer.line answer.given)) rest
        ∙ sym (flat_map-append notices_of (given_lines c zone past answer.line answer.given) (lines_from c zone (past_after past answer.given) more))

pub line_notices_are_the_reports : LineNoticesAreTheReports
line_notices_are_the_reports c zone given = notices-from c zone [] given

ends-from : (past : List Event) (given : List Answer) → ends_before past given ≡ ends_short past given
ends-from past [] = refl
ends-from past (answer ∷ given) = ap (λ (b : Bool). is_ended past answer.given || ends_feed answer.given || b) (ends-from (past_after past answer.given) given)

pub ends_as_the_reports : EndsAsTheReports
ends_as_the_reports given = ends-from [] given
