-- The telling of a report under way.
use Rattle.std.specs.Prelude.{◌≡◌, ℕ, ◌≤◌, Bool, false, All, List, [], ◌++◌, Option, None}
use Rattle.due_model.specs.declared.config.Config.{Config}
use Rattle.due_model.specs.declared.event.Event.{Event}
use Rattle.due_model.specs.declared.zone.Zone.{Zone}
use Rattle.decider.specs.claims.Fits.{Fits, Kept}
use Rattle.event_feed.specs.claims.Feed.{Answer, AreGivenBy, Feed, ends_feed}
use Rattle.event_feed.specs.Feed.{PassesLines, answers_from}
use Rattle.text_lines.specs.claims.Lines.{Known}
use Rattle.command_output.specs.declared.outcome.Ending.{Ending}
use Rattle.written.specs.claims.Written.{Leaves, Writes, WritesFront}
use Rattle.replay.specs.claims.Report.{ending_after, past_after}
use Rattle.replay.specs.Report.{TakesAnswer}
use Rattle.line_forms.specs.declared.report_line.ReportLine.{ReportLine}
use Rattle.report_telling.specs.Lines.{answer_lines, lines_from, report_lines}
use Rattle.report_telling.specs.Told.{Form, after_all, told_all, told_report}

-- Of a feed's answers these came first, and none of them ends the feed; the past is theirs, the lines are what they add to a
-- report, and the feed goes on after them.
pub record Follows (c : Config) (zone : Zone) (start : Feed) (given : List Answer)
    (lines : List ReportLine) (past : List Event) (now : Feed) : Type 0 where
  pub answers : Known start.bytes now.bytes
      (λ bytes rest. answers_from c.objects start bytes ≡ given ++ answers_from c.objects now rest)
  pub line : start.line ≤ now.line
  pub earlier : All (λ answer. answer.line ≤ now.line) given
  pub read_on : All (λ answer. ends_feed answer.given ≡ false) given
  pub lines_passed : PassesLines start now
  pub report : (others : List Answer)
      → report_lines c zone (given ++ others) ≡ lines ++ lines_from c zone past others
  pub ending : (others : List Answer) → ending_after [] (given ++ others) ≡ ending_after past others
  pub goes_on : now.stop ≡ None

-- For a decider that fits a past: the next line of the feed was read, and the lines of its answer were told.
pub record GoesOn {T : Type 0} (form : Config → Zone → Form T) (c : Config) (zone : Zone)
    (old : Kept) (feed : Feed) (teller : T) (before : Option (List ℕ)) (held : List ℕ)
    (new : Kept) (feed' : Feed) (teller' : T) (after : Option (List ℕ)) (held' : List ℕ)
    : Type 0 where
  pub each : (past : List Event) → Fits old past
      → (answer : Answer) × TakesAnswer c.objects past feed answer feed'
      × Fits new (past_after past answer.given)
      × Leaves before after (held ++ told_all (form c zone) teller (answer_lines c zone past answer))
      held'
      × (teller' ≡ after_all (form c zone) teller (answer_lines c zone past answer))

-- the feed ended, and the lines of its last answer, if it had one, were told
pub record Ends {T : Type 0} (form : Config → Zone → Form T) (can_fail : Bool) (c : Config)
    (zone : Zone) (old : Kept) (feed : Feed) (teller : T) (before : Option (List ℕ))
    (held : List ℕ) (ending : Ending) (teller' : T) (after : Option (List ℕ)) (held' : List ℕ)
    : Type 0 where
  pub each : (past : List Event) → Fits old past
      → (given : List Answer) × AreGivenBy can_fail c.objects feed given
      × (ending ≡ ending_after past given)
      × Leaves before after (held ++ told_all (form c zone) teller (lines_from c zone past given))
      held'
      × (teller' ≡ after_all (form c zone) teller (lines_from c zone past given))

-- a front of what is told of the next answers was written
pub record TellsPart {T : Type 0} (form : Config → Zone → Form T) (can_fail : Bool) (c : Config)
    (zone : Zone) (old : Kept) (feed : Feed) (teller : T) (before : Option (List ℕ))
    (held : List ℕ) (after : Option (List ℕ)) : Type 0 where
  pub each : (past : List Event) → Fits old past
      → (given : List Answer) × AreGivenBy can_fail c.objects feed given
      × WritesFront before after
      (held ++ told_all (form c zone) teller (lines_from c zone past given))

-- what the teller writes of the report of a feed was written, and it ended so
abbrev pub TellsFeed : {T : Type 0} → (Config → Zone → Form T) → (can_fail : Bool) → Config → Zone
    → Feed → T → Ending → (before after : Option (List ℕ)) → Type 0
TellsFeed form can_fail c zone feed teller ending before after =
    (given : List Answer) × AreGivenBy can_fail c.objects feed given
    × (ending ≡ ending_after [] given)
    × Writes before after (told_report (form c zone) teller (report_lines c zone given))

-- a front of it was written
abbrev pub TellsFeedFront : {T : Type 0} → (Config → Zone → Form T) → (can_fail : Bool) → Config
    → Zone → Feed → T → (before after : Option (List ℕ)) → Type 0
TellsFeedFront form can_fail c zone feed teller before after =
    (given : List Answer) × AreGivenBy can_fail c.objects feed given
    × WritesFront before after (told_report (form c zone) teller (report_lines c zone given))
