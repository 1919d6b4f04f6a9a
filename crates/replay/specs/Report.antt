-- The report of a feed: for each of its lines the refusal, or what the event adds.
use Rattle.std.specs.Prelude.{◌≡◌, ℕ, ◌<◌, ◌≤◌, Bool, false, true, All, List, [], ◌++◌, Option, None}
use Rattle.due_model.specs.declared.config.Config.{Config}
use Rattle.due_model.specs.declared.config.Object.{Object}
use Rattle.due_model.specs.declared.event.Event.{Event}
use Rattle.due_model.specs.declared.zone.Zone.{Zone}
use Rattle.messages.specs.declared.entries.Entry.{Entry}
use Rattle.messages.specs.declared.entries.Entry.TheVariants.{Sent, Withheld}
use Rattle.decider.specs.declared.share.Share.{Share}
use Rattle.decider.specs.claims.Fits.{Fits, Kept}
use Rattle.event_feed.specs.claims.Feed.{Answer, AreGivenBy, Feed, ends_feed}
use Rattle.event_feed.specs.Feed.{AnswersNext, PassesLines, answers_from}
use Rattle.text_lines.specs.claims.Lines.{Known}
use Rattle.command_output.specs.declared.outcome.Ending.{Ending}
use Rattle.written.specs.claims.Written.{Leaves, Writes, WritesFront}
use Rattle.replay.specs.claims.Report.{past_after, is_ended, answer_text, report_from, report_text, ending_after}

-- the share of the one decider of a replay: all objects
abbrev pub whole_share : Share
whole_share = record { decider = 0; deciders = 1 }

-- ---- the text

-- whether an entry is a message that is due
abbrev pub is_sent : Entry → Bool
is_sent (Sent notice) = true
is_sent (Withheld suppression) = false

-- ---- what a feed gives

-- A line of the feed was read whose answer doesn't end the report, and the feed goes on after it.
pub record TakesAnswer (objects : List Object) (past : List Event) (old : Feed) (answer : Answer)
    (new : Feed) : Type 0 where
  pub next : AnswersNext objects old answer new
  pub line : old.line < new.line
  pub number : answer.line ≡ new.line
  pub lines : PassesLines old new
  pub numbered : is_ended past answer.given ≡ false
  pub read_on : ends_feed answer.given ≡ false
  pub goes_on : new.stop ≡ None

-- Of a feed's answers these came first, and none of them ends the feed; the past is theirs, the text is what they add to a
-- report, and the feed goes on after them.
pub record Follows (c : Config) (zone : Zone) (start : Feed) (given : List Answer) (text : List ℕ)
    (past : List Event) (now : Feed) : Type 0 where
  pub answers : Known start.bytes now.bytes
      (λ bytes rest. answers_from c.objects start bytes ≡ given ++ answers_from c.objects now rest)
  pub line : start.line ≤ now.line
  pub earlier : All (λ answer. answer.line ≤ now.line) given
  pub read_on : All (λ answer. ends_feed answer.given ≡ false) given
  pub lines : PassesLines start now
  pub report : (others : List Answer)
      → report_text c zone (given ++ others) ≡ text ++ report_from c zone past others
  pub ending : (others : List Answer) → ending_after [] (given ++ others) ≡ ending_after past others
  pub goes_on : now.stop ≡ None

-- ---- what the making of a report does

-- For a decider that fits a past: the next line of the feed was read, and the lines of its answer were made.
pub record GoesOn (c : Config) (zone : Zone) (old : Kept) (feed : Feed) (before : Option (List ℕ))
    (held : List ℕ)
    (new : Kept) (feed' : Feed) (after : Option (List ℕ)) (held' : List ℕ) : Type 0 where
  pub each : (past : List Event) → Fits old past
      → (answer : Answer) × TakesAnswer c.objects past feed answer feed'
      × Fits new (past_after past answer.given)
      × Leaves before after (held ++ answer_text c zone past answer) held'

-- the feed ended, and the lines of its last answer, if it had one, were made
pub record Ends (can_fail : Bool) (c : Config) (zone : Zone) (old : Kept) (feed : Feed)
    (before : Option (List ℕ)) (held : List ℕ)
    (ending : Ending) (after : Option (List ℕ)) (held' : List ℕ) : Type 0 where
  pub each : (past : List Event) → Fits old past
      → (given : List Answer) × AreGivenBy can_fail c.objects feed given
      × (ending ≡ ending_after past given)
      × Leaves before after (held ++ report_from c zone past given) held'

-- a front of the lines of the next answer was written
pub record WritesPart (can_fail : Bool) (c : Config) (zone : Zone) (old : Kept) (feed : Feed)
    (before : Option (List ℕ)) (held : List ℕ)
    (after : Option (List ℕ)) : Type 0 where
  pub each : (past : List Event) → Fits old past
      → (given : List Answer) × AreGivenBy can_fail c.objects feed given
      × WritesFront before after (held ++ report_from c zone past given)

-- the report of a feed was written, and it ended so
abbrev pub WritesReport : (can_fail : Bool) → Config → Zone → Feed → Ending
    → (before after : Option (List ℕ)) → Type 0
WritesReport can_fail c zone feed ending before after =
    (given : List Answer) × AreGivenBy can_fail c.objects feed given
    × (ending ≡ ending_after [] given) × Writes before after (report_text c zone given)

-- a front of it was written
abbrev pub WritesReportFront : (can_fail : Bool) → Config → Zone → Feed
    → (before after : Option (List ℕ)) → Type 0
WritesReportFront can_fail c zone feed before after =
    (given : List Answer) × AreGivenBy can_fail c.objects feed given
    × WritesFront before after (report_text c zone given)
