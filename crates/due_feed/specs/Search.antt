-- A search through a feed, from line to line.
use Rattle.std.specs.Prelude.{◌≡◌, ℕ, ◌<◌, ◌≤◌, All, Bool, false, List, [], ◌∷◌, ◌++◌, length, None, Result, Ok, Err}
use Rattle.decider.specs.claims.Fits.{Fits, Kept}
use Rattle.due_model.specs.declared.config.Config.{Config}
use Rattle.due_model.specs.declared.config.Object.{Object}
use Rattle.due_model.specs.declared.event.Event.{Event}
use Rattle.due_model.specs.declared.notice.Notice.{Notice}
use Rattle.due_model.specs.declared.zone.Zone.{Zone}
use Rattle.event_feed.specs.declared.fault.FeedFault.{FeedFault}
use Rattle.event_feed.specs.claims.Feed.{Answer, AreGivenBy, Feed, ends_feed}
use Rattle.event_feed.specs.Feed.{AnswersNext, PassesLines, answers_from}
use Rattle.messages.specs.claims.Entries.{event_entries}
use Rattle.messages.specs.Entries.{notices_in}
use Rattle.text_lines.specs.claims.Lines.{Known}
use Rattle.due_feed.specs.Seen.{StopsAmong, is_ended, past_after, past_from, past_of}

-- what an answer makes due after a past
abbrev pub given_notices : Config → Zone → List Event → Result Event FeedFault → List Notice
given_notices c zone past (Ok event) = notices_in (event_entries c zone event past)
given_notices c zone past (Err fault) = []

-- A line of the feed was read whose answer doesn't end it, and the feed goes on after it.
pub record TakesAnswer (objects : List Object) (past : List Event) (old : Feed) (answer : Answer) (new : Feed) : Type 0 where
  pub next : AnswersNext objects old answer new
  pub line : old.line < new.line
  pub number : answer.line ≡ new.line
  pub lines : PassesLines old new
  pub numbered : is_ended past answer.given ≡ false
  pub read_on : ends_feed answer.given ≡ false
  pub goes_on : new.stop ≡ None

-- Of a feed's answers these came first, and none of them ends the feed; the past is theirs, and the feed goes on after them.
pub record Follows (c : Config) (start : Feed) (given : List Answer) (past : List Event) (now : Feed) : Type 0 where
  pub answers : Known start.bytes now.bytes
      (λ bytes rest. answers_from c.objects start bytes ≡ given ++ answers_from c.objects now rest)
  pub line : start.line ≤ now.line
  pub earlier : All (λ answer. answer.line ≤ now.line) given
  pub read_on : All (λ answer. ends_feed answer.given ≡ false) given
  pub lines : PassesLines start now
  pub past_is : (others : List Answer) → past_of (given ++ others) ≡ past_from past others
  pub goes_on : now.stop ≡ None

-- For a decider that fits a past of so many events: the next line of the feed was read, and what it makes due was seen.
pub record GoesOn {L : Type 0} (c : Config) (zone : Zone) (old : Kept) (feed : Feed) (count : ℕ) (new : Kept) (feed' : Feed) (count' : ℕ)
    (saw : L → List Notice → L → Type 0) (before after : L) : Type 0 where
  pub each : (past : List Event) → Fits old past → count ≡ length past
      → (answer : Answer) × TakesAnswer c.objects past feed answer feed'
      × Fits new (past_after past answer.given) × (count' ≡ length (past_after past answer.given))
      × saw before (given_notices c zone past answer.given) after

-- the feed is over, and nothing more was seen
pub record Ends {L : Type 0} (can_fail : Bool) (c : Config) (old : Kept) (feed : Feed) (count count' : ℕ)
    (saw : L → List Notice → L → Type 0) (before after : L) : Type 0 where
  pub same : count' ≡ count
  pub seen : saw before [] after
  pub each : (past : List Event) → Fits old past
      → (given : List Answer) × AreGivenBy can_fail c.objects feed given × (past_from past given ≡ past)

-- who looks stopped at what the next line makes due
pub record Stops {L : Type 0} (can_fail : Bool) (c : Config) (zone : Zone) (old : Kept) (feed : Feed)
    (saw : L → List Notice → L → Type 0) (stops : L → Notice → L → Type 0) (before after : L) : Type 0 where
  pub each : (past : List Event) → Fits old past
      → (answer : Answer) × (others : List Answer) × AreGivenBy can_fail c.objects feed (answer ∷ others)
      × (is_ended past answer.given ≡ false)
      × StopsAmong saw stops before (given_notices c zone past answer.given) after
