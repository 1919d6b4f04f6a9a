-- What a configuration gives of each line of a feed.
use Rattle.std.specs.Prelude.{◌≡◌, ℕ, ◌≤◌, Bool, false, ◌||◌, All, List, [], ◌∷◌, ◌++◌, None, Result, Ok, Err, if◌then◌else◌}
use Rattle.due_model.specs.declared.config.Config.{Config}
use Rattle.due_model.specs.declared.event.Event.{Event}
use Rattle.due_model.specs.declared.notice.Notice.{Notice}
use Rattle.due_model.specs.declared.zone.Zone.{Zone}
use Rattle.event_feed.specs.declared.fault.FeedFault.{FeedFault}
use Rattle.event_feed.specs.claims.Feed.{Answer, Feed, ends_feed}
use Rattle.event_feed.specs.Feed.{PassesLines, answers_from}
use Rattle.text_lines.specs.claims.Lines.{Known}
use Rattle.messages.specs.claims.Entries.{event_entries}
use Rattle.messages.specs.Entries.{notices_in}
use Rattle.notices_compared.specs.Past.{ends_short, is_ended, past_after}

-- the notices of an event after a past; a refused line has none
abbrev pub decided_notices : Config → Zone → List Event → Result Event FeedFault → List Notice
decided_notices c zone past (Ok e) = notices_in (event_entries c zone e past)
decided_notices c zone past (Err fault) = []

-- what a line of the feed gives after a past: nothing, once there are as many events as can be numbered
abbrev pub given_notices : Config → Zone → List Event → Result Event FeedFault → List Notice
given_notices c zone past given =
    if is_ended past given then [] else decided_notices c zone past given

-- and the past after it
abbrev pub past_on : List Event → Result Event FeedFault → List Event
past_on past given = if is_ended past given then past else past_after past given

-- the notices of each line of the feed, after a past
abbrev pub line_notices : Config → Zone → List Event → List Answer → List (List Notice)
line_notices c zone past [] = []
line_notices c zone past (answer ∷ answers) =
    given_notices c zone past answer.given
    ∷ line_notices c zone (past_on past answer.given) answers

-- ---- a side under way

-- Of a feed's answers these came first, and none of them ends the feed. These are the notices of their lines, and the past is
-- theirs; this says whether some event couldn't be numbered. The feed goes on after them.
pub record Follows (c : Config) (zone : Zone) (start : Feed) (given : List Answer)
    (noticed : List (List Notice)) (ended : Bool) (past : List Event) (now : Feed) : Type 0 where
  pub answers : Known start.bytes now.bytes
      (λ bytes rest. answers_from c.objects start bytes ≡ given ++ answers_from c.objects now rest)
  pub line : start.line ≤ now.line
  pub earlier : All (λ answer. answer.line ≤ now.line) given
  pub read_on : All (λ answer. ends_feed answer.given ≡ false) given
  pub lines_passed : PassesLines start now
  pub notices : (others : List Answer)
      → line_notices c zone [] (given ++ others) ≡ noticed ++ line_notices c zone past others
  pub short : (others : List Answer)
      → ends_short [] (given ++ others) ≡ (ended || ends_short past others)
  pub goes_on : now.stop ≡ None
