-- What the contacts of a configuration are told over a feed.
use Rattle.std.specs.Prelude.{◌≡◌, ℕ, List, [], ◌∷◌, ◌++◌, length, Option, None, Some, Result, Ok, Err}
use Rattle.due_model.specs.declared.config.Config.{Config}
use Rattle.due_model.specs.declared.event.Event.{Event}
use Rattle.due_model.specs.declared.zone.Zone.{Zone}
use Rattle.event_feed.specs.declared.fault.FeedFault.{FeedFault}
use Rattle.event_feed.specs.claims.Feed.{Answer}
use Rattle.changed_notices.specs.declared.changed.ChangeForm.{ChangeForm}
use Rattle.contact_table.specs.Table.{table_text}
use Rattle.contact_tallies.specs.declared.tallies.Tally.{Tally}
use Rattle.contact_tallies.specs.Marks.{Mark, marks_after}
use Rattle.contact_tallies.specs.Tallies.{tallies_of}
use Rattle.notices_compared.specs.Sides.{given_notices, past_on}

-- the event of a line, if it isn't refused
abbrev pub event_of : Result Event FeedFault → Option Event
event_of (Ok e) = Some e
event_of (Err fault) = None

-- what counts after a line of the feed, after a past
abbrev pub marks_on_line : Config → Zone → List Event → List Mark → Result Event FeedFault
    → List Mark
marks_on_line c zone past marks given =
    marks_after marks (given_notices c zone past given) (event_of given)

-- and after all of its lines
abbrev pub line_marks : Config → Zone → List Event → List Mark → List Answer → List Mark
line_marks c zone past marks [] = marks
line_marks c zone past marks (answer ∷ answers) =
    line_marks c zone (past_on past answer.given) (marks_on_line c zone past marks answer.given)
    answers

-- what the contacts of a configuration were told, where that counts
abbrev pub tallies_in : Config → Zone → List Mark → List Tally
tallies_in c zone marks = tallies_of zone marks (length c.contacts)

-- the table of two configurations
abbrev pub table_of : ChangeForm → (a b : Config) → Zone → (marks others : List Mark) → List ℕ
table_of form a b zone marks others =
    table_text form a.contacts (tallies_in a zone marks) b.contacts (tallies_in b zone others)

-- that of a feed
abbrev pub table_between : ChangeForm → (a b : Config) → Zone → (given others : List Answer)
    → List ℕ
table_between form a b zone given others =
    table_of form a b zone (line_marks a zone [] [] given) (line_marks b zone [] [] others)

-- ---- a side under way

-- after these answers, the past is theirs, and what counts
pub record Marked (c : Config) (zone : Zone) (given : List Answer) (past : List Event)
    (marks : List Mark) : Type 0 where
  pub marks_are : (others : List Answer)
      → line_marks c zone [] [] (given ++ others) ≡ line_marks c zone past marks others
