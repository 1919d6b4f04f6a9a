-- What it does to compare two configurations over a feed.
use Rattle.std.specs.Prelude.{◌≡◌, ℕ, Bool, List, [], ◌++◌, ◌||◌, Option, if◌then◌else◌}
use Rattle.due_model.specs.declared.config.Config.{Config}
use Rattle.due_model.specs.declared.zone.Zone.{Zone}
use Rattle.event_feed.specs.claims.Feed.{Answer}
use Rattle.command_output.specs.declared.outcome.Ending.{Ending}
use Rattle.command_output.specs.declared.outcome.Ending.TheVariants.{Short, Whole}
use Rattle.written.specs.claims.Written.{Writes, WritesFront}
use Rattle.notices_compared.specs.Past.{AreOfFeed}
use Rattle.notices_compared.specs.Past.{ends_short}
use Rattle.paired_feed.specs.PairedLaws.{lines_of}
use Rattle.changed_notices.specs.declared.changed.ChangeForm.{ChangeForm}
use Rattle.changed_notices.specs.Changed.{changes_text}
use Rattle.notices_compared.specs.Sides.{line_notices}
use Rattle.notices_compared.specs.Told.{table_between}

-- the answers are of the same lines
abbrev pub AreSameLines : List Answer → List Answer → Type 0
AreSameLines given others = lines_of given ≡ lines_of others

-- the changes from one report of a feed to another, line by line of the feed
abbrev pub changes_between : ChangeForm → Config → Config → Zone → (given others : List Answer)
    → List ℕ
changes_between form a b zone given others =
    changes_text form a b zone (line_notices a zone [] given) (line_notices b zone [] others)

-- how the reading ended: short, where the report of either is
abbrev pub ending_of : (given others : List Answer) → Ending
ending_of given others = if ends_short [] given || ends_short [] others then Short else Whole

-- What was written is the changes from the one report of the feed to the other, and then the table of the contacts, and the
-- reading ended so.
abbrev pub ComparesFor : ChangeForm → (can_fail : Bool) → (a b : Config) → (feed : List ℕ) → Zone
    → Ending → (old new : Option (List ℕ)) → Type 0
ComparesFor form can_fail a b feed zone ending old new =
    (given : List Answer) × (others : List Answer)
    × AreOfFeed can_fail a feed given × AreOfFeed can_fail b feed others
    × AreSameLines given others × (ending ≡ ending_of given others)
    × Writes old new (changes_between form a b zone given others
    ++ table_between form a b zone given others)

-- what was written is a front of that
abbrev pub ComparesFrontFor : ChangeForm → (can_fail : Bool) → (a b : Config) → (feed : List ℕ)
    → Zone → (old new : Option (List ℕ)) → Type 0
ComparesFrontFor form can_fail a b feed zone old new =
    (given : List Answer) × (others : List Answer)
    × AreOfFeed can_fail a feed given × AreOfFeed can_fail b feed others
    × AreSameLines given others
    × WritesFront old new (changes_between form a b zone given others
    ++ table_between form a b zone given others)
