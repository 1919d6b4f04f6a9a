-- What the changes over a feed write, under way.
use Rattle.std.specs.Prelude.{◌≡◌, ℕ, Bool, List, [], ◌++◌, Option}
use Rattle.due_model.specs.declared.config.Config.{Config}
use Rattle.due_model.specs.declared.zone.Zone.{Zone}
use Rattle.event_feed.specs.claims.Feed.{Answer, AreGivenBy, Feed}
use Rattle.command_output.specs.declared.outcome.Ending.{Ending}
use Rattle.written.specs.claims.Written.{Writes, WritesFront}
use Rattle.paired_feed.specs.Paired.{since}
use Rattle.changed_notices.specs.declared.changed.ChangeForm.{ChangeForm}
use Rattle.notices_compared.specs.Compares.{AreSameLines, changes_between, ending_of}
use Rattle.notices_compared.specs.Told.{table_between}

-- the changes over a feed were written, and the table, and it ended so
pub record WritesChanges (form : ChangeForm) (can_fail : Bool) (a b : Config) (zone : Zone)
    (feed : Feed) (last : ℕ) (ending : Ending) (before after : Option (List ℕ)) : Type 0 where
  pub given : List Answer
  pub others : List Answer
  pub first : AreGivenBy can_fail a.objects feed given
  pub second : AreGivenBy can_fail b.objects (since feed last) others
  pub same : AreSameLines given others
  pub ending_is : ending ≡ ending_of given others
  pub writes : Writes before after
      (changes_between form a b zone given others ++ table_between form a b zone given others)

-- a front of that was written
pub record WritesChangesFront (form : ChangeForm) (can_fail : Bool) (a b : Config) (zone : Zone)
    (feed : Feed) (last : ℕ) (before after : Option (List ℕ)) : Type 0 where
  pub given : List Answer
  pub others : List Answer
  pub first : AreGivenBy can_fail a.objects feed given
  pub second : AreGivenBy can_fail b.objects (since feed last) others
  pub same : AreSameLines given others
  pub front : WritesFront before after
      (changes_between form a b zone given others ++ table_between form a b zone given others)
