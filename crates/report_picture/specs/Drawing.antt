-- The drawing of a picture under way, beside the telling of a report.
use Rattle.std.specs.Prelude.{◌≡◌, ℕ, Bool, List, [], ◌++◌, Option}
use Rattle.due_model.specs.declared.config.Config.{Config}
use Rattle.due_model.specs.declared.event.Event.{Event}
use Rattle.due_model.specs.declared.zone.Zone.{Zone}
use Rattle.decider.specs.claims.Fits.{Fits, Kept}
use Rattle.event_feed.specs.claims.Feed.{Answer, AreGivenBy, Feed}
use Rattle.command_output.specs.declared.outcome.Ending.{Ending}
use Rattle.written.specs.claims.Written.{Writes}
use Rattle.night_marks.specs.declared.night.Night.{Night}
use Rattle.night_picture.specs.Picture.{left_out, picture_text}
use Rattle.replay.specs.claims.Report.{ending_after, past_after}
use Rattle.replay.specs.Report.{TakesAnswer}
use Rattle.report_telling.specs.Lines.{answer_lines, lines_from, report_lines}
use Rattle.report_telling.specs.Told.{Form, after_all, told_all, told_report}
use Rattle.report_picture.specs.declared.drawing.Picture.{Picture}
use Rattle.report_picture.specs.Nights.{night_given, night_of, night_on}

-- For a decider that fits a past: the next line of the feed was read, the lines of its answer were told, and
-- it was kept.
pub record GoesOn {T : Type 0} (form : Config → Zone → Form T) (c : Config) (zone : Zone)
    (old : Kept) (feed : Feed) (teller : T) (night : Night) (text : List ℕ)
    (new : Kept) (feed' : Feed) (teller' : T) (night' : Night) (text' : List ℕ) : Type 0 where
  pub each : (past : List Event) → Fits old past
      → (answer : Answer) × TakesAnswer c.objects past feed answer feed'
      × Fits new (past_after past answer.given)
      × (text' ≡ text ++ told_all (form c zone) teller (answer_lines c zone past answer))
      × (teller' ≡ after_all (form c zone) teller (answer_lines c zone past answer))
      × (night' ≡ night_given c zone past night answer.given)

-- the feed ended, and the lines of its last answer, if it had one, were told, and it was kept
pub record Ends {T : Type 0} (form : Config → Zone → Form T) (can_fail : Bool) (c : Config)
    (zone : Zone) (old : Kept) (feed : Feed) (teller : T) (night : Night) (text : List ℕ)
    (ending : Ending) (teller' : T) (night' : Night) (text' : List ℕ) : Type 0 where
  pub each : (past : List Event) → Fits old past
      → (given : List Answer) × AreGivenBy can_fail c.objects feed given
      × (ending ≡ ending_after past given)
      × (text' ≡ text ++ told_all (form c zone) teller (lines_from c zone past given))
      × (teller' ≡ after_all (form c zone) teller (lines_from c zone past given))
      × (night' ≡ night_on c zone past night given)

-- the picture is that of what is kept
pub record IsDrawn (c : Config) (zone : Zone) (night : Night) (old new : Picture) : Type 0 where
  pub text : new.text.items ≡ old.text.items ++ picture_text c zone night
  pub left : new.left_out ≡ left_out night

-- what the teller writes of the report of a feed was written, the picture of it was drawn, and it ended so
abbrev pub DrawsFeed : {T : Type 0} → (Config → Zone → Form T) → (can_fail : Bool) → Config → Zone
    → Feed → T → Ending → (before after : Option (List ℕ)) → (old new : Picture) → Type 0
DrawsFeed form can_fail c zone feed teller ending before after old new =
    (given : List Answer) × AreGivenBy can_fail c.objects feed given
    × (ending ≡ ending_after [] given)
    × Writes before after (told_report (form c zone) teller (report_lines c zone given))
    × IsDrawn c zone (night_of c zone given) old new
