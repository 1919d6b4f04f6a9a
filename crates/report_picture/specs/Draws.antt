-- What it does to draw the picture of a feed beside its report.
use Rattle.std.specs.Prelude.{◌≡◌, ℕ, Bool, List, [], Option}
use Rattle.due_model.specs.declared.config.Choices.{Choices}
use Rattle.due_model.specs.declared.config.Config.{Config}
use Rattle.due_model.specs.declared.zone.Zone.{Zone}
use Rattle.event_feed.specs.claims.Feed.{Answer}
use Rattle.command_output.specs.declared.outcome.Ending.{Ending}
use Rattle.written.specs.claims.Written.{Writes}
use Rattle.command_input.specs.claims.Objects.{IsTextBy}
use Rattle.command_input.specs.Objects.{feed_in, objects_in}
use Rattle.replay.specs.claims.Replay.{AreOfFeed}
use Rattle.replay.specs.claims.Report.{ending_after}
use Rattle.report_telling.specs.Lines.{report_lines}
use Rattle.report_telling.specs.Told.{Form, told_report}
use Rattle.report_picture.specs.declared.drawing.Picture.{Picture}
use Rattle.report_picture.specs.Drawing.{IsDrawn}
use Rattle.report_picture.specs.Nights.{night_of}

-- What was written is what the teller writes of the report of the feed, for the configuration of the object
-- text, and the picture is that of the same feed; the reading ended so.
abbrev pub DrawsOf : {T : Type 0} → Choices → (Config → Zone → Form T) → T → (can_fail : Bool)
    → (objects feed : List ℕ) → Zone → Ending → (before after : Option (List ℕ))
    → (old new : Picture) → Type 0
DrawsOf choices form teller can_fail objects feed zone ending before after old new =
    (config : Config) × (given : List Answer) × IsTextBy choices config objects
    × AreOfFeed can_fail config feed given × (ending ≡ ending_after [] given)
    × Writes before after (told_report (form config zone) teller (report_lines config zone given))
    × IsDrawn config zone (night_of config zone given) old new

-- ---- of one input, which has the object text, a mark, and the feed

abbrev pub Draws : {T : Type 0} → Choices → (Config → Zone → Form T) → T → (can_fail : Bool)
    → List ℕ → Zone → Ending → (before after : Option (List ℕ)) → (old new : Picture) → Type 0
Draws choices form teller can_fail bytes zone ending before after old new =
    DrawsOf choices form teller can_fail (objects_in bytes) (feed_in bytes) zone ending before after
    old new
