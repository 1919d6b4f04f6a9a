-- Who is told of what is supposed, and when; who isn't, and why.
use Rattle.std.specs.Prelude.{◌≡◌, ℕ, ◌+◌, ◌*◌, Bool, false, List, [], ◌++◌, map, Option, None, Some}
use Rattle.std.specs.Option.{option_copied}
use Rattle.std.specs.Io.KnownBytes.{Keeps}
use Rattle.due_model.specs.declared.config.Choices.{Choices}
use Rattle.due_model.specs.declared.config.Config.{Config}
use Rattle.due_model.specs.declared.zone.Zone.{Zone}
use Rattle.event_feed.specs.claims.Feed.{Answer}
use Rattle.made_feed.specs.declared.Supposed.{Supposed}
use Rattle.made_feed.specs.Made.{made_feed}
use Rattle.command_output.specs.claims.Outcome.{IsWriteFault}
use Rattle.command_output.specs.declared.outcome.Ending.{Ending}
use Rattle.written.specs.claims.Written.{Writes, WritesFront}
use Rattle.command_input.specs.claims.Objects.{CommandFails, IsTextBy}
use Rattle.replay.specs.claims.Replay.{AreOfFeed}
use Rattle.replay.specs.claims.Report.{ending_after}
use Rattle.report_telling.specs.Lines.{report_lines}
use Rattle.who_missed.specs.declared.forms.RowForm.{RowForm}
use Rattle.who_missed.specs.Missed.{missed_text}
use Rattle.who_told.specs.declared.fault.WhoFault.{WhoFault}
use Rattle.who_told.specs.declared.fault.WhoFault.TheVariants as fault
use Rattle.who_told.specs.Rows.{rows_text}
use Rattle.who_told.specs.Unknown.{unknown_in}

-- the feed of what is supposed
abbrev pub supposed_feed : Supposed → List ℕ
supposed_feed s =
    made_feed (map (λ host. host.now) s.down.now) s.host.now (option_copied s.service) s.state.now
    s.moment s.minutes

-- the table of the report of what a feed answers, in a form
abbrev pub table_text : RowForm → Config → Zone → List Answer → List ℕ
table_text form c zone given = rows_text form c zone (report_lines c zone given)

-- the feed of a week of it, by which it is seen when those are told who aren't
abbrev pub week_feed : Supposed → List ℕ
week_feed s =
    made_feed (map (λ host. host.now) s.down.now) s.host.now (option_copied s.service) s.state.now
    s.moment 10080

-- who is missing in the table, by the report of what a week answers
abbrev pub missing_text : RowForm → Config → Zone → Supposed → List Answer → List ℕ
missing_text form c zone s later =
    missed_text form c zone s.host.now (option_copied s.service) (s.moment + 60 * s.minutes)
    (report_lines c zone later)

-- ---- for a configuration

-- What was written is the table of the report of that feed, and the reading ended so.
abbrev pub TellsTable : RowForm → Supposed → Config → Zone → Ending → (old new : Option (List ℕ)) → Type 0
TellsTable form s config zone ending old new =
    (given : List Answer) × AreOfFeed false config (supposed_feed s) given
    × (ending ≡ ending_after [] given) × Writes old new (table_text form config zone given)

abbrev pub TellsTableFront : RowForm → Supposed → Config → Zone → (old new : Option (List ℕ)) → Type 0
TellsTableFront form s config zone old new =
    (given : List Answer) × AreOfFeed false config (supposed_feed s) given
    × WritesFront old new (table_text form config zone given)

-- What was written is who is missing in it.
abbrev pub TellsMissing : RowForm → Supposed → Config → Zone → (old new : Option (List ℕ)) → Type 0
TellsMissing form s config zone old new =
    (later : List Answer) × AreOfFeed false config (week_feed s) later
    × Writes old new (missing_text form config zone s later)

abbrev pub TellsMissingFront : RowForm → Supposed → Config → Zone → (old new : Option (List ℕ)) → Type 0
TellsMissingFront form s config zone old new =
    (later : List Answer) × AreOfFeed false config (week_feed s) later
    × WritesFront old new (missing_text form config zone s later)

-- What was written is the one and then the other.
abbrev pub TellsBoth : RowForm → Supposed → Config → Zone → Ending → (old new : Option (List ℕ)) → Type 0
TellsBoth form s config zone ending old new =
    (given : List Answer) × (later : List Answer)
    × AreOfFeed false config (supposed_feed s) given
    × AreOfFeed false config (week_feed s) later × (ending ≡ ending_after [] given)
    × Writes old new (table_text form config zone given ++ missing_text form config zone s later)

abbrev pub TellsBothFront : RowForm → Supposed → Config → Zone → (old new : Option (List ℕ)) → Type 0
TellsBothFront form s config zone old new =
    (given : List Answer) × (later : List Answer)
    × AreOfFeed false config (supposed_feed s) given
    × AreOfFeed false config (week_feed s) later
    × WritesFront old new (table_text form config zone given ++ missing_text form config zone s later)

-- All names are known, and what was written is that.
abbrev pub TellsKnown : RowForm → Supposed → Config → Zone → Ending → (old new : Option (List ℕ)) → Type 0
TellsKnown form s config zone ending old new =
    (unknown_in config s ≡ None) × TellsBoth form s config zone ending old new

-- what a fault says: this is the first that isn't known, and nothing was written; or a front of that was
abbrev pub FailsFor : RowForm → (can_fail : Bool) → Supposed → Config → Zone → WhoFault
    → (old new : Option (List ℕ)) → Type 0
FailsFor form can_fail s config zone (fault.Unknown unknown) old new =
    (unknown_in config s ≡ Some unknown) × Keeps old new
FailsFor form can_fail s config zone (fault.Command command) old new =
    IsWriteFault can_fail command × TellsBothFront form s config zone old new

-- ---- for object text

-- What was written is that, for the configuration of the object text.
abbrev pub TellsWho : Choices → RowForm → Supposed → (objects : List ℕ) → Zone → Ending
    → (old new : Option (List ℕ)) → Type 0
TellsWho choices form s objects zone ending old new =
    (config : Config) × IsTextBy choices config objects
    × TellsKnown form s config zone ending old new

-- what was written is a front of it
abbrev pub TellsWhoFront : Choices → RowForm → Supposed → (objects : List ℕ) → Zone
    → (old new : Option (List ℕ)) → Type 0
TellsWhoFront choices form s objects zone old new =
    (config : Config) × IsTextBy choices config objects
    × TellsBothFront form s config zone old new

-- what a fault says: this is the first that isn't known, and nothing was written; or a front of it was at most
abbrev pub FailsOf : Choices → RowForm → Supposed → (can_fail : Bool) → (objects : List ℕ) → Zone
    → WhoFault → (old new : Option (List ℕ)) → Type 0
FailsOf choices form s can_fail objects zone (fault.Unknown unknown) old new =
    (config : Config) × IsTextBy choices config objects × (unknown_in config s ≡ Some unknown)
    × Keeps old new
FailsOf choices form s can_fail objects zone (fault.Command command) old new =
    CommandFails choices can_fail objects command old new (TellsWhoFront choices form s objects zone old new)
