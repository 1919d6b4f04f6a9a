-- What a trace does: it writes what its steps lead to, or fails.
use Rattle.std.specs.Prelude.{◌≡◌, ℕ, ◌+◌, Bool, true, false, List, [], ◌++◌, length, replicate, ◌⊎◌, Option}
use Rattle.due_model.specs.declared.config.Choices.{Choices}
use Rattle.due_model.specs.declared.config.Config.{Config}
use Rattle.due_model.specs.declared.zone.Zone.{Zone}
use Rattle.due_model.specs.declared.zone.Zone.TheVariants.{Utc}
use Rattle.event_feed.specs.claims.Feed.{Answer, answers}
use Rattle.text_lines.specs.claims.Lines.{pieces}
use Rattle.steps.specs.declared.settings.Settings.{Settings}
use Rattle.world_steps.specs.Runs.{new_world}
use Rattle.world_steps.specs.claims.Worlds.{Setup, setup_for}
use Rattle.command_output.specs.declared.outcome.CommandFault.{CommandFault}
use Rattle.command_output.specs.declared.outcome.Ending.{Ending}
use Rattle.command_output.specs.declared.outcome.Ending.TheVariants.{Short, Whole}
use Rattle.written.specs.claims.Written.{Leaves, Writes, WritesFront}
use Rattle.trace.specs.declared.feed.AfterFeed.{AfterFeed}
use Rattle.trace.specs.declared.feed.AfterFeed.TheVariants as feed
use Rattle.trace.specs.Feed.{FeedBegins, FeedEnds, FeedState, after_answers}
use Rattle.trace.specs.LaneLines.{world_text}
use Rattle.command_input.specs.claims.Objects.{CommandFails, IsTextBy}
use Rattle.command_input.specs.Objects.{feed_in, objects_in}
use Rattle.trace.specs.Run.{RunState}
use Rattle.trace.specs.StepLines.{DoesFirst, DoesSteps}

-- how a trace ends whose steps were read to their end
abbrev pub ending_of : (over : Bool) → Ending
ending_of true = Short
ending_of false = Whole

-- once the steps were read: the lines of the lanes, where all of them were read
abbrev pub lines_after : (all : Bool) → Setup → RunState → List ℕ
lines_after true s run = world_text s run.world
lines_after false s run = []

abbrev pub ending_after : (all over : Bool) → Ending
ending_after true over = ending_of over
ending_after false over = Short

-- what is written after the feed, and how the trace ends
abbrev pub EndsTrace : (can_fail : Bool) → Config → (deciders : ℕ) → Setup → (start : RunState)
    → (over : Bool)
    → AfterFeed → (rest : List ℕ)
    → Ending → (text : List ℕ) → Type 0
EndsTrace can_fail c deciders s start over feed.Steps rest ending text =
    (all : Bool) × (new : RunState) × (steps : List ℕ)
    × DoesSteps can_fail c deciders s rest all start new steps
    × (text ≡ steps ++ lines_after all s new) × (ending ≡ ending_after all over)
EndsTrace can_fail c deciders s start over feed.Nothing rest ending text =
    (text ≡ world_text s start.world) × (ending ≡ ending_of over)
EndsTrace can_fail c deciders s start over feed.Cut rest ending text =
    (text ≡ world_text s start.world) × (ending ≡ Short)
EndsTrace can_fail c deciders s start over feed.Unread rest ending text =
    (text ≡ []) × (ending ≡ Short)

-- the same, on its way to the writer
abbrev pub WritesEnd : (can_fail : Bool) → Config → (deciders : ℕ) → Setup → (start : RunState)
    → (over : Bool)
    → AfterFeed → (rest : List ℕ)
    → Ending → (before after : Option (List ℕ)) → (held held' : List ℕ) → Type 0
WritesEnd can_fail c deciders s start over end rest ending before after held held' =
    (text : List ℕ) × EndsTrace can_fail c deciders s start over end rest ending text
    × Leaves before after (held ++ text) held'

-- what is written first after the feed, or all of it
abbrev pub BeginsEnd : (can_fail : Bool) → Config → (deciders : ℕ) → Setup → (start : RunState)
    → (over : Bool)
    → AfterFeed → (rest : List ℕ) → (text : List ℕ) → Type 0
BeginsEnd can_fail c deciders s start over end rest text =
    ((end ≡ feed.Steps) × DoesFirst c deciders s rest start text)
    ⊎ ((ending : Ending) × EndsTrace can_fail c deciders s start over end rest ending text)

-- a front of it is written, after what is held
abbrev pub EndFront : (can_fail : Bool) → Config → (deciders : ℕ) → Setup → (start : RunState)
    → (over : Bool)
    → AfterFeed → (rest : List ℕ) → (before after : Option (List ℕ)) → (held : List ℕ) → Type 0
EndFront can_fail c deciders s start over end rest before after held =
    (text : List ℕ) × BeginsEnd can_fail c deciders s start over end rest text
    × WritesFront before after (held ++ text)

-- the world in which a trace begins: all its lanes serve, each with so many channels that stand by
abbrev pub trace_setup : Config → Zone → Settings → Setup
trace_setup c zone settings = setup_for c zone settings

abbrev pub start_with : Config → Zone → Settings → (standbys : ℕ) → FeedState → RunState
start_with c zone settings standbys f = record {
  events = f.events;
  posted = 0;
  world = new_world (trace_setup c zone settings) (replicate (length c.lanes) (standbys + 1));
}

-- nothing of a feed yet
abbrev pub no_feed : FeedState
no_feed = record { events = []; over = false; text = [] }

-- What is written of a feed and the steps after it: the refused lines of the feed in order, then those of the step lines in
-- order, and then the lines of what the lanes hold in the world that the steps lead to.
abbrev pub TracesFeed : (can_fail : Bool) → Config → Zone → Settings → (standbys : ℕ) → (bytes : List ℕ) → Ending
    → (old new : Option (List ℕ))
    → Type 0
TracesFeed can_fail c zone settings standbys bytes ending old new =
    (end : AfterFeed) × (given : List Answer) × (rest : List ℕ) × (text : List ℕ)
    × FeedEnds can_fail (answers c.objects 0 0 (pieces bytes)) 0 bytes end given rest
    × EndsTrace can_fail c settings.deciders (trace_setup c zone settings)
    (start_with c zone settings standbys (after_answers no_feed given))
    (after_answers no_feed given).over end rest ending text
    × Writes old new ((after_answers no_feed given).text ++ text)

-- the same of the bytes of an input, whose object text was accepted, for local times of a zone
abbrev pub TracesIn : Choices → (can_fail : Bool) → Zone → Settings → (standbys : ℕ) → (bytes : List ℕ) → Ending
    → (old new : Option (List ℕ)) → Type 0
TracesIn choices can_fail zone settings standbys bytes ending old new =
    (config : Config) × IsTextBy choices config (objects_in bytes)
    × TracesFeed can_fail config zone settings standbys (feed_in bytes) ending old new

-- and in UTC
abbrev pub Traces : Choices → (can_fail : Bool) → Settings → (standbys : ℕ) → (bytes : List ℕ) → Ending
    → (old new : Option (List ℕ)) → Type 0
Traces choices can_fail settings standbys bytes ending old new =
    TracesIn choices can_fail Utc settings standbys bytes ending old new

-- What is written first of a feed and the steps after it: of the first lines of the feed, or of all of it and of the first
-- step lines, or all.
abbrev pub BeginsTrace : (can_fail : Bool) → Config → Zone → Settings → (standbys : ℕ) → (bytes : List ℕ)
    → (given : List Answer) → (text : List ℕ) → Type 0
BeginsTrace can_fail c zone settings standbys bytes given text =
    (FeedBegins can_fail (answers c.objects 0 0 (pieces bytes)) 0 bytes given × (text ≡ []))
    ⊎ ((end : AfterFeed) × (rest : List ℕ)
    × FeedEnds can_fail (answers c.objects 0 0 (pieces bytes)) 0 bytes end given rest
    × BeginsEnd can_fail c settings.deciders (trace_setup c zone settings)
    (start_with c zone settings standbys (after_answers no_feed given))
    (after_answers no_feed given).over end rest text)

-- a front of it was written, and nothing else
abbrev pub TracesFront : (can_fail : Bool) → Config → Zone → Settings → (standbys : ℕ) → (bytes : List ℕ)
    → (old new : Option (List ℕ)) → Type 0
TracesFront can_fail c zone settings standbys bytes old new =
    (given : List Answer) × (text : List ℕ)
    × BeginsTrace can_fail c zone settings standbys bytes given text
    × WritesFront old new ((after_answers no_feed given).text ++ text)

-- the same of the bytes of an input, whose object text was accepted
abbrev pub TracesFrontIn : Choices → (can_fail : Bool) → Zone → Settings → (standbys : ℕ) → (bytes : List ℕ)
    → (old new : Option (List ℕ)) → Type 0
TracesFrontIn choices can_fail zone settings standbys bytes old new =
    (config : Config) × IsTextBy choices config (objects_in bytes)
    × TracesFront can_fail config zone settings standbys (feed_in bytes) old new

-- what a fault says: a front of the trace is written at most
abbrev pub FailsWith : Choices → (can_fail : Bool) → Zone → Settings → (standbys : ℕ) → (bytes : List ℕ) → CommandFault
    → (old new : Option (List ℕ)) → Type 0
FailsWith choices can_fail zone settings standbys bytes fault old new =
    CommandFails choices can_fail (objects_in bytes) fault old new
    (TracesFrontIn choices can_fail zone settings standbys bytes old new)
