-- The report of a run: what its feed gives, and then what became of the messages of each lane.
use Rattle.std.specs.Prelude.{◌≡◌, ℕ, Bool, false, true, not, ltb, ◌==◌, List, [], ◌++◌, ◌⊎◌, flat_map, length, slice_index_or, Option, if◌then◌else◌}
use Rattle.std.specs.List.{list_any, range_with_len}
use Rattle.due_model.specs.declared.config.Config.{Config}
use Rattle.due_model.specs.declared.notice.Notice.{Notice}
use Rattle.due_model.specs.declared.notice.Suppression.{Suppression}
use Rattle.due_model.specs.declared.zone.Zone.{Zone}
use Rattle.event_feed.specs.declared.fault.RefusedLine.{RefusedLine}
use Rattle.engine.specs.declared.run_end.RunEnd.{RunEnd}
use Rattle.engine.specs.claims.Lanes.{LaneParts}
use Rattle.engine.specs.claims.Feed.{NoneIsAhead, ahead_in}
use Rattle.engine.specs.claims.Run.{IsReadOf, IsRunOf}
use Rattle.command_output.specs.declared.outcome.CommandFault.{CommandFault}
use Rattle.command_output.specs.declared.outcome.CommandFault.TheVariants.{NoMemory, Output}
use Rattle.command_output.specs.declared.outcome.Ending.{Ending}
use Rattle.command_output.specs.declared.outcome.Ending.TheVariants.{Whole, Short, Undelivered}
use Rattle.written.specs.claims.Written.{Writes, WritesFront}
use Rattle.command_output.specs.claims.ReportLine.{refused_line, suppression_line}
use Rattle.command_output.specs.claims.RunLine.{channel_line, closed_line, taken_line, undelivered_line}

-- ---- its parts

-- the lines of refused lines of the feed, in order
abbrev pub refused_text : List RefusedLine → List ℕ
refused_text refused = flat_map (λ r. refused_line r.line r.fault) refused

-- the lines of suppressions, in order
abbrev pub log_text : Config → List Suppression → List ℕ
log_text c log = flat_map (suppression_line c) log

-- the lines of some notices of a lane, in order
abbrev pub letters_text : (Notice → List ℕ) → List Notice → List ℕ
letters_text line notices = flat_map line notices

-- the lines of what a lane's channels have taken, one after another
abbrev pub taken_text : Config → LaneParts → List ℕ
taken_text c lane = flat_map (letters_text (taken_line c lane.lane.0)) lane.records

-- how many each channel of a lane that served has taken, in order
abbrev pub channel_lines : Config → LaneParts → List ℕ
channel_lines c lane =
    flat_map (λ n. channel_line c lane.lane.0 n (length (slice_index_or lane.records n [])))
    (range_with_len 0 (length lane.records))

-- the same, where it was given several
abbrev pub channels_text : Config → LaneParts → List ℕ
channels_text c lane = if ltb 1 lane.channels then channel_lines c lane else []

-- of a lane what its channels have taken, what it gave up, how many each of several channels has taken, and why it is closed
abbrev pub lane_lines : Config → LaneParts → List ℕ
lane_lines c lane =
    taken_text c lane
    ++ letters_text (undelivered_line c lane.lane.0) lane.undelivered
    ++ channels_text c lane
    ++ closed_line c lane.lane.0 lane.why

-- the lines of each lane, in order
abbrev pub lanes_text : Config → List LaneParts → List ℕ
lanes_text c lanes = flat_map (lane_lines c) lanes

-- the report of a run that has left this: what was refused, what was suppressed, and the lanes
abbrev pub report_text : Config → RunEnd → List ℕ
report_text c end =
    refused_text end.refused.items ++ log_text c end.log.items ++ lanes_text c end.lanes.items

-- ---- how it ended

-- whether a lane gave something up
abbrev pub has_undelivered : List LaneParts → Bool
has_undelivered lanes = list_any (λ lane. not (length lane.undelivered == 0)) lanes

-- before the end of the input, or with something undelivered, or with neither
abbrev pub ending_of : RunEnd → Ending
ending_of end =
    if end.cut then Short
    else (if has_undelivered end.lanes.items then Undelivered else Whole)

-- ---- what is written

-- A run of a feed whose bytes are known or not, and of whose lines none is refused as Ahead where no stamp is too late, has left this,
-- where each lane was given so many channels, of which this is known.
abbrev pub IsRun : (can_fail is_open : Bool) → Config → Zone → (given : ℕ → ℕ)
    → (tie : List LaneParts → Type 0) → (known : Option (List ℕ)) → RunEnd → Type 0
IsRun can_fail is_open c zone given tie known end =
    IsRunOf c zone given end.events.items end.memory end.lanes.items end.log.items
    × IsReadOf (ahead_in end.refused.items) can_fail c known end.memory end.events.items end.refused.items end.cut
    × (is_open ≡ true → NoneIsAhead end.refused.items)
    × tie end.lanes.items

-- the report of a run of this feed was written, for which there was memory, and it ended so
abbrev pub WritesReport : (can_fail is_open : Bool) → Config → Zone → (given : ℕ → ℕ)
    → (tie : List LaneParts → Type 0) → (known : Option (List ℕ)) → Ending → (before after : Option (List ℕ)) → Type 0
WritesReport can_fail is_open c zone given tie known ending before after =
    (end : RunEnd)
    × IsRun can_fail is_open c zone given tie known end
    × (end.memory ≡ false) × (ending ≡ ending_of end)
    × Writes before after (report_text c end)

-- A front of it was; where that was the output's fault, there was memory for the run. Or nothing was read for want of memory, and nothing
-- written.
abbrev pub WritesReportFront : (can_fail is_open : Bool) → Config → Zone → (given : ℕ → ℕ)
    → (tie : List LaneParts → Type 0) → (known : Option (List ℕ)) → CommandFault → (before after : Option (List ℕ))
    → Type 0
WritesReportFront can_fail is_open c zone given tie known fault before after =
    ((end : RunEnd)
    × IsRun can_fail is_open c zone given tie known end
    × (fault ≡ Output → end.memory ≡ false)
    × WritesFront before after (report_text c end))
    ⊎ ((fault ≡ NoMemory) × (after ≡ before))
