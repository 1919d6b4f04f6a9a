-- The report of a run: what its feed gives, and then what became of the messages of each lane.
use Rattle.std.specs.Prelude.{◌≡◌, ℕ, Bool, false, true, List, ◌++◌, ◌⊎◌, flat_map, Option}
use Rattle.due_model.specs.declared.config.Config.{Config}
use Rattle.due_model.specs.declared.notice.Suppression.{Suppression}
use Rattle.due_model.specs.declared.zone.Zone.{Zone}
use Rattle.engine.specs.declared.run_end.RunEnd.{RunEnd}
use Rattle.engine.specs.claims.Lanes.{LaneParts}
use Rattle.engine.specs.claims.Feed.{NoneIsAhead, ahead_in}
use Rattle.engine.specs.claims.Run.{IsReadOf}
use Rattle.engine.specs.Run.{IsToldRunOf}
use Rattle.command_output.specs.declared.outcome.CommandFault.{CommandFault}
use Rattle.command_output.specs.declared.outcome.CommandFault.TheVariants.{NoMemory, Output}
use Rattle.command_output.specs.declared.outcome.Ending.{Ending}
use Rattle.written.specs.claims.Written.{Writes, WritesFront}
use Rattle.command_output.specs.claims.RunLine.{closed_line}
use Rattle.run_command.specs.claims.Report.{channels_text, ending_of}

-- of a lane how many each of several channels has taken, and why it is closed
abbrev pub end_lines : Config → LaneParts → List ℕ
end_lines c lane = channels_text c lane ++ closed_line c lane.lane.0 lane.why

-- the lines of the end of each lane, in order
abbrev pub ends_text : Config → List LaneParts → List ℕ
ends_text c lanes = flat_map (end_lines c) lanes

-- ---- where the deciders have logs

-- A run of a feed has left this, and told these logs what it suppressed.
abbrev pub IsToldRun : {L : Type 0} → (tells : L → List Suppression → L → Type 0) → (failed : L → Bool) → (can_fail is_open : Bool) → Config
    → Zone → (given : ℕ → ℕ) → (tie : List LaneParts → Type 0) → (known : Option (List ℕ)) → (logs back : List L) → RunEnd → Type 0
IsToldRun tells failed can_fail is_open c zone given tie known logs back end =
    IsToldRunOf tells failed c zone given end.events.items end.memory end.lanes.items logs back end.log.items
    × IsReadOf (ahead_in end.refused.items) can_fail c known end.memory end.events.items end.refused.items end.cut
    × (is_open ≡ true → NoneIsAhead end.refused.items)
    × tie end.lanes.items

-- the ends of its lanes were written, for which there was memory, and it ended so
abbrev pub WritesEnds : {L : Type 0} → (tells : L → List Suppression → L → Type 0) → (failed : L → Bool) → (can_fail is_open : Bool) → Config
    → Zone → (given : ℕ → ℕ) → (tie : List LaneParts → Type 0) → (known : Option (List ℕ)) → (logs back : List L) → Ending
    → (before after : Option (List ℕ)) → Type 0
WritesEnds tells failed can_fail is_open c zone given tie known logs back ending before after =
    (end : RunEnd)
    × IsToldRun tells failed can_fail is_open c zone given tie known logs back end
    × (end.memory ≡ false) × (ending ≡ ending_of end)
    × Writes before after (ends_text c end.lanes.items)

-- A front of them was; where that was the output's fault, there was memory for the run. Or nothing was read for want of memory, and nothing
-- written.
abbrev pub WritesEndsFront : {L : Type 0} → (tells : L → List Suppression → L → Type 0) → (failed : L → Bool) → (can_fail is_open : Bool)
    → Config → Zone → (given : ℕ → ℕ) → (tie : List LaneParts → Type 0) → (known : Option (List ℕ)) → (logs back : List L) → CommandFault
    → (before after : Option (List ℕ)) → Type 0
WritesEndsFront tells failed can_fail is_open c zone given tie known logs back fault before after =
    ((end : RunEnd)
    × IsToldRun tells failed can_fail is_open c zone given tie known logs back end
    × (fault ≡ Output → end.memory ≡ false)
    × WritesFront before after (ends_text c end.lanes.items))
    ⊎ ((fault ≡ NoMemory) × (after ≡ before))
