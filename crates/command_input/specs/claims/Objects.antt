-- The object text at the head of an input, and the feed after it; and the object text of a file.
use Rattle.std.specs.Prelude.{◌≡◌, ℕ, ◌<◌, Bool, true, List, length, ◌⊎◌, Option}
use Rattle.std.specs.Io.KnownBytes.{Keeps}
use Rattle.due_model.specs.declared.config.Choices.{Choices}
use Rattle.due_model.specs.declared.config.Config.{Config}
use Rattle.object_faults.specs.declared.load_fault.LoadFault.{LoadFault}
use Rattle.object_faults.specs.declared.load_fault.LoadFault.TheVariants as load
use Rattle.object_resolve.specs.claims.Text.{IsTextFault, IsTextOf}
use Rattle.text_lines.specs.Text.{text_limit}
use Rattle.command_output.specs.declared.outcome.CommandFault.{CommandFault}
use Rattle.command_output.specs.declared.outcome.CommandFault.TheVariants.{Objects, Unreadable, Output, NoMemory}

-- the text gives this configuration by these choices
abbrev pub IsTextBy : Choices → Config → List ℕ → Type 0
IsTextBy choices config text = IsTextOf choices.text config text × (config.choices ≡ choices)

-- The fault of a text that was read: it is too large as it stands, or it is that of the text as these choices read it.
abbrev pub IsFaultBy : Choices → List ℕ → LoadFault → Type 0
IsFaultBy choices text fault =
    IsTextFault choices.text text fault ⊎ ((fault ≡ load.TooLarge) × (text_limit < length text))

-- ---- what a command that reads it says of its fault

-- Where the text is refused or can't be read nothing was written; where the output failed what was written is a front, and
-- where memory ran out that, or nothing. Only a reader that can fail makes the text unreadable.
abbrev pub CommandFails : Choices → (can_fail : Bool) → (text : List ℕ) → CommandFault
    → (old new : Option (List ℕ)) → (IsFront : Type 0) → Type 0
CommandFails choices can_fail text (Objects fault) old new IsFront = IsFaultBy choices text fault × Keeps old new
CommandFails choices can_fail text Unreadable old new IsFront = Keeps old new × (can_fail ≡ true)
CommandFails choices can_fail text Output old new IsFront = IsFront
CommandFails choices can_fail text NoMemory old new IsFront = Keeps old new ⊎ IsFront
