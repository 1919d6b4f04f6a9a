-- What it does to compare two object texts over a feed.
use Rattle.std.specs.Prelude.{◌≡◌, ℕ, Bool, true, List, Option, IfSome, ⊤}
use Rattle.std.specs.Io.KnownBytes.{Keeps}
use Rattle.due_model.specs.declared.config.Choices.{Choices}
use Rattle.due_model.specs.declared.config.Config.{Config}
use Rattle.due_model.specs.declared.zone.Zone.{Zone}
use Rattle.command_output.specs.declared.outcome.CommandFault.{CommandFault}
use Rattle.command_output.specs.declared.outcome.CommandFault.TheVariants.{Objects, Unreadable, Output, NoMemory}
use Rattle.command_output.specs.declared.outcome.Ending.{Ending}
use Rattle.command_input.specs.claims.Objects.{CommandFails, IsFaultBy, IsTextBy}
use Rattle.changed_notices.specs.declared.changed.ChangeForm.{ChangeForm}
use Rattle.texts_compared.specs.declared.fault.CompareFault.{CompareFault}
use Rattle.texts_compared.specs.declared.fault.CompareFault.TheVariants.{Command, With, WithUnreadable}
use Rattle.notices_compared.specs.Compares.{ComparesFor, ComparesFrontFor}

-- What was written is the changes and the table, for the configurations of the two texts, and the reading ended so.
abbrev pub ComparesOf : Choices → ChangeForm → (can_fail : Bool) → (first second feed : List ℕ) → Zone
    → Ending → (old new : Option (List ℕ)) → Type 0
ComparesOf choices form can_fail first second feed zone ending old new =
    (a : Config) × (b : Config) × IsTextBy choices a first × IsTextBy choices b second
    × ComparesFor form can_fail a b feed zone ending old new

-- what was written is a front of that
abbrev pub ComparesFrontOf : Choices → ChangeForm → (can_fail : Bool) → (first second feed : List ℕ) → Zone
    → (old new : Option (List ℕ)) → Type 0
ComparesFrontOf choices form can_fail first second feed zone old new =
    (a : Config) × (b : Config) × IsTextBy choices a first × IsTextBy choices b second
    × ComparesFrontFor form can_fail a b feed zone old new

-- what a fault says of the second text
abbrev pub SecondFails : Choices → (can_fail : Bool) → CompareFault → Option (List ℕ) → Type 0
SecondFails choices can_fail (With fault) known = IfSome known (λ text. IsFaultBy choices text fault)
SecondFails choices can_fail WithUnreadable known = can_fail ≡ true
SecondFails choices can_fail (Command (Objects fault)) known = ⊥
SecondFails choices can_fail (Command Unreadable) known = ⊥
SecondFails choices can_fail (Command Output) known = ⊥
SecondFails choices can_fail (Command NoMemory) known = ⊤

-- What a fault says: where a text is refused or can't be read nothing was written, and the first is looked at before the
-- second; where the output failed what was written is a front, and where memory ran out that, or nothing.
abbrev pub FailsOf : Choices → ChangeForm → (first_can_fail second_can_fail can_fail : Bool)
    → (first second feed : List ℕ) → Zone → CompareFault → (old new : Option (List ℕ)) → Type 0
FailsOf choices form x y can_fail first second feed zone (Command fault) old new =
    CommandFails choices x first fault old new
    (ComparesFrontOf choices form can_fail first second feed zone old new)
FailsOf choices form x y can_fail first second feed zone (With fault) old new =
    (a : Config) × IsTextBy choices a first × IsFaultBy choices second fault × Keeps old new
FailsOf choices form x y can_fail first second feed zone WithUnreadable old new =
    (a : Config) × IsTextBy choices a first × Keeps old new × (y ≡ true)
