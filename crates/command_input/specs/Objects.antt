-- The object text at the head of an input, and the feed after it; and the object text of a file.
use Rattle.std.specs.Prelude.{◌≡◌, ℕ, Bool, true, List, codes, IfSome, Option, None, Some, ⊤}
use Rattle.due_model.specs.declared.config.Choices.{Choices}
use Rattle.due_model.specs.declared.config.Config.{Config}
use Rattle.text_lines.specs.claims.Lines.{Known}
use Rattle.text_lines.specs.Text.{rest_after, text_before}
use Rattle.command_output.specs.declared.outcome.CommandFault.{CommandFault}
use Rattle.command_output.specs.declared.outcome.CommandFault.TheVariants.{Objects, Unreadable, Output, NoMemory}
use Rattle.command_input.specs.claims.Objects.{IsTextBy, IsFaultBy}

-- where the bytes are known, the text before the mark gives this configuration, and what follows it is left to be read
abbrev pub GivesText : (mark : Option (List ℕ)) → Choices → Config → (before after : Option (List ℕ)) → Type 0
GivesText mark choices config before after = Known before after
    (λ bytes rest. IsTextBy choices config (text_before mark bytes)
    × (rest ≡ rest_after mark bytes))

-- what a fault says of that text, where the bytes are known; only a reader that can fail makes it unreadable
abbrev pub TextFails : Choices → (can_fail : Bool) → (mark : Option (List ℕ)) → CommandFault
    → Option (List ℕ) → Type 0
TextFails choices can_fail mark (Objects fault) known =
    IfSome known (λ bytes. IsFaultBy choices (text_before mark bytes) fault)
TextFails choices can_fail mark Unreadable known = can_fail ≡ true
TextFails choices can_fail mark Output known = ⊥
TextFails choices can_fail mark NoMemory known = ⊤

-- ---- the text at the head of an input

-- the line that ends it
abbrev pub objects_mark : Option (List ℕ)
objects_mark = Some (codes "%events")

-- the bytes before the first line that is the mark, and those after that line
abbrev pub objects_in : List ℕ → List ℕ
objects_in bytes = text_before objects_mark bytes

abbrev pub feed_in : List ℕ → List ℕ
feed_in bytes = rest_after objects_mark bytes

abbrev pub GivesObjects : Choices → Config → (before after : Option (List ℕ)) → Type 0
GivesObjects choices config before after = GivesText objects_mark choices config before after

abbrev pub ObjectsFail : Choices → (can_fail : Bool) → CommandFault → Option (List ℕ) → Type 0
ObjectsFail choices can_fail fault known = TextFails choices can_fail objects_mark fault known

-- ---- the text of a file of its own

-- where its bytes are known, they give this configuration
abbrev pub IsFileOf : Choices → Config → Option (List ℕ) → Type 0
IsFileOf choices config known = IfSome known (λ text. IsTextBy choices config text)

-- what a fault says of it
abbrev pub FileFails : Choices → (can_fail : Bool) → CommandFault → Option (List ℕ) → Type 0
FileFails choices can_fail fault known = TextFails choices can_fail None fault known
