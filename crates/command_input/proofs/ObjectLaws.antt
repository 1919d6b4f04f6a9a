-- What a fault of object text says of the bytes that were read.
use Rattle.std.proofs.Common.{◌≡◌, ◌<◌, ℕ, Bool, List, Option, ◌⊎◌, None, Some, IfSome, inl, inr, length, refl, sym, subst}
use Rattle.due_model.specs.declared.config.Choices.{Choices}
use Rattle.due_model.specs.declared.config.Config.{Config}
use Rattle.object_faults.specs.declared.load_fault.LoadFault.{LoadFault}
use Rattle.object_faults.specs.declared.load_fault.LoadFault.TheVariants as load
use Rattle.object_resolve.specs.claims.Text.{IsTextFault}
use Rattle.text_lines.specs.claims.Lines.{Known}
use Rattle.command_output.specs.Outcome.{fault_of}
use Rattle.command_input.specs.claims.Objects.{IsFaultBy}
use Rattle.command_input.specs.Objects.{IsFileOf, GivesText, TextFails}
use Rattle.text_lines.specs.Text.{rest_after, text_before, text_limit}

text_fault : (choices : Choices) (mark : Option (List ℕ)) (fault : LoadFault) (text : List ℕ) (known after : Option (List ℕ)) → IsTextFault choices.text text fault
    → Known known after (λ bytes rest. (text ≡ text_before mark bytes) × (rest ≡ rest_after mark bytes)) → IfSome known (λ bytes. IsFaultBy choices (text_before mark bytes) fault)
text_fault choices mark fault text None after is k = tt
text_fault choices mark fault text (Some bytes) None is k = absurd k
text_fault choices mark fault text (Some bytes) (Some rest) is k = inl (subst (λ (t : List ℕ). IsTextFault choices.text t fault) k.0 is)

pub load_fault : (choices : Choices) (can_fail : Bool) (mark : Option (List ℕ)) (fault : LoadFault) (text : List ℕ) (known after : Option (List ℕ)) → (fault ≡ load.NoMemory) ⊎ IsTextFault choices.text text fault
    → Known known after (λ bytes rest. (text ≡ text_before mark bytes) × (rest ≡ rest_after mark bytes)) → TextFails choices can_fail mark (fault_of fault) known
load_fault choices can_fail mark fault text known after (inl is) k = subst (λ (f : LoadFault). TextFails choices can_fail mark (fault_of f) known) (sym is) tt
load_fault choices can_fail mark load.NoMemory text known after (inr is) k = tt
load_fault choices can_fail mark fault text known after (inr is) k = text_fault choices mark fault text known after is k

-- a text that is too large as it stands
pub large_text : (choices : Choices) (mark : Option (List ℕ)) (known : Option (List ℕ)) → IfSome known (λ bytes. text_limit < length (text_before mark bytes))
    → IfSome known (λ bytes. IsFaultBy choices (text_before mark bytes) load.TooLarge)
large_text choices mark None large = tt
large_text choices mark (Some bytes) large = inr (refl, large)

-- a text that is all of an input
pub file_of : (choices : Choices) (config : Config) (known after : Option (List ℕ)) → GivesText None choices config known after → IsFileOf choices config known
file_of choices config None after gives = tt
file_of choices config (Some text) None gives = absurd gives
file_of choices config (Some text) (Some rest) gives = gives.0
