-- Laws of what is read of an input that begins with object text, and of what a command's fault says of it.
use Rattle.std.proofs.Common.{◌≡◌, ℕ, Bool, List, [], Option, None, Some, Result, Ok, Err, IfErr, IfSome, OnErr, inl, inr, ap, subst, ◌∙◌}
use Rattle.std.proofs.lemmas.Iterator.Adapters.{option_map_id}
use Rattle.due_model.specs.declared.config.Config.{Config}
use Rattle.due_model.specs.declared.config.Choices.{Choices}
use Rattle.text_lines.specs.LineReader.{Reading, to_come}
use Rattle.text_lines.specs.Text.{text_before}
use Rattle.written.specs.WrittenLaws.{keeps_same}
use Rattle.command_output.specs.declared.outcome.CommandFault.{CommandFault}
use Rattle.command_output.specs.declared.outcome.CommandFault.TheVariants.{Objects, Unreadable, Output, NoMemory}
use Rattle.command_output.specs.claims.Outcome.{IsWriteFault}
use Rattle.command_input.specs.claims.Objects.{CommandFails, IsTextBy}
use Rattle.command_input.specs.Objects.{GivesObjects, ObjectsFail, TextFails, feed_in, objects_in, objects_mark}

-- ---- bytes that are known

-- what holds of all bytes
pub some_all : (known : Option (List ℕ)) (P : List ℕ → Type 0) → ((bytes : List ℕ) → P bytes)
    → IfSome known P
some_all None P f = tt
some_all (Some bytes) P f = f bytes

-- what follows of the bytes from what is said of them where they are known
pub some_known : (known : Option (List ℕ)) (P : Option (List ℕ) → Type 0) (Q : List ℕ → Type 0)
    → P known → ((bytes : List ℕ) → P (Some bytes) → Q bytes) → IfSome known Q
some_known None P Q h f = tt
some_known (Some bytes) P Q h f = f bytes h

-- ---- what is read

-- of a reader of which nothing was read yet the bytes to come are those of its input
pub of_input : (known : Option (List ℕ)) (start : Reading) (P : Option (List ℕ) → Type 0)
    → start ≡ record { line = []; held = []; unread = known; calls = 0 } → P (to_come start)
    → P known
of_input known start P begins h =
    subst P (ap (λ (r : Reading). to_come r) begins ∙ option_map_id known) h

-- the text of known bytes, and the feed that is left
text_and_feed : (choices : Choices) (config : Config) (bytes : List ℕ) (rest : Option (List ℕ))
    → GivesObjects choices config (Some bytes) rest
    → IsTextBy choices config (objects_in bytes) × (rest ≡ Some (feed_in bytes))
text_and_feed choices config bytes None gives = absurd gives
text_and_feed choices config bytes (Some rest) gives =
    (gives.0, ap (λ (feed : List ℕ). Some feed) gives.1)

module _ (known : Option (List ℕ)) (start : Reading)
    (begins : start ≡ record { line = []; held = []; unread = known; calls = 0 }) where
  -- the object text of an input was accepted, and its feed is left
  pub input_read : (choices : Choices) (config : Config) (rest : Option (List ℕ)) (Q : List ℕ → Type 0)
      → GivesObjects choices config (to_come start) rest
      → ((bytes : List ℕ) → IsTextBy choices config (objects_in bytes) → rest ≡ Some (feed_in bytes)
      → Q bytes) → IfSome known Q
  input_read choices config rest Q gives each =
      some_known known (λ k. GivesObjects choices config k rest) Q
      (of_input known start (λ k. GivesObjects choices config k rest) begins gives)
      (λ bytes of. let both = text_and_feed choices config bytes rest of in each bytes both.0 both.1)

-- ---- what a fault says

-- the object text gives no configuration, and nothing was written
pub text_failed : (choices : Choices) (can_fail : Bool) (mark : Option (List ℕ)) (bytes : List ℕ)
    (fault : CommandFault) (held : Option (List ℕ)) (IsFront : Type 0)
    → TextFails choices can_fail mark fault (Some bytes)
    → CommandFails choices can_fail (text_before mark bytes) fault held held IsFront
text_failed choices can_fail mark bytes (Objects fault) held IsFront h = (h, keeps_same held)
text_failed choices can_fail mark bytes Unreadable held IsFront h = (keeps_same held, h)
text_failed choices can_fail mark bytes Output held IsFront h = absurd h
text_failed choices can_fail mark bytes NoMemory held IsFront h = inl (keeps_same held)

-- the same of the text of an input
pub input_failed : (choices : Choices) (can_fail : Bool) (known : Option (List ℕ)) (start : Reading)
    (fault : CommandFault) (held : Option (List ℕ)) (IsFront : List ℕ → Type 0)
    → start ≡ record { line = []; held = []; unread = known; calls = 0 }
    → ObjectsFail choices can_fail fault (to_come start)
    → IfSome known
    (λ bytes. CommandFails choices can_fail (objects_in bytes) fault held held (IsFront bytes))
input_failed choices can_fail known start fault held IsFront begins h =
    some_known known (λ k. ObjectsFail choices can_fail fault k)
    (λ bytes. CommandFails choices can_fail (objects_in bytes) fault held held (IsFront bytes))
    (of_input known start (λ k. ObjectsFail choices can_fail fault k) begins h)
    (λ bytes fails. text_failed choices can_fail objects_mark bytes fault held (IsFront bytes) fails)

-- the output failed, or memory ran out, once a front was written
write_failed : (choices : Choices) (sink can_fail : Bool) (text : List ℕ) (fault : CommandFault)
    (old new : Option (List ℕ)) (IsFront : Type 0) → IsWriteFault sink fault → IsFront
    → CommandFails choices can_fail text fault old new IsFront
write_failed choices sink can_fail text (Objects fault) old new IsFront w front = absurd w
write_failed choices sink can_fail text Unreadable old new IsFront w front = absurd w
write_failed choices sink can_fail text Output old new IsFront w front = front
write_failed choices sink can_fail text NoMemory old new IsFront w front = inr front

-- the same of what came of it
pub writing_failed : {T : Type 0} (choices : Choices) (sink can_fail : Bool) (text : List ℕ)
    (r : Result T CommandFault) (old new : Option (List ℕ)) (IsFront : Type 0)
    → IfErr r (λ fault. IsWriteFault sink fault) → OnErr r IsFront
    → IfErr r (λ fault. CommandFails choices can_fail text fault old new IsFront)
writing_failed choices sink can_fail text (Ok x) old new IsFront w front = tt
writing_failed choices sink can_fail text (Err fault) old new IsFront w front =
    write_failed choices sink can_fail text fault old new IsFront w front
