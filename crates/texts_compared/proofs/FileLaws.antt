-- From a comparison of configurations to one of object texts.
use Rattle.std.proofs.Common.{◌≡◌, ℕ, Bool, true, List, Option, None, Some, IfSome, inl, inr}
use Rattle.due_model.specs.declared.config.Choices.{Choices}
use Rattle.due_model.specs.declared.config.Config.{Config}
use Rattle.due_model.specs.declared.zone.Zone.{Zone}
use Rattle.written.specs.WrittenLaws.{keeps_same}
use Rattle.command_output.specs.declared.outcome.CommandFault.{CommandFault}
use Rattle.command_output.specs.declared.outcome.CommandFault.TheVariants.{Objects, Unreadable, Output, NoMemory}
use Rattle.command_output.specs.declared.outcome.Ending.{Ending}
use Rattle.command_output.specs.claims.Outcome.{IsWriteFault}
use Rattle.command_input.specs.InputLaws.{some_all, some_known, text_failed}
use Rattle.command_input.specs.claims.Objects.{CommandFails, IsTextBy}
use Rattle.command_input.specs.Objects.{FileFails, IsFileOf}
use Rattle.changed_notices.specs.declared.changed.ChangeForm.{ChangeForm}
use Rattle.texts_compared.specs.declared.fault.CompareFault.{CompareFault}
use Rattle.texts_compared.specs.declared.fault.CompareFault.TheVariants.{Command, With, WithUnreadable}
use Rattle.notices_compared.specs.Compares.{ComparesFor, ComparesFrontFor}
use Rattle.texts_compared.specs.Fault.{fault_of_second}
use Rattle.texts_compared.specs.Files.{ComparesFrontOf, ComparesOf, FailsOf, SecondFails}

-- of three inputs whose bytes may be known
each_known : (P : List ℕ → Type 0) (Q : List ℕ → Type 0) (R : List ℕ → List ℕ → List ℕ → Type 0) (S : List ℕ → Type 0) (firsts seconds known : Option (List ℕ)) → IfSome firsts P → IfSome seconds Q → IfSome known S
    → ((first second bytes : List ℕ) → P first → Q second → S bytes → R first second bytes) → IfSome firsts (λ first. IfSome seconds (λ second. IfSome known (λ bytes. R first second bytes)))
each_known P Q R S None seconds known p q s each = tt
each_known P Q R S (Some first) None known p q s each = tt
each_known P Q R S (Some first) (Some second) None p q s each = tt
each_known P Q R S (Some first) (Some second) (Some bytes) p q s each = each first second bytes p q s

module _ (choices : Choices) (form : ChangeForm) (x y can_fail : Bool) (zone : Zone) (firsts seconds known : Option (List ℕ)) (old new : Option (List ℕ)) where
  -- the first text gives no configuration
  pub first_failed : (fault : CommandFault) → FileFails choices x fault firsts
      → IfSome firsts (λ first. IfSome seconds (λ second. IfSome known (λ bytes. FailsOf choices form x y can_fail first second bytes zone (Command fault) old old)))
  first_failed fault h =
      some_known firsts (λ k. FileFails choices x fault k) (λ first. IfSome seconds (λ second. IfSome known (λ bytes. FailsOf choices form x y can_fail first second bytes zone (Command fault) old old))) h
      (λ first fails. some_all seconds _ (λ second. some_all known _
      (λ bytes. text_failed choices x None first fault old (ComparesFrontOf choices form can_fail first second bytes zone old old) fails)))

  second_at : (a : Config) (fault : CompareFault) (first second bytes : List ℕ) → IsTextBy choices a first → SecondFails choices y fault (Some second) → FailsOf choices form x y can_fail first second bytes zone fault old old
  second_at a (With fault) first second bytes of h = (a, of, h, keeps_same old)
  second_at a WithUnreadable first second bytes of h = (a, of, keeps_same old, h)
  second_at a (Command (Objects fault)) first second bytes of h = absurd h
  second_at a (Command Unreadable) first second bytes of h = absurd h
  second_at a (Command Output) first second bytes of h = absurd h
  second_at a (Command NoMemory) first second bytes of h = inl (keeps_same old)

  -- the second gives none
  pub second_failed : (a : Config) (fault : CompareFault) → IsFileOf choices a firsts → SecondFails choices y fault seconds
      → IfSome firsts (λ first. IfSome seconds (λ second. IfSome known (λ bytes. FailsOf choices form x y can_fail first second bytes zone fault old old)))
  second_failed a fault of h =
      some_known firsts (λ k. IsFileOf choices a k) (λ first. IfSome seconds (λ second. IfSome known (λ bytes. FailsOf choices form x y can_fail first second bytes zone fault old old))) of
      (λ first is. some_known seconds (λ k. SecondFails choices y fault k) (λ second. IfSome known (λ bytes. FailsOf choices form x y can_fail first second bytes zone fault old old)) h
      (λ second fails. some_all known _ (λ bytes. second_at a fault first second bytes is fails)))

  module _ (a b : Config) (of : IsFileOf choices a firsts) (of' : IsFileOf choices b seconds) where
    -- both give one, and the changes were written
    pub compares : (ending : Ending) → IfSome known (λ bytes. ComparesFor form can_fail a b bytes zone ending old new)
        → IfSome firsts (λ first. IfSome seconds (λ second. IfSome known (λ bytes. ComparesOf choices form can_fail first second bytes zone ending old new)))
    compares ending h =
        each_known (IsTextBy choices a) (IsTextBy choices b) (λ first second bytes. ComparesOf choices form can_fail first second bytes zone ending old new) (λ bytes. ComparesFor form can_fail a b bytes zone ending old new) firsts seconds known of of' h
        (λ first second bytes is is' all. (a, b, is, is', all))

    fails_at : (sink : Bool) (fault : CommandFault) (first second bytes : List ℕ) → IsWriteFault sink fault → ComparesFrontOf choices form can_fail first second bytes zone old new
        → FailsOf choices form x y can_fail first second bytes zone (Command fault) old new
    fails_at sink (Objects fault) first second bytes w h = absurd w
    fails_at sink Unreadable first second bytes w h = absurd w
    fails_at sink Output first second bytes w h = h
    fails_at sink NoMemory first second bytes w h = inr h

    -- or a front of them
    pub fails : (sink : Bool) (fault : CommandFault) → IsWriteFault sink fault → IfSome known (λ bytes. ComparesFrontFor form can_fail a b bytes zone old new)
        → IfSome firsts (λ first. IfSome seconds (λ second. IfSome known (λ bytes. FailsOf choices form x y can_fail first second bytes zone (Command fault) old new)))
    fails sink fault w h =
        each_known (IsTextBy choices a) (IsTextBy choices b) (λ first second bytes. FailsOf choices form x y can_fail first second bytes zone (Command fault) old new) (λ bytes. ComparesFrontFor form can_fail a b bytes zone old new) firsts seconds known of of' h
        (λ first second bytes is is' front. fails_at sink fault first second bytes w (a, b, is, is', front))

-- a fault of the second text, where it was read
pub second_reads : (choices : Choices) (y : Bool) (fault : CommandFault) (seconds : Option (List ℕ)) → FileFails choices y fault seconds → SecondFails choices y (fault_of_second fault) seconds
second_reads choices y (Objects fault) seconds h = h
second_reads choices y Unreadable seconds h = h
second_reads choices y Output seconds h = h
second_reads choices y NoMemory seconds h = tt
