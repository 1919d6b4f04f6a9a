-- From the trace of a feed to that of an input.
use Rattle.std.proofs.Common.{◌≡◌, ℕ, Bool, List, [], Option, Result, IfErr, IfOk, IfSome, OnErr, subst}
use Rattle.std.proofs.lemmas.Result.{IfOk-weaker, on_err_weaker}
use Rattle.due_model.specs.declared.config.Choices.{Choices}
use Rattle.due_model.specs.declared.config.Config.{Config}
use Rattle.due_model.specs.declared.zone.Zone.{Zone}
use Rattle.text_lines.specs.LineReader.{Reading, to_come}
use Rattle.steps.specs.declared.settings.Settings.{Settings}
use Rattle.command_output.specs.declared.outcome.CommandFault.{CommandFault}
use Rattle.command_output.specs.declared.outcome.Ending.{Ending}
use Rattle.command_output.specs.claims.Outcome.{IsWriteFault}
use Rattle.command_input.specs.InputLaws.{input_read, writing_failed}
use Rattle.command_input.specs.Objects.{GivesObjects, objects_in}
use Rattle.trace.specs.Trace.{FailsWith, TracesFeed, TracesFront, TracesFrontIn, TracesIn}

module _ (choices : Choices) (can_fail : Bool) (c : Config) (zone : Zone) (settings : Settings) (standbys : ℕ) (known rest : Option (List ℕ)) (start : Reading) (r : Result Ending CommandFault) (old new : Option (List ℕ))
    (begins : start ≡ record { line = []; held = []; unread = known; calls = 0 }) (gives : GivesObjects choices c (to_come start) rest) where
  pub traces_of_input : IfOk r (λ ending. IfSome rest (λ feed. TracesFeed can_fail c zone settings standbys feed ending old new))
      → IfSome known (λ bytes. IfOk r (λ ending. TracesIn choices can_fail zone settings standbys bytes ending old new))
  traces_of_input h =
      input_read known start begins choices c rest (λ bytes. IfOk r (λ ending. TracesIn choices can_fail zone settings standbys bytes ending old new)) gives
      (λ bytes of left.
      IfOk-weaker r (λ ending. IfSome rest (λ feed. TracesFeed can_fail c zone settings standbys feed ending old new)) (λ ending. TracesIn choices can_fail zone settings standbys bytes ending old new)
      (λ ending all. (c, of, subst (λ (k : Option (List ℕ)). IfSome k (λ feed. TracesFeed can_fail c zone settings standbys feed ending old new)) left all)) h)

  pub fault_of_input : (sink : Bool) → OnErr r (IfSome rest (λ feed. TracesFront can_fail c zone settings standbys feed old new)) → IfErr r (λ fault. IsWriteFault sink fault)
      → IfSome known (λ bytes. IfErr r (λ fault. FailsWith choices can_fail zone settings standbys bytes fault old new))
  fault_of_input sink h w =
      input_read known start begins choices c rest (λ bytes. IfErr r (λ fault. FailsWith choices can_fail zone settings standbys bytes fault old new)) gives
      (λ bytes of left.
      writing_failed choices sink can_fail (objects_in bytes) r old new (TracesFrontIn choices can_fail zone settings standbys bytes old new) w
      (on_err_weaker r (λ (first : IfSome rest (λ feed. TracesFront can_fail c zone settings standbys feed old new)).
      (c, of, subst (λ (k : Option (List ℕ)). IfSome k (λ feed. TracesFront can_fail c zone settings standbys feed old new)) left first)) h))
