-- From the report of a feed to that of an input.
use Rattle.std.proofs.Common.{◌≡◌, ℕ, Bool, List, [], Option, None, Some, Result, IfErr, IfOk, IfSome, refl, ap, subst, ◌∙◌}
use Rattle.std.proofs.lemmas.Result.{IfOk-weaker}
use Rattle.due_model.specs.declared.config.Choices.{Choices}
use Rattle.due_model.specs.declared.config.Config.{Config}
use Rattle.due_model.specs.declared.zone.Zone.{Zone}
use Rattle.event_feed.specs.claims.Feed.{Answer, Feed}
use Rattle.event_feed.specs.Feed.{feed_of}
use Rattle.lemmas.proofs.Results.{on_err_always}
use Rattle.text_lines.specs.LineReader.{Reading, to_come}
use Rattle.command_output.specs.declared.outcome.CommandFault.{CommandFault}
use Rattle.command_output.specs.declared.outcome.Ending.{Ending}
use Rattle.command_output.specs.claims.Outcome.{IsWriteFault}
use Rattle.command_input.specs.InputLaws.{input_read, of_input, some_all, some_known, text_failed, writing_failed}
use Rattle.command_input.specs.claims.Objects.{IsTextBy}
use Rattle.command_input.specs.Objects.{FileFails, GivesObjects, IsFileOf, feed_in, objects_in}
use Rattle.replay.specs.claims.Replay.{AreOfFeed, FailsOf, ReportsFrontOf, ReportsOf}
use Rattle.replay.specs.Replay.{FailsWith, Reports}
use Rattle.replay.specs.Report.{WritesReport, WritesReportFront}

-- three equal parts
same_all : (c c' : Config) (zone zone' : Zone) (feed feed' : Feed) → c' ≡ c → zone' ≡ zone → feed ≡ feed' → ◌≡◌ {A = Config × Zone × Feed} (c', zone', feed) (c, zone, feed')
same_all c c' zone zone' feed feed' e f h =
    ap (λ (x : Config). (x, zone', feed)) e ∙ ap (λ (x : Zone). (c, x, feed)) f ∙ ap (λ (x : Feed). (c, zone, x)) h

module _ (choices : Choices) (can_fail : Bool) (c c' : Config) (zone zone' : Zone) (reading : Reading) (feed : Feed) (r : Result Ending CommandFault) (old new : Option (List ℕ))
    (is : feed ≡ feed_of reading 0 0 None) (e : c' ≡ c) (f : zone' ≡ zone) where
  -- ---- of the bytes that are left to be read

  given_of : (given : List Answer) (bytes : List ℕ) → to_come reading ≡ Some bytes → IfSome (to_come reading) (λ after. AreOfFeed can_fail c after given) → AreOfFeed can_fail c bytes given
  given_of given bytes left h = subst (λ (k : Option (List ℕ)). IfSome k (λ after. AreOfFeed can_fail c after given)) left h

  report_of : IfOk r (λ ending. WritesReport can_fail c' zone' feed ending old new) → (text bytes : List ℕ) → IsTextBy choices c text → to_come reading ≡ Some bytes
      → IfOk r (λ ending. ReportsOf choices can_fail text bytes zone ending old new)
  report_of h text bytes of left =
      IfOk-weaker r (λ ending. WritesReport can_fail c zone (feed_of reading 0 0 None) ending old new) (λ ending. ReportsOf choices can_fail text bytes zone ending old new)
      (λ ending all. (c, all.0, of, given_of all.0 bytes left all.1, all.2, all.3))
      (subst (λ (t : Config × Zone × Feed). IfOk r (λ ending. WritesReport can_fail t.0 t.1 t.2 ending old new)) (same_all c c' zone zone' feed (feed_of reading 0 0 None) e f is) h)

  fault_of : (sink text_can_fail : Bool) → WritesReportFront can_fail c' zone' feed old new → IfErr r (λ fault. IsWriteFault sink fault) → (text bytes : List ℕ) → IsTextBy choices c text → to_come reading ≡ Some bytes
      → IfErr r (λ fault. FailsOf choices text_can_fail can_fail text bytes zone fault old new)
  fault_of sink text_can_fail h w text bytes of left =
      let all = subst (λ (t : Config × Zone × Feed). WritesReportFront can_fail t.0 t.1 t.2 old new) (same_all c c' zone zone' feed (feed_of reading 0 0 None) e f is) h in
      writing_failed choices sink text_can_fail text r old new (ReportsFrontOf choices can_fail text bytes zone old new) w (on_err_always r (c, all.0, of, given_of all.0 bytes left all.1, all.2))

  -- ---- of one input

  pub report_of_input : (known : Option (List ℕ)) (start : Reading) → start ≡ record { line = []; held = []; unread = known; calls = 0 } → GivesObjects choices c (to_come start) (to_come reading)
      → IfOk r (λ ending. WritesReport can_fail c' zone' feed ending old new) → IfSome known (λ bytes. IfOk r (λ ending. Reports choices can_fail bytes zone ending old new))
  report_of_input known start begins gives h =
      input_read known start begins choices c (to_come reading) (λ bytes. IfOk r (λ ending. Reports choices can_fail bytes zone ending old new)) gives
      (λ bytes of left. report_of h (objects_in bytes) (feed_in bytes) of left)

  pub fault_of_input : (sink : Bool) (known : Option (List ℕ)) (start : Reading) → start ≡ record { line = []; held = []; unread = known; calls = 0 } → GivesObjects choices c (to_come start) (to_come reading)
      → WritesReportFront can_fail c' zone' feed old new → IfErr r (λ fault. IsWriteFault sink fault) → IfSome known (λ bytes. IfErr r (λ fault. FailsWith choices can_fail bytes zone fault old new))
  fault_of_input sink known start begins gives h w =
      input_read known start begins choices c (to_come reading) (λ bytes. IfErr r (λ fault. FailsWith choices can_fail bytes zone fault old new)) gives
      (λ bytes of left. fault_of sink can_fail h w (objects_in bytes) (feed_in bytes) of left)

  -- ---- of an input of object text, and another of the feed

  module _ (texts known : Option (List ℕ)) (begins : reading ≡ record { line = []; held = []; unread = known; calls = 0 }) (of : IsFileOf choices c texts) where
    files_read : (Q : List ℕ → List ℕ → Type 0) → ((text bytes : List ℕ) → IsTextBy choices c text → to_come reading ≡ Some bytes → Q text bytes) → IfSome texts (λ text. IfSome known (λ bytes. Q text bytes))
    files_read Q each =
        some_known texts (λ k. IsFileOf choices c k) (λ text. IfSome known (λ bytes. Q text bytes)) of
        (λ text is. some_known known (λ k. to_come reading ≡ k) (λ bytes. Q text bytes) (of_input known reading (λ k. to_come reading ≡ k) begins refl) (λ bytes left. each text bytes is left))

    pub report_of_files : IfOk r (λ ending. WritesReport can_fail c' zone' feed ending old new)
        → IfSome texts (λ text. IfSome known (λ bytes. IfOk r (λ ending. ReportsOf choices can_fail text bytes zone ending old new)))
    report_of_files h = files_read (λ text bytes. IfOk r (λ ending. ReportsOf choices can_fail text bytes zone ending old new)) (report_of h)

    pub fault_of_files : (sink text_can_fail : Bool) → WritesReportFront can_fail c' zone' feed old new → IfErr r (λ fault. IsWriteFault sink fault)
        → IfSome texts (λ text. IfSome known (λ bytes. IfErr r (λ fault. FailsOf choices text_can_fail can_fail text bytes zone fault old new)))
    fault_of_files sink text_can_fail h w = files_read (λ text bytes. IfErr r (λ fault. FailsOf choices text_can_fail can_fail text bytes zone fault old new)) (fault_of sink text_can_fail h w)

-- the object text gives no configuration, and nothing was written
pub file_failed : (choices : Choices) (text_can_fail can_fail : Bool) (zone : Zone) (texts known : Option (List ℕ)) (fault : CommandFault) (held : Option (List ℕ)) → FileFails choices text_can_fail fault texts
    → IfSome texts (λ text. IfSome known (λ bytes. FailsOf choices text_can_fail can_fail text bytes zone fault held held))
file_failed choices text_can_fail can_fail zone texts known fault held h =
    some_known texts (λ k. FileFails choices text_can_fail fault k) (λ text. IfSome known (λ bytes. FailsOf choices text_can_fail can_fail text bytes zone fault held held)) h
    (λ text fails. some_all known (λ bytes. FailsOf choices text_can_fail can_fail text bytes zone fault held held)
    (λ bytes. text_failed choices text_can_fail None text fault held (ReportsFrontOf choices can_fail text bytes zone held held) fails))
