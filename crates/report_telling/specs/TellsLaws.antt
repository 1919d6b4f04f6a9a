-- From what is told of a feed to what is told of an input.
use Rattle.std.proofs.Common.{◌≡◌, ℕ, Bool, List, [], Option, None, Some, Result, IfErr, IfOk, IfSome, inl, refl, ap, subst, ◌∙◌}
use Rattle.std.proofs.lemmas.Result.{IfOk-weaker}
use Rattle.due_model.specs.declared.config.Choices.{Choices}
use Rattle.due_model.specs.declared.config.Config.{Config}
use Rattle.due_model.specs.declared.zone.Zone.{Zone}
use Rattle.event_feed.specs.claims.Feed.{Answer, Feed, answers}
use Rattle.event_feed.specs.Feed.{feed_of}
use Rattle.text_lines.specs.claims.Lines.{pieces}
use Rattle.written.specs.WrittenLaws.{front_none}
use Rattle.lemmas.proofs.Results.{on_err_always}
use Rattle.text_lines.specs.LineReader.{Reading, to_come}
use Rattle.command_output.specs.declared.outcome.CommandFault.{CommandFault}
use Rattle.command_output.specs.declared.outcome.Ending.{Ending}
use Rattle.command_output.specs.claims.Outcome.{IsWriteFault}
use Rattle.command_input.specs.InputLaws.{input_read, of_input, some_all, some_known, text_failed, writing_failed}
use Rattle.command_input.specs.claims.Objects.{IsTextBy}
use Rattle.command_input.specs.Objects.{FileFails, GivesObjects, IsFileOf, feed_in, objects_in}
use Rattle.replay.specs.claims.Replay.{AreOfFeed}
use Rattle.report_telling.specs.Told.{Form}
use Rattle.report_telling.specs.Tells.{FailsOf, FailsWith, Tells, TellsFor, TellsFrontFor, TellsFrontOf, TellsOf}
use Rattle.report_telling.specs.Telling.{TellsFeed, TellsFeedFront}

-- four equal parts
same_all : {T : Type 0} (c c' : Config) (zone zone' : Zone) (feed feed' : Feed) (teller teller' : T) → c' ≡ c → zone' ≡ zone → feed ≡ feed' → teller' ≡ teller
    → ◌≡◌ {A = Config × Zone × Feed × T} (c', zone', feed, teller') (c, zone, feed', teller)
same_all c c' zone zone' feed feed' teller teller' e f h k =
    ap (λ (x : Config). (x, zone', feed, teller')) e ∙ ap (λ (x : Zone). (c, x, feed, teller')) f ∙ ap (λ (x : Feed). (c, zone, x, teller')) h ∙ ap (λ x. (c, zone, feed', x)) k

module _ {T : Type 0} (choices : Choices) (form : Config → Zone → Form T) (teller teller' : T) (can_fail : Bool) (c c' : Config) (zone zone' : Zone) (reading : Reading) (feed : Feed) (r : Result Ending CommandFault) (old new : Option (List ℕ))
    (is : feed ≡ feed_of reading 0 0 None) (e : c' ≡ c) (f : zone' ≡ zone) (k : teller' ≡ teller) where
  -- ---- of the bytes that are left to be read

  given_of : (given : List Answer) (bytes : List ℕ) → to_come reading ≡ Some bytes → IfSome (to_come reading) (λ after. AreOfFeed can_fail c after given) → AreOfFeed can_fail c bytes given
  given_of given bytes left h = subst (λ (k : Option (List ℕ)). IfSome k (λ after. AreOfFeed can_fail c after given)) left h

  telling_of : IfOk r (λ ending. TellsFeed form can_fail c' zone' feed teller' ending old new) → (text bytes : List ℕ) → IsTextBy choices c text → to_come reading ≡ Some bytes
      → IfOk r (λ ending. TellsOf choices form teller can_fail text bytes zone ending old new)
  telling_of h text bytes of left =
      IfOk-weaker r (λ ending. TellsFeed form can_fail c zone (feed_of reading 0 0 None) teller ending old new) (λ ending. TellsOf choices form teller can_fail text bytes zone ending old new)
      (λ ending all. (c, all.0, of, given_of all.0 bytes left all.1, all.2, all.3))
      (subst (λ (t : Config × Zone × Feed × T). IfOk r (λ ending. TellsFeed form can_fail t.0 t.1 t.2 t.3 ending old new)) (same_all c c' zone zone' feed (feed_of reading 0 0 None) teller teller' e f is k) h)

  fault_of : (sink text_can_fail : Bool) → TellsFeedFront form can_fail c' zone' feed teller' old new → IfErr r (λ fault. IsWriteFault sink fault) → (text bytes : List ℕ) → IsTextBy choices c text → to_come reading ≡ Some bytes
      → IfErr r (λ fault. FailsOf choices form teller text_can_fail can_fail text bytes zone fault old new)
  fault_of sink text_can_fail h w text bytes of left =
      let all = subst (λ (t : Config × Zone × Feed × T). TellsFeedFront form can_fail t.0 t.1 t.2 t.3 old new) (same_all c c' zone zone' feed (feed_of reading 0 0 None) teller teller' e f is k) h in
      writing_failed choices sink text_can_fail text r old new (TellsFrontOf choices form teller can_fail text bytes zone old new) w (on_err_always r (c, all.0, of, given_of all.0 bytes left all.1, all.2))

  -- ---- of a feed alone

  pub telling_of_feed : (known : Option (List ℕ)) → reading ≡ record { line = []; held = []; unread = known; calls = 0 } → IfOk r (λ ending. TellsFeed form can_fail c' zone' feed teller' ending old new)
      → IfSome known (λ bytes. IfOk r (λ ending. TellsFor form teller can_fail c bytes zone ending old new))
  telling_of_feed known begins h =
      some_known known (λ k. to_come reading ≡ k) (λ bytes. IfOk r (λ ending. TellsFor form teller can_fail c bytes zone ending old new)) (of_input known reading (λ k. to_come reading ≡ k) begins refl)
      (λ bytes left. IfOk-weaker r (λ ending. TellsFeed form can_fail c zone (feed_of reading 0 0 None) teller ending old new) (λ ending. TellsFor form teller can_fail c bytes zone ending old new)
      (λ ending all. (all.0, given_of all.0 bytes left all.1, all.2, all.3))
      (subst (λ (t : Config × Zone × Feed × T). IfOk r (λ ending. TellsFeed form can_fail t.0 t.1 t.2 t.3 ending old new)) (same_all c c' zone zone' feed (feed_of reading 0 0 None) teller teller' e f is k) h))

  pub front_of_feed : (known : Option (List ℕ)) → reading ≡ record { line = []; held = []; unread = known; calls = 0 } → TellsFeedFront form can_fail c' zone' feed teller' old new
      → IfSome known (λ bytes. TellsFrontFor form teller can_fail c bytes zone old new)
  front_of_feed known begins h =
      let all = subst (λ (t : Config × Zone × Feed × T). TellsFeedFront form can_fail t.0 t.1 t.2 t.3 old new) (same_all c c' zone zone' feed (feed_of reading 0 0 None) teller teller' e f is k) h in
      some_known known (λ k. to_come reading ≡ k) (λ bytes. TellsFrontFor form teller can_fail c bytes zone old new) (of_input known reading (λ k. to_come reading ≡ k) begins refl)
      (λ bytes left. (all.0, given_of all.0 bytes left all.1, all.2))

  -- ---- of one input

  pub telling_of_input : (known : Option (List ℕ)) (start : Reading) → start ≡ record { line = []; held = []; unread = known; calls = 0 } → GivesObjects choices c (to_come start) (to_come reading)
      → IfOk r (λ ending. TellsFeed form can_fail c' zone' feed teller' ending old new) → IfSome known (λ bytes. IfOk r (λ ending. Tells choices form teller can_fail bytes zone ending old new))
  telling_of_input known start begins gives h =
      input_read known start begins choices c (to_come reading) (λ bytes. IfOk r (λ ending. Tells choices form teller can_fail bytes zone ending old new)) gives
      (λ bytes of left. telling_of h (objects_in bytes) (feed_in bytes) of left)

  pub fault_of_input : (sink : Bool) (known : Option (List ℕ)) (start : Reading) → start ≡ record { line = []; held = []; unread = known; calls = 0 } → GivesObjects choices c (to_come start) (to_come reading)
      → TellsFeedFront form can_fail c' zone' feed teller' old new → IfErr r (λ fault. IsWriteFault sink fault) → IfSome known (λ bytes. IfErr r (λ fault. FailsWith choices form teller can_fail bytes zone fault old new))
  fault_of_input sink known start begins gives h w =
      input_read known start begins choices c (to_come reading) (λ bytes. IfErr r (λ fault. FailsWith choices form teller can_fail bytes zone fault old new)) gives
      (λ bytes of left. fault_of sink can_fail h w (objects_in bytes) (feed_in bytes) of left)

  -- ---- of an input of object text, and another of the feed

  module _ (texts known : Option (List ℕ)) (begins : reading ≡ record { line = []; held = []; unread = known; calls = 0 }) (of : IsFileOf choices c texts) where
    files_read : (Q : List ℕ → List ℕ → Type 0) → ((text bytes : List ℕ) → IsTextBy choices c text → to_come reading ≡ Some bytes → Q text bytes) → IfSome texts (λ text. IfSome known (λ bytes. Q text bytes))
    files_read Q each =
        some_known texts (λ k. IsFileOf choices c k) (λ text. IfSome known (λ bytes. Q text bytes)) of
        (λ text is. some_known known (λ k. to_come reading ≡ k) (λ bytes. Q text bytes) (of_input known reading (λ k. to_come reading ≡ k) begins refl) (λ bytes left. each text bytes is left))

    pub telling_of_files : IfOk r (λ ending. TellsFeed form can_fail c' zone' feed teller' ending old new)
        → IfSome texts (λ text. IfSome known (λ bytes. IfOk r (λ ending. TellsOf choices form teller can_fail text bytes zone ending old new)))
    telling_of_files h = files_read (λ text bytes. IfOk r (λ ending. TellsOf choices form teller can_fail text bytes zone ending old new)) (telling_of h)

    pub fault_of_files : (sink text_can_fail : Bool) → TellsFeedFront form can_fail c' zone' feed teller' old new → IfErr r (λ fault. IsWriteFault sink fault)
        → IfSome texts (λ text. IfSome known (λ bytes. IfErr r (λ fault. FailsOf choices form teller text_can_fail can_fail text bytes zone fault old new)))
    fault_of_files sink text_can_fail h w = files_read (λ text bytes. IfErr r (λ fault. FailsOf choices form teller text_can_fail can_fail text bytes zone fault old new)) (fault_of sink text_can_fail h w)

-- the object text gives no configuration, and nothing was written
pub file_failed : {T : Type 0} (choices : Choices) (form : Config → Zone → Form T) (teller : T) (text_can_fail can_fail : Bool) (zone : Zone) (texts known : Option (List ℕ)) (fault : CommandFault) (held : Option (List ℕ)) → FileFails choices text_can_fail fault texts
    → IfSome texts (λ text. IfSome known (λ bytes. FailsOf choices form teller text_can_fail can_fail text bytes zone fault held held))
file_failed choices form teller text_can_fail can_fail zone texts known fault held h =
    some_known texts (λ k. FileFails choices text_can_fail fault k) (λ text. IfSome known (λ bytes. FailsOf choices form teller text_can_fail can_fail text bytes zone fault held held)) h
    (λ text fails. some_all known (λ bytes. FailsOf choices form teller text_can_fail can_fail text bytes zone fault held held)
    (λ bytes. text_failed choices text_can_fail None text fault held (TellsFrontOf choices form teller can_fail text bytes zone held held) fails))

-- nothing was written of a feed
pub front_of_nothing : {T : Type 0} (form : Config → Zone → Form T) (teller : T) (can_fail : Bool) (config : Config) (zone : Zone) (known : Option (List ℕ)) (held : Option (List ℕ))
    → IfSome known (λ bytes. TellsFrontFor form teller can_fail config bytes zone held held)
front_of_nothing form teller can_fail config zone known held =
    some_all known (λ bytes. TellsFrontFor form teller can_fail config bytes zone held held) (λ bytes. (answers config.objects 0 0 (pieces bytes), inl refl, front_none _ _))
