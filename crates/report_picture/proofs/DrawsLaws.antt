-- From what is drawn of a feed to what is drawn of an input.
use Rattle.std.proofs.Common.{◌≡◌, ℕ, Bool, List, [], Option, None, Some, Result, IfOk, IfSome, refl, ap, subst, ◌∙◌}
use Rattle.std.proofs.lemmas.Result.{IfOk-weaker}
use Rattle.due_model.specs.declared.config.Choices.{Choices}
use Rattle.due_model.specs.declared.config.Config.{Config}
use Rattle.due_model.specs.declared.zone.Zone.{Zone}
use Rattle.event_feed.specs.claims.Feed.{Answer, Feed}
use Rattle.event_feed.specs.Feed.{feed_of}
use Rattle.text_lines.specs.LineReader.{Reading, to_come}
use Rattle.command_output.specs.declared.outcome.CommandFault.{CommandFault}
use Rattle.command_output.specs.declared.outcome.Ending.{Ending}
use Rattle.command_input.specs.InputLaws.{input_read, of_input, some_known}
use Rattle.command_input.specs.claims.Objects.{IsTextBy}
use Rattle.command_input.specs.Objects.{GivesObjects, IsFileOf, feed_in, objects_in}
use Rattle.replay.specs.claims.Replay.{AreOfFeed}
use Rattle.report_telling.specs.Told.{Form}
use Rattle.report_picture.specs.declared.drawing.Picture.{Picture}
use Rattle.report_picture.specs.Draws.{Draws, DrawsOf}
use Rattle.report_picture.specs.Drawing.{DrawsFeed}

-- four equal parts
same_all : {T : Type 0} (c c' : Config) (zone zone' : Zone) (feed feed' : Feed) (teller teller' : T) → c' ≡ c → zone' ≡ zone → feed ≡ feed' → teller' ≡ teller
    → ◌≡◌ {A = Config × Zone × Feed × T} (c', zone', feed, teller') (c, zone, feed', teller)
same_all c c' zone zone' feed feed' teller teller' e f h k =
    ap (λ (x : Config). (x, zone', feed, teller')) e ∙ ap (λ (x : Zone). (c, x, feed, teller')) f ∙ ap (λ (x : Feed). (c, zone, x, teller')) h ∙ ap (λ x. (c, zone, feed', x)) k

module _ {T : Type 0} (choices : Choices) (form : Config → Zone → Form T) (teller teller' : T) (can_fail : Bool) (c c' : Config) (zone zone' : Zone) (reading : Reading) (feed : Feed) (r : Result Ending CommandFault) (before after : Option (List ℕ)) (old new : Picture)
    (is : feed ≡ feed_of reading 0 0 None) (e : c' ≡ c) (f : zone' ≡ zone) (k : teller' ≡ teller) where
  -- of the bytes that are left to be read
  given_of : (given : List Answer) (bytes : List ℕ) → to_come reading ≡ Some bytes → IfSome (to_come reading) (λ rest. AreOfFeed can_fail c rest given) → AreOfFeed can_fail c bytes given
  given_of given bytes left h = subst (λ (k : Option (List ℕ)). IfSome k (λ rest. AreOfFeed can_fail c rest given)) left h

  drawn_of : IfOk r (λ ending. DrawsFeed form can_fail c' zone' feed teller' ending before after old new) → (text bytes : List ℕ) → IsTextBy choices c text → to_come reading ≡ Some bytes
      → IfOk r (λ ending. DrawsOf choices form teller can_fail text bytes zone ending before after old new)
  drawn_of h text bytes of left =
      IfOk-weaker r (λ ending. DrawsFeed form can_fail c zone (feed_of reading 0 0 None) teller ending before after old new) (λ ending. DrawsOf choices form teller can_fail text bytes zone ending before after old new)
      (λ ending all. (c, all.0, of, given_of all.0 bytes left all.1, all.2, all.3, all.4))
      (subst (λ (t : Config × Zone × Feed × T). IfOk r (λ ending. DrawsFeed form can_fail t.0 t.1 t.2 t.3 ending before after old new)) (same_all c c' zone zone' feed (feed_of reading 0 0 None) teller teller' e f is k) h)

  -- of one input
  pub drawn_of_input : (known : Option (List ℕ)) (start : Reading) → start ≡ record { line = []; held = []; unread = known; calls = 0 } → GivesObjects choices c (to_come start) (to_come reading)
      → IfOk r (λ ending. DrawsFeed form can_fail c' zone' feed teller' ending before after old new) → IfSome known (λ bytes. IfOk r (λ ending. Draws choices form teller can_fail bytes zone ending before after old new))
  drawn_of_input known start begins gives h =
      input_read known start begins choices c (to_come reading) (λ bytes. IfOk r (λ ending. Draws choices form teller can_fail bytes zone ending before after old new)) gives
      (λ bytes of left. drawn_of h (objects_in bytes) (feed_in bytes) of left)

  -- of an input of object text, and another of the feed
  pub drawn_of_files : (texts known : Option (List ℕ)) → reading ≡ record { line = []; held = []; unread = known; calls = 0 } → IsFileOf choices c texts
      → IfOk r (λ ending. DrawsFeed form can_fail c' zone' feed teller' ending before after old new)
      → IfSome texts (λ text. IfSome known (λ bytes. IfOk r (λ ending. DrawsOf choices form teller can_fail text bytes zone ending before after old new)))
  drawn_of_files texts known begins of h =
      some_known texts (λ k. IsFileOf choices c k) (λ text. IfSome known (λ bytes. IfOk r (λ ending. DrawsOf choices form teller can_fail text bytes zone ending before after old new))) of
      (λ text is_text. some_known known (λ k. to_come reading ≡ k) (λ bytes. IfOk r (λ ending. DrawsOf choices form teller can_fail text bytes zone ending before after old new)) (of_input known reading (λ k. to_come reading ≡ k) begins refl)
      (λ bytes left. drawn_of h text bytes is_text left))
