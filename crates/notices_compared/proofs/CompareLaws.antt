-- From what is written of a feed to what is written of an input.
use Rattle.std.proofs.Common.{◌≡◌, ℕ, Bool, List, [], ◌++◌, Option, None, Some, Result, IfOk, IfSome, inl, refl, ap, subst, ◌∙◌}
use Rattle.std.proofs.lemmas.Result.{IfOk-weaker}
use Rattle.due_model.specs.declared.config.Config.{Config}
use Rattle.due_model.specs.declared.zone.Zone.{Zone}
use Rattle.event_feed.specs.claims.Feed.{Answer, answers}
use Rattle.event_feed.specs.Feed.{feed_of}
use Rattle.text_lines.specs.claims.Lines.{pieces}
use Rattle.text_lines.specs.LineReader.{Reading, to_come}
use Rattle.written.specs.WrittenLaws.{front_none}
use Rattle.command_output.specs.declared.outcome.CommandFault.{CommandFault}
use Rattle.command_output.specs.declared.outcome.Ending.{Ending}
use Rattle.std.proofs.lemmas.Iterator.Adapters.{option_map_id}
use Rattle.notices_compared.specs.Past.{AreOfFeed}
use Rattle.paired_feed.specs.PairedLaws.{same_lines}
use Rattle.changed_notices.specs.declared.changed.ChangeForm.{ChangeForm}
use Rattle.notices_compared.specs.Compares.{ComparesFor, ComparesFrontFor}
use Rattle.notices_compared.specs.Stream.{WritesChanges, WritesChangesFront}

-- what holds of all bytes, and of those that are known
some_all : (known : Option (List ℕ)) (P : List ℕ → Type 0) → ((bytes : List ℕ) → P bytes) → IfSome known P
some_all None P f = tt
some_all (Some bytes) P f = f bytes

some_known : (known : Option (List ℕ)) (P : Option (List ℕ) → Type 0) (Q : List ℕ → Type 0) → P known → ((bytes : List ℕ) → P (Some bytes) → Q bytes) → IfSome known Q
some_known None P Q h f = tt
some_known (Some bytes) P Q h f = f bytes h

-- of a reader of which nothing was read yet the bytes to come are those of its input
of_input : (known : Option (List ℕ)) (start : Reading) (P : Option (List ℕ) → Type 0) → start ≡ record { line = []; held = []; unread = known; calls = 0 } → P (to_come start) → P known
of_input known start P begins h = subst P (ap (λ (r : Reading). to_come r) begins ∙ option_map_id known) h

module _ (form : ChangeForm) (can_fail : Bool) (a b : Config) (zone : Zone) (reading : Reading) (old new : Option (List ℕ)) where
  -- the answers are of the bytes that are left to be read
  given_of : (c : Config) (given : List Answer) (bytes : List ℕ) → to_come reading ≡ Some bytes → IfSome (to_come reading) (λ after. AreOfFeed can_fail c after given) → AreOfFeed can_fail c bytes given
  given_of c given bytes left h = subst (λ (k : Option (List ℕ)). IfSome k (λ after. AreOfFeed can_fail c after given)) left h

  pub compared_of : (r : Result Ending CommandFault) → IfOk r (λ ending. WritesChanges form can_fail a b zone (feed_of reading 0 0 None) 0 ending old new) → (bytes : List ℕ) → to_come reading ≡ Some bytes
      → IfOk r (λ ending. ComparesFor form can_fail a b bytes zone ending old new)
  compared_of r h bytes left =
      IfOk-weaker r (λ ending. WritesChanges form can_fail a b zone (feed_of reading 0 0 None) 0 ending old new) (λ ending. ComparesFor form can_fail a b bytes zone ending old new)
      (λ ending w. (w.given, w.others, given_of a w.given bytes left w.first, given_of b w.others bytes left w.second, w.same, w.ending_is, w.writes)) h

  pub front_of : WritesChangesFront form can_fail a b zone (feed_of reading 0 0 None) 0 old new → (bytes : List ℕ) → to_come reading ≡ Some bytes → ComparesFrontFor form can_fail a b bytes zone old new
  front_of w bytes left = (w.given, w.others, given_of a w.given bytes left w.first, given_of b w.others bytes left w.second, w.same, w.front)

  -- the same of an input
  pub compared_of_feed : (known : Option (List ℕ)) → reading ≡ record { line = []; held = []; unread = known; calls = 0 } → (r : Result Ending CommandFault)
      → IfOk r (λ ending. WritesChanges form can_fail a b zone (feed_of reading 0 0 None) 0 ending old new) → IfSome known (λ bytes. IfOk r (λ ending. ComparesFor form can_fail a b bytes zone ending old new))
  compared_of_feed known begins r h =
      some_known known (λ k. to_come reading ≡ k) (λ bytes. IfOk r (λ ending. ComparesFor form can_fail a b bytes zone ending old new)) (of_input known reading (λ k. to_come reading ≡ k) begins refl)
      (λ bytes left. compared_of r h bytes left)

  pub front_of_feed : (known : Option (List ℕ)) → reading ≡ record { line = []; held = []; unread = known; calls = 0 } → WritesChangesFront form can_fail a b zone (feed_of reading 0 0 None) 0 old new
      → IfSome known (λ bytes. ComparesFrontFor form can_fail a b bytes zone old new)
  front_of_feed known begins h =
      some_known known (λ k. to_come reading ≡ k) (λ bytes. ComparesFrontFor form can_fail a b bytes zone old new) (of_input known reading (λ k. to_come reading ≡ k) begins refl)
      (λ bytes left. front_of h bytes left)

-- nothing was written
pub front_of_nothing : (form : ChangeForm) (can_fail : Bool) (a b : Config) (zone : Zone) (known held : Option (List ℕ)) → IfSome known (λ bytes. ComparesFrontFor form can_fail a b bytes zone held held)
front_of_nothing form can_fail a b zone known held =
    some_all known (λ bytes. ComparesFrontFor form can_fail a b bytes zone held held)
    (λ bytes. (answers a.objects 0 0 (pieces bytes), answers b.objects 0 0 (pieces bytes), inl refl, inl refl, same_lines a.objects b.objects 0 0 0 (pieces bytes), front_none held _))
