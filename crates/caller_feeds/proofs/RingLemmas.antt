-- What a push does to what was sent.
use Rattle.std.proofs.Common.{◌≡◌, ℕ, ◌+◌, ◌<◌, ◌≤◌, ⊎_elim, Ok, Err, Result, OnOk, IfErr, IsOk, true, false, true≢false, List, [], ◌∷◌, ◌++◌, length, sym, ap, ◌∙◌, arith}
use Rattle.std.proofs.lemmas.Bool.{cases_eq}
use Rattle.std.proofs.lemmas.List.{length-append}
use Rattle.caller_feeds.specs.declared.item.FeedItem.{FeedItem}
use Rattle.caller_feeds.specs.Items.{ends_last, has_end}
use Rattle.caller_feeds.proofs.ItemLemmas.{ends_last-more}

module _ {E : Type 0} (Q : E → Type 0) (old new : List FeedItem) (was now : ℕ) (item : FeedItem) where
  -- the places that are known to be free, and what was sent, are still as many as a feed has
  pub room_after : (r : Result (Unit {0}) E) → OnOk r ((new ≡ old ++ item ∷ []) × (was ≤ now + 1)) → IfErr r (λ e. Q e × (new ≡ old) × (now ≡ 0))
      → (0 < was → IsOk r) → 256 ≤ was + length old → 256 ≤ now + length new
  room_after (Ok u) ok full succeeds room = let l = ap length ok.0 ∙ length-append old (item ∷ []) in omega (arith, l, ok.1, room)
  room_after (Err e) ok full succeeds room = ⊎_elim
      (λ (is : was ≡ 0). let l = ap length full.1 in omega (arith, l, is, room))
      (λ (apart : ¬ (was ≡ 0)). absurd (true≢false (sym (succeeds (omega (arith, apart))))))
      (cases_eq was 0)

  -- nothing is sent after an end
  pub last_after : (r : Result (Unit {0}) E) → OnOk r ((new ≡ old ++ item ∷ []) × (was ≤ now + 1)) → IfErr r (λ e. Q e × (new ≡ old) × (now ≡ 0))
      → has_end old ≡ false → ends_last old ≡ true → ends_last new ≡ true
  last_after (Ok u) ok full none last = ap ends_last ok.0 ∙ ends_last-more old item none
  last_after (Err e) ok full none last = ap ends_last full.1 ∙ last
