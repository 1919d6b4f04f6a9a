-- What a contract sees of a handle and of an end.
use Rattle.std.specs.Prelude.{◌≡◌, ℕ, ◌+◌, ◌-◌, ◌^◌, min, All, List, [], ◌∷◌, ◌++◌, true, false, if◌then◌else◌}
use Rattle.std.specs.List.{AllZip}
use mathlib.Core.List.{IsPrefix}
use Rattle.due_model.specs.declared.config.Config.{Config}
use Rattle.rtrb.specs.Ring.{IsPair as IsRingPair, SameConsumer, SameProducer, known_items, received, sent}
use Rattle.caller_feeds.specs.declared.item.FeedItem.{FeedItem}
use Rattle.caller_feeds.specs.declared.handle.FeedHandle.{FeedHandle}
use Rattle.caller_feeds.specs.declared.end.FeedEnd.{FeedEnd}
use Rattle.caller_feeds.specs.Items.{has_end, is_improper}

-- what the handle has sent, in order
abbrev pub sent_by : FeedHandle → List FeedItem
sent_by h = sent h.ring

-- what the end has received, in order
abbrev pub received_by : FeedEnd → List FeedItem
received_by e = received e.ring

-- what the end has seen in the feed, and not yet received
abbrev pub seen_by : FeedEnd → List FeedItem
seen_by e = known_items e.ring

-- how many improper events the end has counted
abbrev pub improper_of : FeedEnd → ℕ
improper_of e = e.improper

-- the handle and the end of one feed
abbrev pub IsPair : FeedHandle → FeedEnd → Type 0
IsPair h e = IsRingPair h.ring e.ring

abbrev pub ArePairs : List FeedHandle → List FeedEnd → Type 0
ArePairs handles ends = AllZip IsPair handles ends

-- a handle, or an end, of the same feed
abbrev pub IsSameHandle : (old new : FeedHandle) → Type 0
IsSameHandle old new = SameProducer old.ring new.ring

abbrev pub IsSameEnd : (old new : FeedEnd) → Type 0
IsSameEnd old new = SameConsumer old.ring new.ring

-- the end wasn't sent
abbrev pub IsOpen : FeedHandle → Type 0
IsOpen h = has_end (sent_by h) ≡ false

-- nothing was sent
abbrev pub IsUnsent : FeedHandle → Type 0
IsUnsent h = sent_by h ≡ []

abbrev pub AreUnsent : List FeedHandle → Type 0
AreUnsent handles = All IsUnsent handles

-- nothing was received
abbrev pub IsUnread : FeedEnd → Type 0
IsUnread e = (received_by e ≡ []) × (improper_of e ≡ 0)

abbrev pub AreUnread : List FeedEnd → Type 0
AreUnread ends = All IsUnread ends

-- the end may have seen more, and nothing else has changed
pub record HasLooked (old new : FeedEnd) : Type 0 where
  pub feed : IsSameEnd old new
  pub received : received_by new ≡ received_by old
  pub improper : improper_of new ≡ improper_of old

-- the handle is of the same feed, and has sent the same
abbrev pub HasSentSame : (old new : FeedHandle) → Type 0
HasSentSame old new = IsSameHandle old new × (sent_by new ≡ sent_by old)

-- this item comes next
abbrev pub ComesNext : FeedItem → FeedEnd → Type 0
ComesNext item e = IsPrefix (item ∷ []) (seen_by e)

-- the end was received, or nothing is seen to wait
abbrev pub NothingWaits : FeedEnd → Type 0
NothingWaits e = has_end (received_by e) ≡ false → seen_by e ≡ []

-- this item was received, and is counted where it is an improper event
pub record Passes (c : Config) (item : FeedItem) (old new : FeedEnd) : Type 0 where
  pub feed : IsSameEnd old new
  pub received : received_by new ≡ received_by old ++ item ∷ []
  pub improper : improper_of new
      ≡ (if is_improper c item then min (2 ^ 64 - 1) (improper_of old + 1) else improper_of old)

-- what was received is the front of what was sent, and all of it where the end was received
pub record HasMet (h : FeedHandle) (e : FeedEnd) : Type 0 where
  pub front : IsPrefix (received_by e) (sent_by h)
  pub all : has_end (received_by e) ≡ true → received_by e ≡ sent_by h
