-- What goes through a feed.
use Rattle.std.specs.Prelude.{ℕ, ◌-◌, ◌^◌, min, Bool, true, false, not, List, [], ◌∷◌, length, filter, flat_map, Option, None, Some, if◌then◌else◌}
use Rattle.due_model.specs.declared.config.Config.{Config}
use Rattle.due_model.specs.declared.event.Event.{Event}
use Rattle.caller_feeds.specs.declared.item.FeedItem.{FeedItem}
use Rattle.caller_feeds.specs.declared.item.FeedItem.TheVariants.{End, Posted}
use Rattle.caller_feeds.specs.Properness.{is_proper}

abbrev pub is_end : FeedItem → Bool
is_end (Posted e) = false
is_end End = true

-- whether the end is among them
abbrev pub has_end : List FeedItem → Bool
has_end [] = false
has_end (Posted e ∷ items) = has_end items
has_end (End ∷ items) = true

-- nothing comes after an end
abbrev pub ends_last : List FeedItem → Bool
ends_last [] = true
ends_last (Posted e ∷ items) = ends_last items
ends_last (End ∷ []) = true
ends_last (End ∷ item ∷ items) = false

-- the event that it is, if it is one
abbrev pub event_of : FeedItem → List Event
event_of (Posted e) = e ∷ []
event_of End = []

-- the events among them, in order
abbrev pub events_of : List FeedItem → List Event
events_of items = flat_map event_of items

-- the proper ones, and the improper ones
abbrev pub proper_among : Config → List FeedItem → List Event
proper_among c items = filter (is_proper c) (events_of items)

abbrev pub improper_among : Config → List FeedItem → List Event
improper_among c items = filter (λ e. not (is_proper c e)) (events_of items)

-- how many improper ones there are, up to the greatest number of 64 bits
abbrev pub improper_count : Config → List FeedItem → ℕ
improper_count c items = min (2 ^ 64 - 1) (length (improper_among c items))

-- the event that it is, if it is a proper one
abbrev pub proper_event : Config → FeedItem → Option Event
proper_event c (Posted e) = if is_proper c e then Some e else None
proper_event c End = None

-- whether it is an improper event
abbrev pub is_improper : Config → FeedItem → Bool
is_improper c (Posted e) = not (is_proper c e)
is_improper c End = false
