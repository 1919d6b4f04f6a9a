-- What goes through a feed, one item more.
use Rattle.std.proofs.Common.{◌≡◌, ℕ, ◌+◌, ◌-◌, ◌^◌, min, ◌||◌, Bool, true, false, true≢false, not, if◌then◌else◌, List, [], ◌∷◌, ◌++◌, length, filter, None, Some, refl, sym, ap, ◌∙◌, append-nil, arith}
use Rattle.std.specs.Option.{option_to_list}
use Rattle.std.proofs.lemmas.Grind.{flat_map-append}
use Rattle.std.proofs.lemmas.List.{length-append}
use Rattle.std.proofs.lemmas.List.Elements.{filter-append}
use Rattle.due_model.specs.declared.config.Config.{Config}
use Rattle.due_model.specs.declared.event.Event.{Event}
use Rattle.caller_feeds.specs.declared.item.FeedItem.{FeedItem}
use Rattle.caller_feeds.specs.declared.item.FeedItem.TheVariants.{End, Posted}
use Rattle.caller_feeds.specs.Items.{ends_last, event_of, events_of, has_end, improper_among, improper_count, is_end, is_improper, proper_among, proper_event}
use Rattle.caller_feeds.specs.Properness.{is_proper}

-- ---- ends

pub ends_last-more : (items : List FeedItem) (item : FeedItem) → has_end items ≡ false → ends_last (items ++ item ∷ []) ≡ true
ends_last-more [] (Posted e) none = refl
ends_last-more [] End none = refl
ends_last-more (Posted e ∷ items) item none = ends_last-more items item none
ends_last-more (End ∷ items) item none = absurd (true≢false none)

pub has_end-posted : (items : List FeedItem) (e : Event) → has_end (items ++ Posted e ∷ []) ≡ has_end items
has_end-posted [] e = refl
has_end-posted (Posted f ∷ items) e = has_end-posted items e
has_end-posted (End ∷ items) e = refl

has_end-end : (items : List FeedItem) → has_end (items ++ End ∷ []) ≡ true
has_end-end [] = refl
has_end-end (Posted f ∷ items) = has_end-end items
has_end-end (End ∷ items) = refl

pub has_end-more : (b : Bool) (items : List FeedItem) (item : FeedItem) → b ≡ has_end items → (b || is_end item) ≡ has_end (items ++ item ∷ [])
has_end-more true items (Posted e) was = was ∙ sym (has_end-posted items e)
has_end-more false items (Posted e) was = was ∙ sym (has_end-posted items e)
has_end-more true items End was = sym (has_end-end items)
has_end-more false items End was = sym (has_end-end items)

-- nothing follows an end
none_after : (items more : List FeedItem) → ends_last (items ++ more) ≡ true → has_end items ≡ true → more ≡ []
none_after [] more last has = absurd (true≢false (sym has))
none_after (Posted e ∷ items) more last has = none_after items more last has
none_after (End ∷ []) [] last has = refl
none_after (End ∷ []) (item ∷ more) last has = absurd (true≢false (sym last))
none_after (End ∷ item ∷ items) more last has = absurd (true≢false (sym last))

pub all_received : (got seen sent : List FeedItem) → got ++ seen ≡ sent → ends_last sent ≡ true → has_end got ≡ true → got ≡ sent
all_received got seen sent fifo last has =
    sym (append-nil got) ∙ ap (λ (items : List FeedItem). got ++ items) (sym (none_after got seen (ap ends_last fifo ∙ last) has)) ∙ fifo

-- ---- events

events_more : (items : List FeedItem) (item : FeedItem) → events_of (items ++ item ∷ []) ≡ events_of items ++ event_of item
events_more items item = flat_map-append event_of items (item ∷ []) ∙ ap (λ (es : List Event). events_of items ++ es) (append-nil (event_of item))

filter_more : (p : Event → Bool) (items : List FeedItem) (item : FeedItem) → filter p (events_of (items ++ item ∷ [])) ≡ filter p (events_of items) ++ filter p (event_of item)
filter_more p items item = ap (λ (es : List Event). filter p es) (events_more items item) ∙ filter-append p (events_of items) (event_of item)

one_event : (b : Bool) (e : Event) → (if b then e ∷ [] else []) ≡ option_to_list (if b then Some e else None)
one_event true e = refl
one_event false e = refl

proper_one : (c : Config) (item : FeedItem) → filter (is_proper c) (event_of item) ≡ option_to_list (proper_event c item)
proper_one c (Posted e) = one_event (is_proper c e) e
proper_one c End = refl

pub proper-more : (c : Config) (items : List FeedItem) (item : FeedItem) → proper_among c (items ++ item ∷ []) ≡ proper_among c items ++ option_to_list (proper_event c item)
proper-more c items item = filter_more (is_proper c) items item ∙ ap (λ (es : List Event). proper_among c items ++ es) (proper_one c item)

-- ---- improper events

one_count : (b : Bool) (e : Event) → length (if b then e ∷ [] else []) ≡ (if b then 1 else 0)
one_count true e = refl
one_count false e = refl

improper_one : (c : Config) (item : FeedItem) → length (filter (λ e. not (is_proper c e)) (event_of item)) ≡ (if is_improper c item then 1 else 0)
improper_one c (Posted e) = one_count (not (is_proper c e)) e
improper_one c End = refl

capped : (b : Bool) (n m : ℕ) → m ≡ (if b then 1 else 0) → min (2 ^ 64 - 1) (n + m) ≡ (if b then min (2 ^ 64 - 1) (min (2 ^ 64 - 1) n + 1) else min (2 ^ 64 - 1) n)
capped true n m is = omega (arith, is)
capped false n m is = omega (arith, is)

pub count-more : (c : Config) (items : List FeedItem) (item : FeedItem)
    → improper_count c (items ++ item ∷ []) ≡ (if is_improper c item then min (2 ^ 64 - 1) (improper_count c items + 1) else improper_count c items)
count-more c items item =
    let more = filter (λ e. not (is_proper c e)) (event_of item) in
    ap (λ (es : List Event). min (2 ^ 64 - 1) (length es)) (filter_more (λ e. not (is_proper c e)) items item)
    ∙ ap (λ n. min (2 ^ 64 - 1) n) (length-append (improper_among c items) more)
    ∙ capped (is_improper c item) (length (improper_among c items)) (length more) (improper_one c item)
