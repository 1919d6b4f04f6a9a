-- What the handles have sent, beside what the ends have received.
use Rattle.std.proofs.Common.{◌≡◌, ℕ, zero, suc, ◌+◌, ◌<◌, ◌≤◌, List, [], ◌∷◌, ◌++◌, Some, length, get_or, set, take, slice_get, refl, sym, ap, ◌∙◌, subst, arith}
use Rattle.std.specs.List.{AllZip}
use Rattle.std.proofs.lemmas.List.{take_all, take_more}
use Rattle.std.proofs.lemmas.Option.{none-some, same_Some, slice_get_within}
use mathlib.Core.List.{IsPrefix}
use Rattle.due_model.specs.declared.config.Config.{Config}
use Rattle.due_model.specs.declared.event.Event.{Event}
use Rattle.lemmas.proofs.Lists.{slice_get_read}
use Rattle.lemmas.proofs.Zips.{zip-more}
use Rattle.caller_feeds.specs.declared.item.FeedItem.{FeedItem}
use Rattle.caller_feeds.specs.declared.handle.FeedHandle.{FeedHandle}
use Rattle.caller_feeds.specs.declared.end.FeedEnd.{FeedEnd}
use Rattle.caller_feeds.specs.Items.{has_end, proper_among}
use Rattle.caller_feeds.specs.Feeds.{ArePairs, HasLooked, HasMet, HasSentSame, IsPair, IsSameHandle, received_by, sent_by}
use Rattle.caller_feeds.specs.Merge.{Merge}
use Rattle.caller_feeds.specs.Taken.{AreOver, IsTaken, received_lists, sent_lists}
use Rattle.caller_feeds.specs.FeedLaws.{same_end, same_end_then}
use Rattle.caller_feeds.proofs.TakenLemmas.{zip-set}

module _ {X Y : Type 0} (R : X → Y → Type 0) where
  pub zip-long : (xs : List X) (ys : List Y) → AllZip R xs ys → length xs ≡ length ys
  zip-long [] [] all = refl
  zip-long [] (y ∷ ys) all = absurd all
  zip-long (x ∷ xs) [] all = absurd all
  zip-long (x ∷ xs) (y ∷ ys) all = ap suc (zip-long xs ys all.1)

  pub zip-within : (xs : List X) (ys : List Y) (i : ℕ) → i < length ys → AllZip R xs ys → i < length xs
  zip-within xs ys i within all = let long = zip-long xs ys all in omega (arith, long, within)

  pub zip-pair : (xs : List X) (ys : List Y) (i : ℕ) (x : X) (y : Y) → slice_get xs i ≡ Some x → slice_get ys i ≡ Some y → AllZip R xs ys → R x y
  zip-pair [] ys i x y at_x at_y all = absurd (none-some x at_x)
  zip-pair (v ∷ xs) [] i x y at_x at_y all = absurd (none-some y at_y)
  zip-pair (v ∷ xs) (w ∷ ys) zero x y at_x at_y all =
      subst (λ (u : X). R u y) (same_Some v x at_x) (subst (λ (u : Y). R v u) (same_Some w y at_y) all.0)
  zip-pair (v ∷ xs) (w ∷ ys) (suc i) x y at_x at_y all = zip-pair xs ys i x y at_x at_y all.1

  zip-first : (xs : List X) (ys : List Y) (i : ℕ) (d : X) (y : Y) → slice_get ys i ≡ Some y → AllZip R xs ys → R (get_or xs i d) y
  zip-first [] [] i d y at all = absurd (none-some y at)
  zip-first [] (w ∷ ys) i d y at all = absurd all
  zip-first (x ∷ xs) [] i d y at all = absurd all
  zip-first (x ∷ xs) (w ∷ ys) zero d y at all = subst (λ (u : Y). R x u) (same_Some w y at) all.0
  zip-first (x ∷ xs) (w ∷ ys) (suc i) d y at all = zip-first xs ys i d y at all.1

  pub zip-set-both : (xs : List X) (ys : List Y) (i : ℕ) (x : X) (y : Y) → R x y → AllZip R xs ys → AllZip R (set xs i x) (set ys i y)
  zip-set-both [] [] i x y one all = tt
  zip-set-both [] (w ∷ ys) i x y one all = absurd all
  zip-set-both (v ∷ xs) [] i x y one all = absurd all
  zip-set-both (v ∷ xs) (w ∷ ys) zero x y one all = (one, all.1)
  zip-set-both (v ∷ xs) (w ∷ ys) (suc i) x y one all = (all.0, zip-set-both xs ys i x y one all.1)

-- ---- the same feeds

same_handle : (h : FeedHandle) → IsSameHandle h h
same_handle h = ((refl, refl, refl, refl), refl)

same_handle_then : (a b c : FeedHandle) → IsSameHandle a b → IsSameHandle b c → IsSameHandle a c
same_handle_then a b c one two = ((two.0.0 ∙ one.0.0, two.0.1 ∙ one.0.1, two.0.2 ∙ one.0.2, two.0.3 ∙ one.0.3), two.1 ∙ one.1)

pub looked : (e : FeedEnd) → HasLooked e e
looked e = record { feed = same_end e; received = refl; improper = refl }

pub looked_then : (a b c : FeedEnd) → HasLooked a b → HasLooked b c → HasLooked a c
looked_then a b c one two = record {
  feed = same_end_then a b c one.feed two.feed;
  received = two.received ∙ one.received;
  improper = two.improper ∙ one.improper;
}

pub sent_same : (h : FeedHandle) → HasSentSame h h
sent_same h = (same_handle h, refl)

pub sent_same_then : (a b c : FeedHandle) → HasSentSame a b → HasSentSame b c → HasSentSame a c
sent_same_then a b c one two = (same_handle_then a b c one.0 two.0, two.1 ∙ one.1)

pub all_looked : (ends : List FeedEnd) → AllZip HasLooked ends ends
all_looked [] = tt
all_looked (e ∷ ends) = (looked e, all_looked ends)

pub all_sent_same : (handles : List FeedHandle) → AllZip HasSentSame handles handles
all_sent_same [] = tt
all_sent_same (h ∷ handles) = (sent_same h, all_sent_same handles)

pub more-looked : (old ends : List FeedEnd) (i : ℕ) (e e' : FeedEnd) → i < length ends → e ≡ get_or ends i e → HasLooked e e' → AllZip HasLooked old ends → AllZip HasLooked old (set ends i e')
more-looked old ends i e e' within is looked all = zip-set HasLooked old ends i e e' (slice_get_read ends i e within is) (λ x before. looked_then x e e' before looked) all

-- ---- meeting

-- who has met, had met before it looked
met-before : (h g : FeedHandle) (e d : FeedEnd) → HasSentSame h g → HasLooked e d → HasMet g d → HasMet h e
met-before h g e d sent looked met = record {
  front = subst (λ (items : List FeedItem). IsPrefix items (sent_by h)) looked.received (subst (λ (items : List FeedItem). IsPrefix (received_by d) items) sent.1 met.front);
  all = λ has. sym looked.received ∙ met.all (ap has_end looked.received ∙ has) ∙ sent.1;
}

pub met-more : (handles0 handles : List FeedHandle) (ends0 ends : List FeedEnd) (i : ℕ) (g : FeedHandle) (d : FeedEnd) → slice_get handles i ≡ Some g → slice_get ends i ≡ Some d
    → AllZip HasSentSame handles0 handles → AllZip HasLooked ends0 ends → HasMet g d → AllZip HasMet (take i handles0) (take i ends0) → AllZip HasMet (take (i + 1) handles0) (take (i + 1) ends0)
met-more handles0 handles ends0 ends i g d at_g at_d sent looked met before =
    let h = get_or handles0 i g in
    let e = get_or ends0 i d in
    let within_h : i < length handles0 = (let l = zip-long HasSentSame handles0 handles sent in let w = slice_get_within handles i g at_g in omega (arith, l, w)) in
    let within_e : i < length ends0 = (let l = zip-long HasLooked ends0 ends looked in let w = slice_get_within ends i d at_d in omega (arith, l, w)) in
    let one : HasMet h e = met-before h g e d (zip-first HasSentSame handles0 handles i g g at_g sent) (zip-first HasLooked ends0 ends i d d at_d looked) met in
    let more : AllZip HasMet (take i handles0 ++ h ∷ []) (take i ends0 ++ e ∷ []) = zip-more HasMet (take i handles0) (take i ends0) h e before one in
    subst (λ (hs : List FeedHandle). AllZip HasMet hs (take (i + 1) ends0)) (sym (take_more handles0 i g within_h))
    (subst (λ (es : List FeedEnd). AllZip HasMet (take i handles0 ++ h ∷ []) es) (sym (take_more ends0 i d within_e)) more)

pub met-all : (handles : List FeedHandle) (ends0 ends : List FeedEnd) (i : ℕ) → length ends ≤ i → AllZip HasLooked ends0 ends → ArePairs handles ends0 → AllZip HasMet (take i handles) (take i ends0) → AllZip HasMet handles ends0
met-all handles ends0 ends i all looked pairs met =
    let long_e = zip-long HasLooked ends0 ends looked in
    let long_h = zip-long IsPair handles ends0 pairs in
    subst (λ (hs : List FeedHandle). AllZip HasMet hs ends0) (take_all i handles (omega (arith, all, long_e, long_h)))
    (subst (λ (es : List FeedEnd). AllZip HasMet (take i handles) es) (take_all i ends0 (omega (arith, all, long_e))) met)

-- ---- what was received is what was sent

lists-same : (c : Config) (handles : List FeedHandle) (ends : List FeedEnd) → AllZip HasMet handles ends → AreOver ends → received_lists c ends ≡ sent_lists c handles
lists-same c [] [] met over = refl
lists-same c [] (e ∷ ends) met over = absurd met
lists-same c (h ∷ handles) [] met over = absurd met
lists-same c (h ∷ handles) (e ∷ ends) met over =
    ap (λ (items : List FeedItem). proper_among c items ∷ received_lists c ends) (met.0.all (over 0 e (omega arith)))
    ∙ ap (λ (lists : List (List Event)). proper_among c (sent_by h) ∷ lists) (lists-same c handles ends met.1 (λ k d lt. over (suc k) d (omega (arith, lt))))

pub merge-sent : (c : Config) (events : List Event) (handles : List FeedHandle) (ends : List FeedEnd) → AllZip HasMet handles ends → AreOver ends → IsTaken c ends events → Merge events (sent_lists c handles)
merge-sent c events handles ends met over taken =
    subst (λ (lists : List (List Event)). Merge events lists) (lists-same c handles ends met over) taken.merge
