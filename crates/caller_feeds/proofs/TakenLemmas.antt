-- What an intake has taken, one step more.
use Rattle.std.proofs.Common.{◌≡◌, ℕ, zero, suc, ◌+◌, ◌-◌, ◌^◌, min, ◌<◌, ◌≤◌, if◌then◌else◌, true, List, [], ◌∷◌, ◌++◌, Option, None, Some, Result, Ok, Err, length, map, get_or, set, slice_get, refl, sym, ap, ◌∙◌, subst, append-nil, arith}
use Rattle.std.specs.List.{All, AllZip, Contains}
use Rattle.std.specs.Option.{option_to_list}
use Rattle.std.specs.Result.{IsErrOf}
use Rattle.std.proofs.lemmas.List.{length-map, length-set, map-set, set-get_or, get_or-set_same}
use Rattle.std.proofs.lemmas.List.Elements.{All-cons, All-nil, All-set}
use Rattle.std.proofs.lemmas.Option.{none-some, same_Some, slice_get_within, slice_get-get_or}
use Rattle.due_model.specs.declared.config.Config.{Config}
use Rattle.due_model.specs.declared.event.Event.{Event}
use Rattle.due_model.specs.claims.Proper.{IsProper}
use Rattle.lemmas.proofs.Elements.{at-Contains}
use Rattle.lemmas.proofs.Lists.{All-slice_get, some_at}
use Rattle.caller_feeds.specs.declared.item.FeedItem.{FeedItem}
use Rattle.caller_feeds.specs.declared.end.FeedEnd.{FeedEnd}
use Rattle.caller_feeds.specs.declared.intake.IntakeStop.{IntakeStop}
use Rattle.caller_feeds.specs.declared.intake.IntakeStop.TheVariants.{Over, Ended, HandleDropped}
use Rattle.caller_feeds.specs.Items.{has_end, improper_count, is_improper, proper_among, proper_event}
use Rattle.caller_feeds.specs.Feeds.{AreUnread, HasLooked, IsSameEnd, IsUnread, NothingWaits, Passes, improper_of, received_by}
use Rattle.caller_feeds.specs.Merge.{Merge}
use Rattle.caller_feeds.specs.Taken.{AreOver, GivesNext, GoesOn, HasCounted, IsTaken, TakesNext, Taking, given_by, received_lists}
use Rattle.caller_feeds.specs.FeedLaws.{goes_on_then, same_end_then, same_ends}
use Rattle.caller_feeds.proofs.ItemLemmas.{count-more, proper-more}
use Rattle.caller_feeds.proofs.MergeLemmas.{merge-more, merge-none}

-- ---- one place of a list

module _ {X Y : Type 0} where
  map_at : (f : X → Y) (xs : List X) (i : ℕ) (x : X) (d : Y) → slice_get xs i ≡ Some x → get_or (map f xs) i d ≡ f x
  map_at f [] i x d e = absurd (none-some x e)
  map_at f (y ∷ ys) zero x d e = ap f (same_Some y x e)
  map_at f (y ∷ ys) (suc i) x d e = map_at f ys i x d e

  -- what stands at one place of the second list is another, which goes with all that the first went with
  pub zip-set : (R : X → Y → Type 0) (xs : List X) (ys : List Y) (i : ℕ) (y z : Y) → slice_get ys i ≡ Some y → ((x : X) → R x y → R x z) → AllZip R xs ys → AllZip R xs (set ys i z)
  zip-set R [] [] i y z at more all = tt
  zip-set R [] (w ∷ ys) i y z at more all = absurd all
  zip-set R (x ∷ xs) [] i y z at more all = absurd all
  zip-set R (x ∷ xs) (w ∷ ys) zero y z at more all = (more x (subst (λ (v : Y). R x v) (same_Some w y at) all.0), all.1)
  zip-set R (x ∷ xs) (w ∷ ys) (suc i) y z at more all = (all.0, zip-set R xs ys i y z at more all.1)

module _ {X : Type 0} where
  pub set_at : (xs : List X) (i : ℕ) (x : X) → i < length xs → slice_get (set xs i x) i ≡ Some x
  set_at xs i x within = slice_get-get_or (set xs i x) i x (let l = length-set xs i x in omega (arith, l, within)) ∙ ap (λ (y : X). Some y) (get_or-set_same xs i x x within)

-- ---- one end

-- what was passed is counted
pub counted-passed : (c : Config) (item : FeedItem) (old mid new : FeedEnd) → HasLooked old mid → Passes c item mid new → HasCounted c old → HasCounted c new
counted-passed c item old mid new looked passes was =
    let before : improper_of mid ≡ improper_count c (received_by mid) =
    looked.improper ∙ was ∙ ap (λ (items : List FeedItem). improper_count c items) (sym looked.received) in
    passes.improper
    ∙ ap (λ n. if is_improper c item then min (2 ^ 64 - 1) (n + 1) else n) before
    ∙ sym (count-more c (received_by mid) item)
    ∙ ap (λ (items : List FeedItem). improper_count c items) (sym passes.received)

pub proper-passed : (c : Config) (item : FeedItem) (old mid new : FeedEnd) (next : Option Event) → HasLooked old mid → Passes c item mid new → proper_event c item ≡ next
    → proper_among c (received_by new) ≡ proper_among c (received_by old) ++ option_to_list next
proper-passed c item old mid new next looked passes is =
    ap (λ (items : List FeedItem). proper_among c items) passes.received
    ∙ proper-more c (received_by mid) item
    ∙ ap (λ (found : Option Event). proper_among c (received_by mid) ++ option_to_list found) is
    ∙ ap (λ (items : List FeedItem). proper_among c items ++ option_to_list next) looked.received

pub counted-looked : (c : Config) (old mid : FeedEnd) → HasLooked old mid → HasCounted c old → HasCounted c mid
counted-looked c old mid looked was =
    looked.improper ∙ was ∙ ap (λ (items : List FeedItem). improper_count c items) (sym looked.received)

pub proper-looked : (c : Config) (old mid : FeedEnd) → HasLooked old mid → proper_among c (received_by mid) ≡ proper_among c (received_by old) ++ []
proper-looked c old mid looked =
    ap (λ (items : List FeedItem). proper_among c items) looked.received ∙ sym (append-nil (proper_among c (received_by old)))

-- ---- the merge

merge-next : (next : Option Event) (before after : List Event) (lists : List (List Event)) (i : ℕ) → i < length lists → after ≡ before ++ option_to_list next → Merge before lists
    → Merge after (set lists i (get_or lists i [] ++ option_to_list next))
merge-next None before after lists i within is m =
    let kept : set lists i (get_or lists i [] ++ []) ≡ lists = ap (λ (es : List Event). set lists i es) (append-nil (get_or lists i [])) ∙ set-get_or lists i [] in
    subst (λ (ls : List (List Event)). Merge after ls) (sym kept) (subst (λ (es : List Event). Merge es lists) (sym (is ∙ append-nil before)) m)
merge-next (Some e) before after lists i within is m =
    subst (λ (es : List Event). Merge es (set lists i (get_or lists i [] ++ e ∷ []))) (sym is) (merge-more before lists i e within m)

merge-given : (result : Result (Option Event) IntakeStop) (before after : List Event) (lists : List (List Event)) (i : ℕ) → i < length lists → after ≡ before ++ given_by result → Merge before lists
    → Merge after (set lists i (get_or lists i [] ++ given_by result))
merge-given (Ok next) before after lists i within is m = merge-next next before after lists i within is m
merge-given (Err fault) before after lists i within is m = merge-next None before after lists i within is m

taken-one : (c : Config) (most : ℕ) (result : Result (Option Event) IntakeStop) (ends : List FeedEnd) (i : ℕ) (e e' : FeedEnd) (before after : List Event) → slice_get ends i ≡ Some e
    → TakesNext c most result e e' before after → IsTaken c ends before → IsTaken c (set ends i e') after
taken-one c most result ends i e e' before after at takes taken =
    let f : FeedEnd → List Event = λ d. proper_among c (received_by d) in
    let lists = map f ends in
    let within : i < length lists = (let l = length-map ends f in let w = slice_get_within ends i e at in omega (arith, l, w)) in
    let there : get_or lists i [] ≡ f e = map_at f ends i e [] at in
    let is : map f (set ends i e') ≡ set lists i (get_or lists i [] ++ given_by result) =
    map-set f ends i e' ∙ ap (λ (es : List Event). set lists i es) (takes.received ∙ ap (λ (es : List Event). es ++ given_by result) (sym there)) in record {
      merge = subst (λ (ls : List (List Event)). Merge after ls) (sym is) (merge-given result before after lists i within takes.events taken.merge);
      counted = All-set (HasCounted c) ends i e' (takes.counted (All-slice_get (HasCounted c) ends i e taken.counted at)) taken.counted;
    }

none-received : (c : Config) (ends : List FeedEnd) → AreUnread ends → (i : ℕ) → i < length (received_lists c ends) → get_or (received_lists c ends) i [] ≡ []
none-received c ends unread i within =
    let long = length-map ends (λ (e : FeedEnd). proper_among c (received_by e)) in
    let there = some_at ends i (omega (arith, within, long)) in
    map_at (λ (e : FeedEnd). proper_among c (received_by e)) ends i there.0 [] there.1
    ∙ ap (λ (items : List FeedItem). proper_among c items) (All-slice_get IsUnread ends i there.0 unread there.1).0

pub taken-none : (c : Config) (ends : List FeedEnd) → AreUnread ends → IsTaken c ends []
taken-none c ends unread = record {
  merge = merge-none (received_lists c ends) (none-received c ends unread);
  counted = λ k d within. let none = unread k d within in none.1 ∙ sym (ap (λ (items : List FeedItem). improper_count c items) none.0);
}

-- ---- ends that have looked

lists-looked : (c : Config) (old new : List FeedEnd) → AllZip HasLooked old new → received_lists c new ≡ received_lists c old
lists-looked c [] [] all = refl
lists-looked c [] (e ∷ new) all = absurd all
lists-looked c (e ∷ old) [] all = absurd all
lists-looked c (e ∷ old) (d ∷ new) all =
    ap (λ (items : List FeedItem). proper_among c items ∷ received_lists c new) all.0.received
    ∙ ap (λ (lists : List (List Event)). proper_among c (received_by e) ∷ lists) (lists-looked c old new all.1)

counted-all : (c : Config) (old new : List FeedEnd) → AllZip HasLooked old new → All (HasCounted c) old → All (HasCounted c) new
counted-all c [] [] all was = was
counted-all c [] (e ∷ new) all was = absurd all
counted-all c (e ∷ old) [] all was = absurd all
counted-all c (e ∷ old) (d ∷ new) all was =
    All-cons (HasCounted c) d new (counted-looked c e d all.0 (was 0 e (omega arith))) (counted-all c old new all.1 (λ j g below. was (suc j) g (omega (arith, below))))

same-looked : (old new : List FeedEnd) → AllZip HasLooked old new → AllZip IsSameEnd old new
same-looked [] [] all = tt
same-looked [] (e ∷ new) all = absurd all
same-looked (e ∷ old) [] all = absurd all
same-looked (e ∷ old) (d ∷ new) all = (all.0.feed, same-looked old new all.1)

-- ends that have looked are over where they were before
pub over-before : (old new : List FeedEnd) → AllZip HasLooked old new → AreOver new → AreOver old
over-before [] [] all over = over
over-before [] (e ∷ new) all over = absurd all
over-before (e ∷ old) [] all over = absurd all
over-before (e ∷ old) (d ∷ new) all over =
    All-cons (λ (f : FeedEnd). has_end (received_by f) ≡ true) e old
    (ap has_end (sym all.0.received) ∙ over 0 d (omega arith))
    (over-before old new all.1 (λ k f lt. over (suc k) f (omega (arith, lt))))

pub goes-looked : (c : Config) (old new : Taking) → AllZip HasLooked old.ends new.ends → new.events ≡ old.events → new.most ≡ old.most → GoesOn c old new
goes-looked c old new looked events most = record {
  ends = same-looked old.ends new.ends looked;
  most = most;
  taken = λ taken. record {
    merge = subst (λ (lists : List (List Event)). Merge new.events lists) (sym (lists-looked c old.ends new.ends looked))
        (subst (λ (es : List Event). Merge es (received_lists c old.ends)) (sym events) taken.merge);
    counted = counted-all c old.ends new.ends looked taken.counted;
  };
}

-- ---- an intake

-- what comes of one end's turn
pub gives-at : (c : Config) (result : Result (Option Event) IntakeStop) (old new : Taking) (i : ℕ) (e e' : FeedEnd) → slice_get old.ends i ≡ Some e
    → new.ends ≡ set old.ends i e' → new.most ≡ old.most → TakesNext c old.most result e e' old.events new.events → GivesNext c result old new
gives-at c result old new i e e' at ends most takes = record {
  goes = record {
    ends = subst (λ (es : List FeedEnd). AllZip IsSameEnd old.ends es) (sym ends)
        (zip-set IsSameEnd old.ends old.ends i e e' at (λ x same. same_end_then x e e' same takes.feed) (same_ends old.ends));
    most = most;
    taken = λ taken. subst (λ (es : List FeedEnd). IsTaken c es new.events) (sym ends) (taken-one c old.most result old.ends i e e' old.events new.events at takes taken);
  };
  events = takes.events;
  proper = takes.proper;
  within = λ few. subst (λ n. length new.events ≤ n) (sym most) (takes.within few);
  ended = λ is. let waits = takes.ended is in (
    (
      e',
      subst (λ (es : List FeedEnd). Contains es e') (sym ends) (at-Contains (set old.ends i e') i e' (set_at old.ends i e' (slice_get_within old.ends i e at))),
      waits.0,
    ),
    subst (λ n. n ≤ length new.events) (sym most) waits.1,
  );
  over = λ is. absurd (takes.over is);
  dropped = λ is. absurd (takes.dropped is);
}

-- nothing was given, so the events are the same
pub none-given : (old new : Taking) (result : Result (Option Event) IntakeStop) → result ≡ Ok None → new.events ≡ old.events ++ given_by result → new.events ≡ old.events
none-given old new result is events = events ∙ ap (λ (r : Result (Option Event) IntakeStop). old.events ++ given_by r) is ∙ append-nil old.events

-- nothing is given
pub gives-none : (c : Config) (result : Result (Option Event) IntakeStop) (old new : Taking) → given_by result ≡ [] → GoesOn c old new → new.events ≡ old.events
    → (IsErrOf result Over → AreOver new.ends) → (IsErrOf result Ended → ⊥) → (IsErrOf result HandleDropped → All NothingWaits new.ends × (¬ AreOver new.ends)) → GivesNext c result old new
gives-none c result old new none goes same over ended dropped = record {
  goes = goes;
  events = same ∙ sym (append-nil old.events) ∙ ap (λ (es : List Event). old.events ++ es) (sym none);
  proper = subst (λ (es : List Event). All (IsProper c) es) (sym none) (All-nil (IsProper c));
  within = λ few. subst (λ n. length new.events ≤ n) (sym goes.most) (subst (λ (es : List Event). length es ≤ old.most) (sym same) few);
  over = over;
  ended = λ is. absurd (ended is);
  dropped = dropped;
}

-- it is given after turns in which nothing was
pub gives-then : (c : Config) (result : Result (Option Event) IntakeStop) (old mid new : Taking) → GoesOn c old mid → mid.events ≡ old.events → GivesNext c result mid new → GivesNext c result old new
gives-then c result old mid new goes same gives = record {
  goes = goes_on_then c old mid new goes gives.goes;
  events = gives.events ∙ ap (λ (es : List Event). es ++ given_by result) same;
  proper = gives.proper;
  over = gives.over;
  within = λ few. gives.within (subst (λ n. length mid.events ≤ n) (sym goes.most) (subst (λ (es : List Event). length es ≤ old.most) (sym same) few));
  ended = gives.ended;
  dropped = gives.dropped;
}

-- it is given at a turn, for which the intake was as it is
pub gives-turn : (c : Config) (result : Result (Option Event) IntakeStop) (old mid turned new : Taking) → GoesOn c old mid → mid.events ≡ old.events → turned ≡ mid → GivesNext c result turned new → GivesNext c result old new
gives-turn c result old mid turned new goes same is gives =
    gives-then c result old mid new goes same (subst (λ (now : Taking). GivesNext c result now new) is gives)
