-- The channels of a lane, as one after another serves.
use Rattle.std.proofs.Common.{◌≡◌, ◌≢◌, ℕ, zero, suc, ◌+◌, ◌<◌, ◌≤◌, ◌⊎◌, inl, inr, Bool, true, false, List, [], ◌∷◌, ◌++◌, Option, Some, None, length, map, slice_get, slice_index_or, slice_set, take, if◌then◌else◌, refl, sym, ap, ◌∙◌, subst, ⊎_elim, append-nil, append_assoc, length-append, true≢false, arith}
use Rattle.std.proofs.lemmas.Bool.{cases_eq, cases_lt}
use Rattle.std.proofs.lemmas.List.{get_or-set_same, length-set, take-append-le}
use Rattle.std.proofs.lemmas.Option.{none-some, same_Some, slice_get-get_or}
use Rattle.std.specs.Option.{option_to_list}
use mathlib.Core.List.{IsPrefix}
use Rattle.channel.specs.claims.Channels.{Account, Offer, receipt_of}
use Rattle.due_model.specs.declared.config.Config.{Config}
use Rattle.due_model.specs.declared.notice.Notice.{Notice}
use Rattle.undelivered.specs.Record.{Record}
use Rattle.undelivered.specs.declared.Why.{Why}
use Rattle.undelivered.specs.declared.Why.TheVariants as why
use Rattle.delivery_worker.specs.claims.Attempts.{HasFailed}
use Rattle.delivery_worker.specs.claims.Channels.{HasBeenLeft, HasServed, HaveServed, next_after, record_at}
use Rattle.delivery_worker.specs.Channels.{records_in}
use Rattle.delivery_worker.specs.claims.Offers.{AreInVain, AreOffers, AreSettling, in_vain}
use Rattle.delivery_worker.proofs.OfferLaws.{no_tries}
use Rattle.delivery_worker.specs.claims.Picked.{join_lists}
use Rattle.delivery_worker.specs.Picked.{HasOwnRecord, IsServing, all_taken, held, joined}
use Rattle.delivery_worker.proofs.TendLaws.{join_lists-more}

-- ---- lists

get_front : {X : Type 0} (xs more : List X) (p : ℕ) (x : X) → slice_get xs p ≡ Some x → slice_get (xs ++ more) p ≡ Some x
get_front [] more p x e = absurd (none-some x e)
get_front (y ∷ ys) more zero x e = e
get_front (y ∷ ys) more (suc p) x e = get_front ys more p x e

get_after : {X : Type 0} (xs : List X) (o : Option X) → slice_get (xs ++ option_to_list o) (length xs) ≡ o
get_after [] None = refl
get_after [] (Some x) = refl
get_after (y ∷ ys) o = get_after ys o

get_past : {X : Type 0} (xs : List X) (d : X) (i : ℕ) → length xs ≤ i → slice_index_or xs i d ≡ d
get_past [] d i past = refl
get_past (x ∷ xs) d zero past = absurd (omega (arith, past))
get_past (x ∷ xs) d (suc i) past = get_past xs d i (omega (arith, past))

get_or_front : {X : Type 0} (xs more : List X) (d : X) (i : ℕ) → i < length xs → slice_index_or (xs ++ more) i d ≡ slice_index_or xs i d
get_or_front [] more d i within = absurd (omega (arith, within))
get_or_front (x ∷ xs) more d zero within = refl
get_or_front (x ∷ xs) more d (suc i) within = get_or_front xs more d i (omega (arith, within))

get_or_seam : {X : Type 0} (xs : List X) (y d : X) → slice_index_or (xs ++ y ∷ []) (length xs) d ≡ y
get_or_seam [] y d = refl
get_or_seam (x ∷ xs) y d = get_or_seam xs y d

take_all : {X : Type 0} (xs : List X) (n : ℕ) → length xs ≤ n → take n xs ≡ xs
take_all [] zero all = refl
take_all [] (suc n) all = refl
take_all (x ∷ xs) zero all = absurd (omega (arith, all))
take_all (x ∷ xs) (suc n) all = ap (λ l. x ∷ l) (take_all xs n (omega (arith, all)))

set_same : {X : Type 0} (xs : List X) (i : ℕ) (x : X) → i < length xs → slice_get (slice_set xs i x) i ≡ Some x
set_same {X} xs i x within =
    slice_get-get_or (slice_set xs i x) i x (let l = length-set xs i x in omega (arith, l, within))
    ∙ ap (λ (y : X). Some y) (get_or-set_same xs i x x within)

set_other : {X : Type 0} (xs : List X) (i j : ℕ) (x : X) → ¬ (j ≡ i) → slice_get (slice_set xs i x) j ≡ slice_get xs j
set_other [] i j x apart = refl
set_other (y ∷ ys) zero zero x apart = absurd (apart refl)
set_other (y ∷ ys) zero (suc j) x apart = refl
set_other (y ∷ ys) (suc i) zero x apart = refl
set_other (y ∷ ys) (suc i) (suc j) x apart = set_other ys i j x (λ e. apart (ap suc e))

-- ---- causes

abbrev is_failed : Why → Bool
is_failed why.FeedOver = false
is_failed why.Asked = false
is_failed why.Failed = true
is_failed why.NoMemory = false
is_failed why.NoChannel = false

pub not_failed : (w : Why) → w ≡ why.NoMemory → w ≡ why.Failed → ⊥
not_failed w memory failed = true≢false (sym (ap is_failed failed) ∙ ap is_failed memory)

-- ---- what became of one channel

-- the place after a front
get_stays : (all more : List Notice) → IsPrefix all more → (p : ℕ) (n : Notice) → slice_get all p ≡ Some n → slice_get more p ≡ slice_get all p
get_stays all more front p n at = subst (λ (l : List Notice). slice_get l p ≡ Some n) front.1 (get_front all front.0 p n at) ∙ sym at

-- what the next notice is stays where more comes after
next_stays : (tries : ℕ) (c : Config) (limit old new p : ℕ) (all more : List Notice) → IsPrefix all more → HasFailed tries c limit old new (slice_get all p) → HasFailed tries c limit old new (slice_get more p)
next_stays tries c limit old new p all more front h = (
  h.0,
  h.1,
  subst (λ (l : List Notice). slice_get l p ≡ Some h.0) front.1 (get_front all front.0 p h.0 h.2),
  h.3,
  h.4,
)

-- what it was offered stays the same where its record and the letter after it do
offers_as : (tries : ℕ) (c : Config) (taken more : List Notice) (hand next : Option Notice) (was is : Type 0) (offers : List Offer)
    → more ≡ taken → next ≡ hand → (is → was) → AreOffers tries c taken hand was offers → AreOffers tries c more next is offers
offers_as tries c taken more hand next was is offers same still back o = record {
  settled = o.settled;
  last = o.last;
  whole = o.whole;
  taken_in = subst (λ (ns : List Notice). AreSettling tries c ns o.settled) (sym same) o.taken_in;
  left = record {
    count = o.left.count;
    whole = o.left.whole ∙ ap (λ (h : Option Notice). in_vain c h o.left.count) (sym still);
    most = o.left.most;
    all = λ h. o.left.all (back h);
  };
}

-- a channel that failed before, once more records follow its own
older : (tries : ℕ) (c : Config) (before after more : List (List Notice)) (all_before all_after : List Notice) (was is : Type 0) (i : ℕ) (went : List Offer → Type 0) (a b : Account)
    → i < length before → after ≡ before ++ more → IsPrefix all_before all_after → was
    → HasServed tries c before all_before was i went a b → HasServed tries c after all_after is i went a b
older tries c before after more all_before all_after was is i went a b within same front failed s = record {
  number = s.number;
  limit = s.limit;
  taken = s.taken ∙ ap (λ (ns : List Notice). a.taken ++ map receipt_of ns) (sym same_record);
  failed = λ _. still_failed;
  untried = λ past. absurd (let l = ap length same in let m = length-append before more in omega (arith, past, l, m, within));
  closed = λ _. s.closed within;
  letters = (
    s.letters.0,
    offers_as tries c (record_at i before) (record_at i after) (next_after i before all_before) (next_after i after all_after)
        (HasBeenLeft i before was) (HasBeenLeft i after is) s.letters.0 same_record next_same (λ _. place) s.letters.1,
    s.letters.2,
  );
}
  where
    taken_up : take (i + 1) after ≡ take (i + 1) before
    taken_up = ap (λ (rs : List (List Notice)). take (i + 1) rs) same ∙ take-append-le (i + 1) before more (omega (arith, within))

    place : HasBeenLeft i before was
    place = ⊎_elim (λ (less : i + 1 < length before). inl less) (λ (most : length before ≤ i + 1). inr (omega (arith, most, within), failed)) (cases_lt (i + 1) (length before))

    same_record : record_at i after ≡ record_at i before
    same_record = ap (λ (rs : List (List Notice)). record_at i rs) same ∙ get_or_front before more [] i within

    next_same : next_after i after all_after ≡ next_after i before all_before
    next_same = ap (λ (rs : List (List Notice)). slice_get all_after (length (join_lists rs))) taken_up ∙ get_stays all_before all_after front (length (join_lists (take (i + 1) before))) (s.failed place).0 (s.failed place).2

    still_failed : HasFailed tries c a.limit a.failures b.failures (next_after i after all_after)
    still_failed = subst (λ (rs : List (List Notice)). HasFailed tries c a.limit a.failures b.failures (slice_get all_after (length (join_lists rs)))) (sym taken_up)
        (next_stays tries c a.limit a.failures b.failures (length (join_lists (take (i + 1) before))) all_before all_after front (s.failed place))

-- what became of a channel that had its turn
pub record Tended (tries : ℕ) (c : Config) (first : Bool) (cause : Why) (old new : Record) (went : List Offer → Type 0) (a b : Account) : Type 0 where
  pub own : HasOwnRecord first cause old new a.taken b.taken a.failures b.failures
      ((offers : List Offer) × AreOffers tries c new.taken new.hand (cause ≡ why.Failed) offers × went offers) (went [])
  pub tried : cause ≡ why.Failed → HasFailed tries c a.limit a.failures b.failures new.hand
  pub number : b.number ≡ a.number
  pub limit : b.limit ≡ a.limit
  pub closed : b.closed ≡ true
  pub grows : IsPrefix (held old) (held new)

-- the notice in hand is the one after all records
hand_next : (lane : Record) (k : ℕ) → length lane.ended ≡ k → next_after k (records_in lane) (held lane) ≡ lane.hand
hand_next lane k size =
    ap (λ (rs : List (List Notice)). slice_get (held lane) (length (join_lists rs))) (take_all (records_in lane) (k + 1) (let l = length-append lane.ended (lane.taken ∷ []) in omega (arith, l, size)))
    ∙ ap (λ (ns : List Notice). slice_get (held lane) (length ns)) (join_lists-more lane.ended lane.taken)
    ∙ get_after (all_taken lane) lane.hand

-- the channel whose turn it was, with a record of its own
newest : (tries : ℕ) (c : Config) (first : Bool) (cause : Why) (old new : Record) (k : ℕ) (went : List Offer → Type 0) (a b : Account)
    → length new.ended ≡ k → b.taken ≡ a.taken ++ map receipt_of new.taken
    → ((offers : List Offer) × AreOffers tries c new.taken new.hand (cause ≡ why.Failed) offers × went offers)
    → Tended tries c first cause old new went a b → HasServed tries c (records_in new) (held new) (cause ≡ why.Failed) k went a b
newest tries c first cause old new k went a b size taken made t = record {
  number = t.number;
  limit = t.limit;
  taken = taken ∙ ap (λ (ns : List Notice). a.taken ++ map receipt_of ns) (sym own_record);
  failed = λ h. subst (λ (o : Option Notice). HasFailed tries c a.limit a.failures b.failures o) (sym (hand_next new k size)) (t.tried (last h));
  untried = λ past. absurd (let l = long in omega (arith, past, l));
  closed = λ _. t.closed;
  letters = (
    made.0,
    offers_as tries c new.taken (record_at k (records_in new)) new.hand (next_after k (records_in new) (held new))
        (cause ≡ why.Failed) (HasBeenLeft k (records_in new) (cause ≡ why.Failed)) made.0 own_record (hand_next new k size) last made.1,
    made.2,
  );
}
  where
    own_record : record_at k (records_in new) ≡ new.taken
    own_record = subst (λ (i : ℕ). record_at i (records_in new) ≡ new.taken) size (get_or_seam new.ended new.taken [])

    long : length (records_in new) ≡ k + 1
    long = length-append new.ended (new.taken ∷ []) ∙ ap (λ (n : ℕ). n + 1) size

    last : HasBeenLeft k (records_in new) (cause ≡ why.Failed) → cause ≡ why.Failed
    last (inl less) = absurd (let l = long in omega (arith, less, l))
    last (inr is) = is.1

-- a channel that has no record, and wasn't tried
unserved : (tries : ℕ) (c : Config) (records : List (List Notice)) (all : List Notice) (last : Type 0) (i : ℕ) (went : List Offer → Type 0) (a b : Account)
    → length records ≤ i → b.number ≡ a.number → b.limit ≡ a.limit → b.taken ≡ a.taken → b.failures ≡ a.failures → went []
    → HasServed tries c records all last i went a b
unserved tries c records all last i went a b past number limit taken failures unoffered = record {
  number = number;
  limit = limit;
  taken = taken ∙ sym (append-nil a.taken) ∙ ap (λ (ns : List Notice). a.taken ++ map receipt_of ns) (sym none);
  failed = λ h. absurd (nowhere h);
  untried = λ _. failures;
  closed = λ within. absurd (omega (arith, past, within));
  letters = (
    [],
    record {
      settled = [];
      last = [];
      whole = refl;
      taken_in = subst (λ (ns : List Notice). AreSettling tries c ns []) (sym none) refl;
      left = no_tries tries c (next_after i records all) (HasBeenLeft i records last) nowhere;
    },
    unoffered,
  );
}
  where
    none : record_at i records ≡ []
    none = get_past records [] i past

    nowhere : HasBeenLeft i records last → ⊥
    nowhere (inl less) = omega (arith, past, less)
    nowhere (inr is) = let e = is.0 in omega (arith, past, e)

-- ---- one after another

-- so far: these channels had their turns, and the others are as they were
pub record HaveSoFar {B : Type 0} (account : B → Account) (offered : B → List Offer → B → Type 0) (tries : ℕ) (c : Config) (records : List (List Notice)) (all : List Notice) (last : Type 0) (done : ℕ)
    (old now : List B)
    : Type 0
  where
    pub count : length now ≡ length old
    pub each : (i : ℕ) (a b : B) → i < done → slice_get old i ≡ Some a → slice_get now i ≡ Some b → HasServed tries c records all last i (λ os. offered a os b) (account a) (account b)
    pub left : (i : ℕ) → done ≤ i → slice_get now i ≡ slice_get old i

pub none_so_far : {B : Type 0} (account : B → Account) (offered : B → List Offer → B → Type 0) (tries : ℕ) (c : Config) (records : List (List Notice)) (all : List Notice) (last : Type 0) (old : List B)
    → HaveSoFar account offered tries c records all last 0 old old
none_so_far {B} account offered tries c records all last old = record {
  count = refl;
  each = λ i a b less. absurd (omega (arith, less));
  left = λ i _. refl;
}

-- the turn of the next channel
pub turn : {B : Type 0} (account : B → Account) (offered : B → List Offer → B → Type 0) (tries : ℕ) (c : Config) (k : ℕ) (first : Bool) (before cause : Why) (lane new : Record) (old now : List B) (x y : B)
    → HaveSoFar account offered tries c (records_in lane) (held lane) (before ≡ why.Failed) k old now
    → (first ≡ true → (k ≡ 0) × (lane.ended ≡ []) × (lane.taken ≡ []))
    → (first ≡ false → (length lane.ended + 1 ≡ k) × (before ≡ why.Failed))
    → slice_get now k ≡ Some x → Tended tries c first cause lane new (λ os. offered x os y) (account x) (account y)
    → HaveSoFar account offered tries c (records_in new) (held new) (cause ≡ why.Failed) (k + 1) old (slice_set now k y)
turn {B} account offered tries c k first before cause lane new old now x y s start next at t = record {
  count = length-set now k y ∙ s.count;
  each = λ i a b less at_a at_b. ⊎_elim
      (λ (same : i ≡ k). mine i a b same at_a at_b)
      (λ (apart : ¬ (i ≡ k)). earlier first start next t.own i a b (below i less apart) at_a (sym (set_other now k i y apart) ∙ at_b))
      (cases_eq i k);
  left = λ i past. set_other now k i y (λ e. omega (arith, past, e)) ∙ s.left i (omega (arith, past));
}
  where
    below : (i : ℕ) → i < k + 1 → ¬ (i ≡ k) → i < k
    below i less apart = ⊎_elim (λ (l : i < k). l) (λ (g : k ≤ i). absurd (apart (omega (arith, g, less)))) (cases_lt i k)

    length_of : (l : Record) → length (records_in l) ≡ length l.ended + 1
    length_of l = length-append l.ended (l.taken ∷ [])

    earlier : (f : Bool) → (f ≡ true → (k ≡ 0) × (lane.ended ≡ []) × (lane.taken ≡ [])) → (f ≡ false → (length lane.ended + 1 ≡ k) × (before ≡ why.Failed))
        → HasOwnRecord f cause lane new (account x).taken (account y).taken (account x).failures (account y).failures
        ((offers : List Offer) × AreOffers tries c new.taken new.hand (cause ≡ why.Failed) offers × offered x offers y) (offered x [] y)
        → (i : ℕ) (a b : B) → i < k → slice_get old i ≡ Some a → slice_get now i ≡ Some b
        → HasServed tries c (records_in new) (held new) (cause ≡ why.Failed) i (λ os. offered a os b) (account a) (account b)
    earlier true st nx own i a b less at_a at_b = absurd (let e = (st refl).0 in omega (arith, e, less))
    earlier false st nx (inl own) i a b less at_a at_b =
        older tries c (records_in lane) (records_in new) (new.taken ∷ []) (held lane) (held new) (before ≡ why.Failed) (cause ≡ why.Failed) i (λ os. offered a os b) (account a) (account b)
        (let l = length_of lane in let e = (nx refl).0 in omega (arith, l, e, less))
        (ap (λ (rs : List (List Notice)). rs ++ new.taken ∷ []) own.0) t.grows (nx refl).1 (s.each i a b less at_a at_b)
    earlier false st nx (inr own) i a b less at_a at_b =
        older tries c (records_in lane) (records_in new) [] (held lane) (held new) (before ≡ why.Failed) (cause ≡ why.Failed) i (λ os. offered a os b) (account a) (account b)
        (let l = length_of lane in let e = (nx refl).0 in omega (arith, l, e, less))
        (ap records_in own.1 ∙ sym (append-nil (records_in lane))) t.grows (nx refl).1 (s.each i a b less at_a at_b)

    whose : (f : Bool) → (f ≡ true → (k ≡ 0) × (lane.ended ≡ []) × (lane.taken ≡ [])) → (f ≡ false → (length lane.ended + 1 ≡ k) × (before ≡ why.Failed))
        → HasOwnRecord f cause lane new (account x).taken (account y).taken (account x).failures (account y).failures
        ((offers : List Offer) × AreOffers tries c new.taken new.hand (cause ≡ why.Failed) offers × offered x offers y) (offered x [] y)
        → HasServed tries c (records_in new) (held new) (cause ≡ why.Failed) k (λ os. offered x os y) (account x) (account y)
    whose true st nx (inl own) =
        newest tries c first cause lane new k (λ os. offered x os y) (account x) (account y) (ap length own.0 ∙ ap length (st refl).1 ∙ sym (st refl).0) own.1 own.2 t
    whose false st nx (inl own) =
        newest tries c first cause lane new k (λ os. offered x os y) (account x) (account y) (ap length own.0 ∙ length_of lane ∙ (nx refl).0) own.1 own.2 t
    whose true st nx (inr own) =
        newest tries c first cause lane new k (λ os. offered x os y) (account x) (account y) (ap (λ (r : Record). length r.ended) own.1 ∙ ap length (st refl).1 ∙ sym (st refl).0)
        (own.2 ∙ sym (append-nil (account x).taken) ∙ ap (λ (ns : List Notice). (account x).taken ++ map receipt_of ns) (sym (ap (λ (r : Record). r.taken) own.1 ∙ (st refl).2))) (
          [],
          record {
            settled = [];
            last = [];
            whole = refl;
            taken_in = subst (λ (ns : List Notice). AreSettling tries c ns []) (sym (ap (λ (r : Record). r.taken) own.1 ∙ (st refl).2)) refl;
            left = no_tries tries c new.hand (cause ≡ why.Failed) (not_failed cause own.0);
          },
          own.4,
        ) t
    whose false st nx (inr own) =
        unserved tries c (records_in new) (held new) (cause ≡ why.Failed) k (λ os. offered x os y) (account x) (account y)
        (let l = ap (λ (r : Record). length (records_in r)) own.1 in let m = length_of lane in let e = (nx refl).0 in omega (arith, l, m, e)) t.number t.limit own.2 own.3 own.4

    mine : (i : ℕ) (a b : B) → i ≡ k → slice_get old i ≡ Some a → slice_get (slice_set now k y) i ≡ Some b
        → HasServed tries c (records_in new) (held new) (cause ≡ why.Failed) i (λ os. offered a os b) (account a) (account b)
    mine i a b same at_a at_b =
        subst (λ (j : ℕ). HasServed tries c (records_in new) (held new) (cause ≡ why.Failed) j (λ os. offered a os b) (account a) (account b)) (sym same)
        (subst (λ (u : B). HasServed tries c (records_in new) (held new) (cause ≡ why.Failed) k (λ os. offered u os b) (account u) (account b)) is_a
        (subst (λ (u : B). HasServed tries c (records_in new) (held new) (cause ≡ why.Failed) k (λ os. offered x os u) (account x) (account u)) is_b (whose first start next t.own)))
      where
        here : slice_get now k ≡ slice_get old k
        here = s.left k (omega arith)

        within : k < length now
        within = ⊎_elim (λ (l : k < length now). l) (λ (g : length now ≤ k). absurd (none_there now k g at)) (cases_lt k (length now))
          where
            none_there : (l : List B) (j : ℕ) → length l ≤ j → slice_get l j ≡ Some x → ⊥
            none_there [] j past e = none-some x e
            none_there (z ∷ zs) zero past e = omega (arith, past)
            none_there (z ∷ zs) (suc j) past e = none_there zs j (omega (arith, past)) e

        is_a : x ≡ a
        is_a = same_Some x a (sym at ∙ here ∙ subst (λ (j : ℕ). slice_get old j ≡ Some a) same at_a)

        is_b : y ≡ b
        is_b = same_Some y b (sym (set_same now k y within) ∙ subst (λ (j : ℕ). slice_get (slice_set now k y) j ≡ Some b) same at_b)

-- after the last turn
pub all_turns : {B : Type 0} (account : B → Account) (offered : B → List Offer → B → Type 0) → ((x : B) → offered x [] x) → (tries : ℕ) (c : Config) (records : List (List Notice)) (all : List Notice) (last : Type 0) (done : ℕ) (old now : List B)
    → HaveSoFar account offered tries c records all last done old now → (length records ≤ done) ⊎ (old ≡ []) → HaveServed account offered tries c records all last old now
all_turns {B} account offered stays tries c records all last done old now s few = record {
  count = s.count;
  each = λ i a b at_a at_b. ⊎_elim (λ (less : i < done). s.each i a b less at_a at_b) (λ (past : done ≤ i). rest few i a b past at_a at_b) (cases_lt i done);
}
  where
    rest : (length records ≤ done) ⊎ (old ≡ []) → (i : ℕ) (a b : B) → done ≤ i → slice_get old i ≡ Some a → slice_get now i ≡ Some b → HasServed tries c records all last i (λ os. offered a os b) (account a) (account b)
    rest (inl size) i a b past at_a at_b =
        subst (λ (u : B). HasServed tries c records all last i (λ os. offered a os u) (account a) (account u)) (same_Some a b (sym at_a ∙ sym (s.left i past) ∙ at_b))
        (unserved tries c records all last i (λ os. offered a os a) (account a) (account a) (omega (arith, size, past)) refl refl refl refl (stays a))
    rest (inr none) i a b past at_a at_b = absurd (none-some a (subst (λ (l : List B). slice_get l i ≡ Some a) none at_a))

-- ---- the close

-- what a channel was offered stays the same where more is given up
offers_on : (tries : ℕ) (c : Config) (records : List (List Notice)) (all more : List Notice) (was is : Type 0) (i : ℕ) (limit old new : ℕ) (offers : List Offer)
    → IsPrefix all more → (HasBeenLeft i records is → HasBeenLeft i records was)
    → (HasBeenLeft i records was → HasFailed tries c limit old new (next_after i records all))
    → AreOffers tries c (record_at i records) (next_after i records all) (HasBeenLeft i records was) offers
    → AreOffers tries c (record_at i records) (next_after i records more) (HasBeenLeft i records is) offers
offers_on tries c records all more was is i limit old new offers front back failed o = record {
  settled = o.settled;
  last = o.last;
  whole = o.whole;
  taken_in = o.taken_in;
  left = left (next_after i records all) refl;
}
  where
    left : (hand : Option Notice) → next_after i records all ≡ hand → AreInVain tries c (next_after i records more) (HasBeenLeft i records is) o.last
    left None none = subst (λ (os : List Offer). AreInVain tries c (next_after i records more) (HasBeenLeft i records is) os)
        (sym (o.left.whole ∙ ap (λ (h : Option Notice). in_vain c h o.left.count) none))
        (no_tries tries c (next_after i records more) (HasBeenLeft i records is) (λ h. none-some (failed (back h)).0 (sym none ∙ (failed (back h)).2)))
    left (Some n) some = record {
      count = o.left.count;
      whole = o.left.whole ∙ ap (λ (h : Option Notice). in_vain c h o.left.count) (sym (get_stays all more front (length (join_lists (take (i + 1) records))) n some));
      most = o.left.most;
      all = λ h. o.left.all (back h);
    }

-- the channels stay as they are where more is given up
pub served_on : {B : Type 0} (account : B → Account) (offered : B → List Offer → B → Type 0) (tries : ℕ) (c : Config) (records after : List (List Notice)) (all more : List Notice) (was is : Type 0) (old now : List B)
    → after ≡ records → IsPrefix all more → (is → was) → HaveServed account offered tries c records all was old now → HaveServed account offered tries c after more is old now
served_on {B} account offered tries c records after all more was is old now same front back s = record {
  count = s.count;
  each = λ i a b at_a at_b. one i (λ os. offered a os b) (account a) (account b) (s.each i a b at_a at_b);
}
  where
    one : (i : ℕ) (went : List Offer → Type 0) (a b : Account) → HasServed tries c records all was i went a b → HasServed tries c after more is i went a b
    one i went a b h = subst (λ (rs : List (List Notice)). HasServed tries c rs more is i went a b) (sym same) (record {
      number = h.number;
      limit = h.limit;
      taken = h.taken;
      failed = λ place. next_stays tries c a.limit a.failures b.failures (length (join_lists (take (i + 1) records))) all more front (h.failed (left_before place));
      untried = h.untried;
      closed = h.closed;
      letters = (h.letters.0, offers_on tries c records all more was is i a.limit a.failures b.failures h.letters.0 front left_before h.failed h.letters.1, h.letters.2);
    })
      where
        left_before : HasBeenLeft i records is → HasBeenLeft i records was
        left_before place = ⊎_elim (λ (less : i + 1 < length records). inl less) (λ (last : (i + 1 ≡ length records) × is). inr (last.0, back last.1)) place

-- what a record that was closed, and to which more was given up, holds of the open one
pub closed_front : (lane shut end : Record) (cause : Why) → IsServing lane
    → shut ≡ record lane { hand = None; undelivered = lane.undelivered ++ option_to_list lane.hand; why = Some cause }
    → end ≡ record shut { undelivered = end.undelivered } → IsPrefix shut.undelivered end.undelivered
    → (records_in end ≡ records_in lane) × IsPrefix (held lane) (joined end) × (end.why ≡ Some cause)
closed_front lane shut end cause serving is kept grows = (
  ap records_in kept ∙ ap records_in is,
  (
    grows.0,
    append_assoc (all_taken lane) (option_to_list lane.hand) grows.0
        ∙ ap (λ (ns : List Notice). all_taken lane ++ ns) (ap (λ (ns : List Notice). ns ++ grows.0) (sym given) ∙ grows.1)
        ∙ ap (λ (ns : List Notice). ns ++ end.undelivered) (sym (ap all_taken kept ∙ ap all_taken is)),
  ),
  ap (λ (r : Record). r.why) kept ∙ ap (λ (r : Record). r.why) is,
)
  where
    given : shut.undelivered ≡ option_to_list lane.hand
    given = ap (λ (r : Record). r.undelivered) is ∙ ap (λ (ns : List Notice). ns ++ option_to_list lane.hand) serving.nothing

-- there are no more records than channels that had their turn
pub few_records : (k : ℕ) (first : Bool) (before : Why) (lane new : Record) → (first ≡ true → (k ≡ 0) × (lane.ended ≡ []) × (lane.taken ≡ [])) → (first ≡ false → (length lane.ended + 1 ≡ k) × (before ≡ why.Failed))
    → length new.ended ≤ length lane.ended + (if first then 0 else 1) → length (records_in new) ≤ k + 1
few_records k true before lane new start next most = let l = length-append new.ended (new.taken ∷ []) in let e = (start refl).0 in let n = ap length (start refl).1 in omega (arith, l, e, n, most)
few_records k false before lane new start next most = let l = length-append new.ended (new.taken ∷ []) in let e = (next refl).0 in omega (arith, l, e, most)

-- one channel more had its turn
pub one_more : (k : ℕ) (first : Bool) (before : Why) (lane new : Record) → (first ≡ true → (k ≡ 0) × (lane.ended ≡ []) × (lane.taken ≡ [])) → (first ≡ false → (length lane.ended + 1 ≡ k) × (before ≡ why.Failed))
    → length new.ended ≡ length lane.ended + (if first then 0 else 1) → length new.ended + 1 ≡ k + 1
one_more k true before lane new start next is = let e = (start refl).0 in let n = ap length (start refl).1 in omega (arith, e, n, is)
one_more k false before lane new start next is = let e = (next refl).0 in omega (arith, e, is)

-- where each that had its turn has a record, or there is none at all
pub as_many : {B : Type 0} (k : ℕ) (lane : Record) (channels : List B) → (k ≢ 0 → length lane.ended + 1 ≡ k) → (k ≡ 0 → length channels ≡ 0) → (length (records_in lane) ≤ k) ⊎ (channels ≡ [])
as_many {B} k lane channels some none = ⊎_elim
    (λ (zero : k ≡ 0). inr (nothing channels (none zero)))
    (λ (more : ¬ (k ≡ 0)). inl (let l = length-append lane.ended (lane.taken ∷ []) in let e = some more in omega (arith, l, e)))
    (cases_eq k 0)
  where
    nothing : (l : List B) → length l ≡ 0 → l ≡ []
    nothing [] e = refl
    nothing (x ∷ xs) e = absurd (omega (arith, e))

-- the channels of a lane that was closed, and to which more was given up
pub served_closed : {B : Type 0} (account : B → Account) (offered : B → List Offer → B → Type 0) (tries : ℕ) (c : Config) (lane shut end : Record) (cause : Why) (old now : List B) → IsServing lane
    → shut ≡ record lane { hand = None; undelivered = lane.undelivered ++ option_to_list lane.hand; why = Some cause }
    → end ≡ record shut { undelivered = end.undelivered } → IsPrefix shut.undelivered end.undelivered
    → HaveServed account offered tries c (records_in lane) (held lane) (cause ≡ why.Failed) old now
    → HaveServed account offered tries c (records_in end) (joined end) (end.why ≡ Some why.Failed) old now
served_closed {B} account offered tries c lane shut end cause old now serving is kept grows s =
    let front = closed_front lane shut end cause serving is kept grows in
    served_on account offered tries c (records_in lane) (records_in end) (held lane) (joined end) (cause ≡ why.Failed) (end.why ≡ Some why.Failed) old now front.0 front.1 (λ failed. same_Some cause why.Failed (sym front.2 ∙ failed)) s
