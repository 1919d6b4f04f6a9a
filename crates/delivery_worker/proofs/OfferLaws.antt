-- What channels are offered, as one letter follows another.
use Rattle.std.proofs.Common.{◌≡◌, ℕ, ◌+◌, Bool, true, false, List, [], ◌∷◌, ◌++◌, Option, Some, None, Result, Ok, Err, OnOk, OnErr, IfErr, replicate, refl, sym, ap, ◌∙◌, subst, ⊎_elim, append-nil, append_assoc, true≢false, arith}
use Rattle.std.proofs.lemmas.List.{replicate_more}
use Rattle.channel.specs.claims.Channels.{Offer}
use Rattle.channel.specs.claims.Letter.{letter_of}
use Rattle.due_model.specs.declared.config.Config.{Config}
use Rattle.due_model.specs.declared.notice.Notice.{Notice}
use Rattle.undelivered.specs.Record.{Record}
use Rattle.undelivered.specs.declared.Why.{Why}
use Rattle.undelivered.specs.declared.Why.TheVariants as why
use Rattle.delivery_worker.specs.Attempts.{KeepsInHand, with_hand}
use Rattle.delivery_worker.specs.declared.Attempted.TheVariants.{Settled, Asked, Failed}
use Rattle.delivery_worker.specs.claims.Offers.{AreInVain, AreOffers, AreSettling, in_vain, offers_for}
use Rattle.delivery_worker.specs.Offers.{GainsByOffers, IsTried, Settles, TakesOffers, TriesInVain}

-- that of a channel's offers one list follows another
abbrev pub Follows : {C : Type 0} → (offered : C → List Offer → C → Type 0) → Type 0
Follows {C} offered = (a b c : C) (one two : List Offer) → offered a one b → offered b two c → offered a (one ++ two) c

-- ---- one letter

-- one try more that failed
pub fails_more : {C : Type 0} (offered : C → List Offer → C → Type 0) → Follows offered → (o : Offer) (k : ℕ) (a b c : C)
    → offered a (replicate k o) b → offered b (o ∷ []) c → offered a (replicate (k + 1) o) c
fails_more {C} offered follows o k a b c one two = subst (λ (os : List Offer). offered a os c) (replicate_more k o) (follows a b c (replicate k o) (o ∷ []) one two)

-- its tries, where it was taken
pub settles_one : {C : Type 0} (offered : C → List Offer → C → Type 0) (tries : ℕ) (c : Config) (n : Notice) (a b : C)
    → IsTried offered n (letter_of c n) tries Settled a b → Settles offered tries c (n ∷ []) a b
settles_one offered tries c n a b t = (
  offers_for n (letter_of c n) Settled t.failed,
  (t.failed, [], t.count, sym (append-nil (offers_for n (letter_of c n) Settled t.failed)), refl),
  t.made,
)

-- and where it wasn't
pub fails_one : {C : Type 0} (offered : C → List Offer → C → Type 0) (tries : ℕ) (c : Config) (n : Notice) (hand : Option Notice) (a b : C)
    → hand ≡ Some n → IsTried offered n (letter_of c n) tries Failed a b → (has_failed : Type 0) → TriesInVain offered tries c hand has_failed a b
fails_one {C} offered tries c n hand a b is t has_failed = (
  in_vain c hand t.failed,
  record { count = t.failed; whole = refl; most = (let e = t.count in omega (arith, e)); all = λ _. t.count },
  subst (λ (h : Option Notice). offered a (in_vain c h t.failed) b) (sym is) t.made,
)

pub asked_one : {C : Type 0} (offered : C → List Offer → C → Type 0) (tries : ℕ) (c : Config) (n : Notice) (hand : Option Notice) (a b : C)
    → hand ≡ Some n → IsTried offered n (letter_of c n) tries Asked a b → (has_failed : Type 0) → (¬ has_failed) → TriesInVain offered tries c hand has_failed a b
asked_one {C} offered tries c n hand a b is t has_failed never = (
  in_vain c hand t.failed,
  record { count = t.failed; whole = refl; most = (let e = t.count in omega (arith, e)); all = λ f. absurd (never f) },
  subst (λ (h : Option Notice). offered a (in_vain c h t.failed) b) (sym is) t.made,
)

-- no tries of it
in_vain-none : (c : Config) (hand : Option Notice) → in_vain c hand 0 ≡ []
in_vain-none c None = refl
in_vain-none c (Some n) = refl

pub no_tries : (tries : ℕ) (c : Config) (hand : Option Notice) (has_failed : Type 0) → (¬ has_failed) → AreInVain tries c hand has_failed []
no_tries tries c hand has_failed never = record {
  count = 0;
  whole = sym (in_vain-none c hand);
  most = omega arith;
  all = λ f. absurd (never f);
}

pub untried : {C : Type 0} (offered : C → List Offer → C → Type 0) (tries : ℕ) (c : Config) (hand : Option Notice) (has_failed : Type 0) (a b : C)
    → (¬ has_failed) → offered a [] b → TriesInVain offered tries c hand has_failed a b
untried offered tries c hand has_failed a b never same = ([], no_tries tries c hand has_failed never, same)

-- ---- letters one after another

-- some letters, and then others
settling-append : (tries : ℕ) (c : Config) (ns ms : List Notice) (one two : List Offer) → AreSettling tries c ns one → AreSettling tries c ms two → AreSettling tries c (ns ++ ms) (one ++ two)
settling-append tries c [] ms one two first next = subst (λ (os : List Offer). AreSettling tries c ms (os ++ two)) (sym first) next
settling-append tries c (n ∷ ns) ms one two first next = (
  first.0,
  first.1 ++ two,
  first.2,
  ap (λ (os : List Offer). os ++ two) first.3 ∙ append_assoc (offers_for n (letter_of c n) Settled first.0) first.1 two,
  settling-append tries c ns ms first.1 two first.4 next,
)

pub settles_more : {C : Type 0} (offered : C → List Offer → C → Type 0) → Follows offered → (tries : ℕ) (c : Config) (ns ms : List Notice) (x y z : C)
    → Settles offered tries c ns x y → Settles offered tries c ms y z → Settles offered tries c (ns ++ ms) x z
settles_more offered follows tries c ns ms x y z first next = (
  first.0 ++ next.0,
  settling-append tries c ns ms first.0 next.0 first.1 next.1,
  follows x y z first.0 next.0 first.2 next.2,
)

-- nothing was offered before, or nothing after
pub after_nothing : {C : Type 0} (offered : C → List Offer → C → Type 0) → Follows offered → (x y z : C) (os : List Offer) → offered x [] y → offered y os z → offered x os z
after_nothing offered follows x y z os first next = follows x y z [] os first next

pub then_nothing : {C : Type 0} (offered : C → List Offer → C → Type 0) → Follows offered → (x y z : C) (os : List Offer) → offered x os y → offered y [] z → offered x os z
then_nothing {C} offered follows x y z os first next = subst (λ (l : List Offer). offered x l z) (append-nil os) (follows x y z os [] first next)

-- ---- a lane's record

-- What a lane's record has gained so far was settled.
abbrev pub GainsSettled : {C : Type 0} → (offered : C → List Offer → C → Type 0) → (tries : ℕ) → Config → (before after : List Notice) → (old new : C) → Type 0
GainsSettled offered tries c before after old new = (gained : List Notice) × (after ≡ before ++ gained) × Settles offered tries c gained old new

pub gains_first : {C : Type 0} (offered : C → List Offer → C → Type 0) (tries : ℕ) (c : Config) (before after gained : List Notice) (x y : C)
    → after ≡ before ++ gained → Settles offered tries c gained x y → GainsSettled offered tries c before after x y
gains_first offered tries c before after gained x y is s = (gained, is, s)

pub gains_on : {C : Type 0} (offered : C → List Offer → C → Type 0) → Follows offered → (tries : ℕ) (c : Config) (before mid after : List Notice) (x y z : C)
    → GainsSettled offered tries c before mid x y → after ≡ mid → offered y [] z → GainsSettled offered tries c before after x z
gains_on offered follows tries c before mid after x y z g same quiet = (
  g.0,
  same ∙ g.1,
  (g.2.0, g.2.1, then_nothing offered follows x y z g.2.0 g.2.2 quiet),
)

pub gains_more : {C : Type 0} (offered : C → List Offer → C → Type 0) → Follows offered → (tries : ℕ) (c : Config) (before mid after : List Notice) (n : Notice) (x y w z : C)
    → GainsSettled offered tries c before mid x y → after ≡ mid ++ n ∷ [] → offered y [] w → Settles offered tries c (n ∷ []) w z → GainsSettled offered tries c before after x z
gains_more offered follows tries c before mid after n x y w z g more quiet s = (
  g.0 ++ n ∷ [],
  more ∙ ap (λ (ns : List Notice). ns ++ n ∷ []) g.1 ∙ append_assoc before g.0 (n ∷ []),
  settles_more offered follows tries c g.0 (n ∷ []) x y z g.2 (s.0, s.1, after_nothing offered follows y w z s.0 quiet s.2),
)

-- and then the letter in hand wasn't taken
pub gains_end : {C : Type 0} (offered : C → List Offer → C → Type 0) → Follows offered → (tries : ℕ) (c : Config) (before mid after : Record) (has_failed : Type 0) (x y w z : C)
    → GainsSettled offered tries c before.taken mid.taken x y → after.taken ≡ mid.taken → offered y [] w → TriesInVain offered tries c after.hand has_failed w z
    → GainsByOffers offered tries c before after has_failed x z
gains_end offered follows tries c before mid after has_failed x y w z g same quiet t = (
  g.0,
  same ∙ g.1,
  (
    g.2.0 ++ t.0,
    record { settled = g.2.0; last = t.0; whole = refl; taken_in = g.2.1; left = t.1 },
    follows x y z g.2.0 t.0 g.2.2 (after_nothing offered follows y w z t.0 quiet t.2),
  ),
)

-- what a channel was offered whose record began empty
pub takes_all : {C : Type 0} (offered : C → List Offer → C → Type 0) → Follows offered → (tries : ℕ) (c : Config) (before after : Record) (has_failed : Type 0) (x y z : C)
    → before.taken ≡ [] → GainsByOffers offered tries c before after has_failed x y → offered y [] z → TakesOffers offered tries c after.taken after.hand has_failed x z
takes_all offered follows tries c before after has_failed x y z none g quiet = (
  g.2.0,
  subst (λ (ns : List Notice). AreOffers tries c ns after.hand has_failed g.2.0) (sym (g.1 ∙ ap (λ (ns : List Notice). ns ++ g.0) none)) g.2.1,
  then_nothing offered follows x y z g.2.0 g.2.2 quiet,
)

-- nothing was gained yet
pub gains_none : {C : Type 0} (offered : C → List Offer → C → Type 0) → ((x : C) → offered x [] x) → (tries : ℕ) (c : Config) (before : List Notice) (x : C)
    → GainsSettled offered tries c before before x x
gains_none offered stays tries c before x = ([], sym (append-nil before), ([], refl, stays x))

-- ---- by what is answered

abbrev is_failed : Why → Bool
is_failed why.FeedOver = false
is_failed why.Asked = false
is_failed why.Failed = true
is_failed why.NoMemory = false
is_failed why.NoChannel = false

pub isnt_failed : (w : Why) → is_failed w ≡ false → w ≡ why.Failed → ⊥
isnt_failed w other e = true≢false (sym (sym other ∙ ap is_failed e))

pub settles_if : {C : Type 0} (offered : C → List Offer → C → Type 0) → Follows offered → (tries : ℕ) (c : Config) (ns ms : List Notice) (r : Result (Unit {0}) Why) (x y z : C)
    → offered x [] y → ms ≡ ns → OnOk r (Settles offered tries c ns y z) → OnOk r (Settles offered tries c ms x z)
settles_if {C} offered follows tries c ns ms (Ok u) x y z quiet same s =
    subst (λ (l : List Notice). Settles offered tries c l x z) (sym same) (s.0, s.1, after_nothing offered follows x y z s.0 quiet s.2)
settles_if {C} offered follows tries c ns ms (Err e) x y z quiet same s = tt

pub vain_if : {C : Type 0} (offered : C → List Offer → C → Type 0) → Follows offered → (tries : ℕ) (c : Config) (n : Notice) (hand : Option Notice) (r : Result (Unit {0}) Why) (x y z : C)
    → offered x [] y → OnErr r (hand ≡ Some n) → IfErr r (λ w. TriesInVain offered tries c (Some n) (w ≡ why.Failed) y z)
    → IfErr r (λ w. TriesInVain offered tries c hand (w ≡ why.Failed) x z)
vain_if {C} offered follows tries c n hand (Ok u) x y z quiet same t = tt
vain_if {C} offered follows tries c n hand (Err w) x y z quiet same t =
    subst (λ (h : Option Notice). TriesInVain offered tries c h (w ≡ why.Failed) x z) (sym same) (t.0, t.1, after_nothing offered follows x y z t.0 quiet t.2)

-- the hand is the one before where the record is
pub same_hand : (n : Notice) (r : Result (Unit {0}) Why) (old new : Record) → old.hand ≡ Some n → OnErr r (new ≡ old) → OnErr r (new.hand ≡ Some n)
same_hand n (Ok u) old new at same = tt
same_hand n (Err w) old new at same = ap (λ (l : Record). l.hand) same ∙ at

-- where a notice wasn't taken, what was taken stays
pub kept_taken : (n : Notice) (w : Why) (old new : Record) → KeepsInHand w n old new → new.taken ≡ old.taken
kept_taken n w old new kept = ⊎_elim (λ (is : new ≡ with_hand n old). ap (λ (l : Record). l.taken) is) (λ (is : (new ≡ old) × (w ≡ why.NoMemory)). ap (λ (l : Record). l.taken) is.0) kept
