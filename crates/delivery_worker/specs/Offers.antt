-- What a lane's channels are offered of its notices: one letter after another, each as often as it may be tried and no more.
use Rattle.std.specs.Prelude.{◌≡◌, ℕ, List, ◌++◌, Option}
use Rattle.due_model.specs.declared.config.Config.{Config}
use Rattle.due_model.specs.declared.notice.Notice.{Notice}
use Rattle.channel.specs.claims.Channels.{Offer}
use Rattle.undelivered.specs.Record.{Record}
use Rattle.delivery_worker.specs.declared.Attempted.{Attempted}
use Rattle.delivery_worker.specs.Attempts.{IsOfTries}
use Rattle.delivery_worker.specs.claims.Offers.{offers_for, AreSettling, AreInVain, AreOffers}

-- a channel was offered one letter, and this is the answer
pub record IsTried {C : Type 0} (offered : C → List Offer → C → Type 0) (n : Notice) (text : List ℕ) (tries : ℕ) (answer : Attempted)
    (old new : C)
    : Type 0
  where
    pub failed : ℕ
    pub count : IsOfTries answer failed tries
    pub made : offered old (offers_for n text answer failed) new

-- ---- what a channel becomes by them

-- by letters that were taken
abbrev pub Settles : {C : Type 0} → (offered : C → List Offer → C → Type 0) → (tries : ℕ) → Config → List Notice → (old new : C) → Type 0
Settles offered tries c ns old new = (offers : List Offer) × AreSettling tries c ns offers × offered old offers new

-- by one that wasn't
abbrev pub TriesInVain : {C : Type 0} → (offered : C → List Offer → C → Type 0) → (tries : ℕ) → Config → (hand : Option Notice)
    → (has_failed : Type 0) → (old new : C) → Type 0
TriesInVain offered tries c hand has_failed old new = (offers : List Offer) × AreInVain tries c hand has_failed offers × offered old offers new

-- by both
abbrev pub TakesOffers : {C : Type 0} → (offered : C → List Offer → C → Type 0) → (tries : ℕ) → Config → (taken : List Notice)
    → (hand : Option Notice) → (has_failed : Type 0) → (old new : C) → Type 0
TakesOffers offered tries c taken hand has_failed old new =
    (offers : List Offer) × AreOffers tries c taken hand has_failed offers × offered old offers new

-- by what a lane's record has gained, and what it has in hand
abbrev pub GainsByOffers : {C : Type 0} → (offered : C → List Offer → C → Type 0) → (tries : ℕ) → Config → (before after : Record)
    → (has_failed : Type 0) → (old new : C) → Type 0
GainsByOffers offered tries c before after has_failed old new =
    (gained : List Notice) × (after.taken ≡ before.taken ++ gained)
    × TakesOffers offered tries c gained after.hand has_failed old new
