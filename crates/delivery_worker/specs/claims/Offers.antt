-- What a lane's channels are offered of its notices: one letter after another, each as often as it may be tried and no more.
use Rattle.std.specs.Prelude.{◌≡◌, ℕ, ◌<◌, ◌≤◌, Bool, true, false, List, [], ◌∷◌, ◌++◌, Option, Some, None, replicate}
use Rattle.due_model.specs.declared.config.Config.{Config}
use Rattle.due_model.specs.declared.notice.Notice.{Notice}
use Rattle.channel.specs.claims.Channels.{Offer}
use Rattle.channel.specs.claims.Letter.{letter_of}
use Rattle.delivery_worker.specs.declared.Attempted.{Attempted}
use Rattle.delivery_worker.specs.declared.Attempted.TheVariants.{Settled, Asked, Failed}

-- ---- one letter

-- a letter that is offered, and whether it is taken
abbrev pub offer : Notice → (text : List ℕ) → (is_taken : Bool) → Offer
offer n text is_taken = record { notice = n; text = text; is_taken = is_taken }

-- so many offers that failed, and then one that was taken, where that is the answer
abbrev pub offers_for : Notice → (text : List ℕ) → Attempted → (failed : ℕ) → List Offer
offers_for n text Settled failed = replicate failed (offer n text false) ++ offer n text true ∷ []
offers_for n text Asked failed = replicate failed (offer n text false)
offers_for n text Failed failed = replicate failed (offer n text false)

-- ---- letters one after another

-- These notices' letters, one after another: of each fewer tries failed than it has, and then it was taken.
abbrev pub AreSettling : (tries : ℕ) → Config → List Notice → List Offer → Type 0
AreSettling tries c [] offers = offers ≡ []
AreSettling tries c (n ∷ ns) offers =
    (failed : ℕ) × (rest : List Offer) × (failed < tries)
    × (offers ≡ offers_for n (letter_of c n) Settled failed ++ rest) × AreSettling tries c ns rest

-- the letter in hand, if one is, that failed so often
abbrev pub in_vain : Config → (hand : Option Notice) → (failed : ℕ) → List Offer
in_vain c None failed = []
in_vain c (Some n) failed = replicate failed (offer n (letter_of c n) false)

-- The letter in hand, if one is, wasn't taken: it was tried no more often than it may be, and as often as that where it failed.
pub record AreInVain (tries : ℕ) (c : Config) (hand : Option Notice) (has_failed : Type 0) (offers : List Offer) : Type 0 where
  pub count : ℕ
  pub whole : offers ≡ in_vain c hand count
  pub most : count ≤ tries
  pub all : has_failed → count ≡ tries

-- The letters that were taken, and then the one in hand that wasn't.
pub record AreOffers (tries : ℕ) (c : Config) (taken : List Notice) (hand : Option Notice) (has_failed : Type 0) (offers : List Offer)
    : Type 0
  where
    pub settled : List Offer
    pub last : List Offer
    pub whole : offers ≡ settled ++ last
    pub taken_in : AreSettling tries c taken settled
    pub left : AreInVain tries c hand has_failed last
