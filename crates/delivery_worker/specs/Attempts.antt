-- What tries that failed leave, and how a lane's record stands after a notice was handed to its channel.
use Rattle.std.specs.Prelude.{◌≡◌, ◌↔◌, ℕ, ◌+◌, ◌-◌, ◌<◌, ◌≤◌, ◌⊎◌, [], ◌∷◌, ◌++◌}
use Rattle.std.specs.Prelude.{Some, length}
use Rattle.due_model.specs.declared.config.Config.{Config}
use Rattle.due_model.specs.declared.notice.Notice.{Notice}
use Rattle.channel.specs.claims.Letter.{letter_of}
use Rattle.undelivered.specs.Record.{Record}
use Rattle.undelivered.specs.declared.Why.{Why}
use Rattle.undelivered.specs.declared.Why.TheVariants.{NoMemory}
use Rattle.delivery_worker.specs.declared.Attempted.{Attempted}
use Rattle.delivery_worker.specs.declared.Attempted.TheVariants.{Settled, Asked, Failed}
use Rattle.delivery_worker.specs.claims.Attempts.{RisesBy, TriesFailed}

-- The bell said that the lane is to close where that is the answer, once, and else it didn't.
abbrev pub HasRung : (asked : Type 0) → (old new : ℕ) → Type 0
HasRung asked old new = (asked ↔ (old < new)) × (new ≤ old + 1) × (¬ asked → new ≡ old)

-- how often the bell is asked where so many tries failed: before each of them, and before what comes of the next
abbrev pub asks_for : Attempted → (failed : ℕ) → ℕ
asks_for Settled failed = failed + 1
asks_for Asked failed = failed + 1
asks_for Failed failed = failed

-- how many of the tries failed: all of them, or fewer
abbrev pub IsOfTries : Attempted → (failed tries : ℕ) → Type 0
IsOfTries Settled failed tries = failed < tries
IsOfTries Asked failed tries = failed < tries
IsOfTries Failed failed tries = failed ≡ tries

-- So many tries failed, and before each, and before what came of the next, the bell was asked.
pub record HasTriedAndAsked (answer : Attempted) (tries limit size old new asks_old asks_new : ℕ)
    : Type 0
  where
    pub failed : ℕ
    pub count : IsOfTries answer failed tries
    pub tried : TriesFailed failed limit size old new
    pub asked : RisesBy (asks_for answer failed) asks_old asks_new

-- the same of the letter of a notice
abbrev pub HasTriedLetter : Attempted → (tries : ℕ) → Config → Notice → (limit old new asks_old asks_new : ℕ) → Type 0
HasTriedLetter answer tries c n limit old new asks_old asks_new =
    HasTriedAndAsked answer tries limit (length (letter_of c n)) old new asks_old asks_new

-- the record once its channel has taken a notice
abbrev pub with_taken : Notice → Record → Record
with_taken n lane = record lane { taken = lane.taken ++ n ∷ [] }

-- the record while a notice is in hand
abbrev pub with_hand : Notice → Record → Record
with_hand n lane = record lane { hand = Some n }

-- Where its channel hasn't taken a notice, that is in hand; or memory ran out before it was, and the record is as before.
abbrev pub KeepsInHand : Why → Notice → (old new : Record) → Type 0
KeepsInHand why n old new =
    (new ≡ with_hand n old) ⊎ ((new ≡ old) × (why ≡ NoMemory))
