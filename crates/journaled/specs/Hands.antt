-- What a channel with a journal hands on of what it is offered, and what it writes down.
use Rattle.std.specs.Prelude.{◌≡◌, ℕ, ◌≤◌, ◌⊎◌, Bool, true, false, List, [], ◌∷◌, ◌++◌, All, Contains, Option, None, Some, flat_map, length, map, if◌then◌else◌}
use Rattle.due_model.specs.declared.notice.Notice.{Notice}
use Rattle.channel.specs.claims.Channels.{Account, Offer}
use Rattle.channel.specs.Channels.{WasOffered}
use Rattle.channel.specs.Letter.{again_of}
use Rattle.journal_text.specs.declared.entry.Entry.{Entry}
use Rattle.journal_text.specs.declared.entry.Entry.TheVariants.{Begun, GivenUp, Taken}
use Rattle.journaled.specs.Claims.{IsHeld, Past, is_settled}

-- ---- of one letter

-- a letter that was offered, what was offered to the inner channel for it, and what was written down
pub record Part : Type 0 where
  pub outer : Offer
  pub inner : List Offer
  pub entries : List Entry

-- The text that is handed on: where the letter was about to be handed over in an earlier run it says so, unless it is too long then; no
-- other does.
pub record IsTextFor (past : Past) (limit : ℕ) (outer : Offer) (text : List ℕ) : Type 0 where
  pub again : Contains past.begun outer.notice → length (again_of outer.text) ≤ limit → text ≡ again_of outer.text
  pub first : (Contains past.begun outer.notice → ⊥) → text ≡ outer.text
  pub same : (text ≡ outer.text) ⊎ (text ≡ again_of outer.text)

-- what is written down of a letter that was handed on: that it is about to be, and then that it was taken, unless that couldn't be
-- written
abbrev pub IsWritten : Notice → (is_taken : Bool) → List Entry → Type 0
IsWritten n true entries = (entries ≡ Begun n ∷ Taken n ∷ []) ⊎ (entries ≡ Begun n ∷ [])
IsWritten n false entries = entries ≡ Begun n ∷ []

-- A letter was handed on, once, and is taken where the inner channel took it.
pub record IsHandedOn (past : Past) (limit : ℕ) (p : Part) : Type 0 where
  pub text : List ℕ
  pub is_text : IsTextFor past limit p.outer text
  pub inner : p.inner ≡ record { notice = p.outer.notice; text = text; is_taken = p.outer.is_taken } ∷ []
  pub entries : IsWritten p.outer.notice p.outer.is_taken p.entries

-- nothing was handed on, and nothing was written
pub record IsHeldBack (p : Part) : Type 0 where
  pub inner : p.inner ≡ []
  pub entries : p.entries ≡ []

-- What is settled is never handed on, and is taken only where it is held. What is new is handed on, or isn't taken.
pub record IsPart (past : Past) (limit : ℕ) (p : Part) : Type 0 where
  pub settled : is_settled past p.outer.notice ≡ true
      → IsHeldBack p × (p.outer.is_taken ≡ true → IsHeld past p.outer.notice)
  pub new : is_settled past p.outer.notice ≡ false
      → IsHandedOn past limit p ⊎ (IsHeldBack p × (p.outer.is_taken ≡ false))

-- ---- of several

-- the notice of an offer that was taken
abbrev pub taken_by : Offer → List Notice
taken_by o = if o.is_taken then o.notice ∷ [] else []

abbrev pub taken_of : List Offer → List Notice
taken_of offers = flat_map taken_by offers

-- the notice of an entry that says that its letter was taken
abbrev pub told_by : Entry → List Notice
told_by (Begun n) = []
told_by (Taken n) = n ∷ []
told_by (GivenUp n) = []

abbrev pub told_of : List Entry → List Notice
told_of entries = flat_map told_by entries

-- the notice that an entry says is about to be handed over
abbrev pub begun_by : Entry → Option Notice
begun_by (Begun n) = Some n
begun_by (Taken n) = None
begun_by (GivenUp n) = None

-- the same of the last of the entries
abbrev pub last_begun : List Entry → Option Notice
last_begun [] = None
last_begun (e ∷ []) = begun_by e
last_begun (e ∷ next ∷ entries) = last_begun (next ∷ entries)

-- What entries that were written tell of what was taken: all of it, in order; but where the journal broke, it may lack the last, of which
-- it then says that it was about to be handed over. Once it is broken nothing is written and nothing is taken.
pub record Tells (was is : Bool) (entries : List Entry) (taken : List Notice) : Type 0 where
  pub doubt : List Notice
  pub front : taken ≡ told_of entries ++ doubt
  pub one : length doubt ≤ 1
  pub begun : All (λ n. last_begun entries ≡ Some n) doubt
  pub whole : is ≡ false → doubt ≡ []
  pub silent : was ≡ true → (entries ≡ []) × (taken ≡ []) × (is ≡ true)

-- What became of some offers, in order: what was handed on of them, and what was written down.
pub record Hands (past : Past) (limit : ℕ) (was is : Bool) (offers inner : List Offer) (entries : List Entry) : Type 0 where
  pub parts : List Part
  pub each : All (IsPart past limit) parts
  pub outer_are : offers ≡ map (λ p. p.outer) parts
  pub inner_are : inner ≡ flat_map (λ p. p.inner) parts
  pub entries_are : entries ≡ flat_map (λ p. p.entries) parts
  pub tells : Tells was is entries (taken_of inner)
