-- The entries of an event, in order: by object, then contact, then lane.
use Rattle.std.specs.Prelude.{◌≡◌, ℕ, Bool, true, false, ◌==◌, List, [], ◌∷◌, ◌++◌, filter, flat_map}
use Rattle.due_model.specs.declared.notice.Notice.{Notice}
use Rattle.due_model.specs.declared.notice.Suppression.{Suppression}
use Rattle.due_model.specs.claims.Due.{suppressions}
use Rattle.messages.specs.declared.entries.Entry.{Entry}
use Rattle.messages.specs.declared.entries.Entry.TheVariants.{Sent, Withheld}

-- the new entries are the old ones and more after them
abbrev pub HasMore : (old new : List Entry) → Type 0
HasMore old new = (more : List Entry) × (new ≡ old ++ more)

-- ---- the notices and the suppressions among entries

abbrev pub notice_in : Entry → List Notice
notice_in (Sent n) = n ∷ []
notice_in (Withheld s) = []

abbrev pub suppression_in : Entry → List Suppression
suppression_in (Sent n) = []
suppression_in (Withheld s) = s ∷ []

abbrev pub notices_in : List Entry → List Notice
notices_in entries = flat_map notice_in entries

abbrev pub suppressions_in : List Entry → List Suppression
suppressions_in entries = flat_map suppression_in entries

-- whether a notice is for lane l
abbrev pub is_on : ℕ → Notice → Bool
is_on l n = n.lane.0 == l

-- the notices for lane l among entries
abbrev pub notices_on : ℕ → List Entry → List Notice
notices_on l entries = filter (is_on l) (notices_in entries)

-- whether an entry is a notice for lane l
abbrev pub is_for : ℕ → Entry → Bool
is_for l (Sent n) = is_on l n
is_for l (Withheld s) = false

-- whether an entry is a suppression
abbrev pub is_withheld : Entry → Bool
is_withheld (Sent n) = false
is_withheld (Withheld s) = true
