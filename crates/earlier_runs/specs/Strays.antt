-- Journals that are of none of the commands.
use Rattle.std.specs.Prelude.{◌≡◌, ℕ, ◌-◌, ◌<◌, ◌==◌, ◌&&◌, All, Bool, Contains, true, false, nat_le, nat_lt, List, length, min, slice_index, Option, None, Some}
use Rattle.due_model.specs.declared.config.Config.{Config}
use Rattle.journal_folder.specs.FileName.{file_name}
use Rattle.notice_text.specs.claims.Texts.{lane_text}

-- it ends with a point and the number of a channel
abbrev pub is_journal_name : (name : List ℕ) → Bool
is_journal_name name =
    nat_le 2 (length name) && (slice_index name (length name - 2) == 46)
    && nat_le 48 (slice_index name (length name - 1)) && nat_lt (slice_index name (length name - 1)) 56

-- it is that of one of this command's journals
abbrev pub IsNameOf : (lane : List ℕ) → (name : List ℕ) → Type 0
IsNameOf lane name = (number : ℕ) × (number < 8) × (file_name lane number ≡ name)

-- it is a journal's, and of none of the commands
pub record IsStray (c : Config) (name : List ℕ) : Type 0 where
  pub is_name : is_journal_name name ≡ true
  pub of_none : (l : ℕ) → l < min (length c.lanes) 256 → IsNameOf (lane_text c l) name → ⊥

-- One of these names is told that is a stray's, where none is to be set aside; or else none is, or all that are were set aside.
abbrev pub TellsStray : (put_aside : List ℕ → Type 0) → Config → (sets_aside : Bool) → (names : List (List ℕ)) → Option (List ℕ) → Type 0
TellsStray put_aside c sets_aside names None = All (λ name. IsStray c name → (sets_aside ≡ true) × put_aside name) names
TellsStray put_aside c sets_aside names (Some name) = (sets_aside ≡ false) × Contains names name × IsStray c name
