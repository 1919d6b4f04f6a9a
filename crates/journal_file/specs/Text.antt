-- What a journal in a writer is to its callers.
use Rattle.std.specs.Prelude.{◌≡◌, ℕ, ◌⊎◌, Bool, true, false, List, [], ◌∷◌, ◌++◌, Option}
use Rattle.std.specs.Io.KnownBytes.{Appends}
use Rattle.std.specs.List.{AllByRecursion}
use mathlib.Core.List.{IsPrefix}
use Rattle.due_model.specs.declared.config.Config.{Config}
use Rattle.due_model.specs.declared.config.LaneId.{LaneId}
use Rattle.journal_text.specs.declared.entry.Entry.{Entry}
use Rattle.journal_text.specs.Cuts.{IsEntryBack}
use Rattle.journal_text.specs.Entries.{body}
use Rattle.journal_text.specs.Lines.{text}

pub record Text (W : Type 0) : Type 0 where
  pub config : Config
  pub lane : LaneId
  pub writer : W
  pub is_broken : Bool

-- a front of the line of an entry, which would be read as that
abbrev pub IsPiece : Config → LaneId → List ℕ → Type 0
IsPiece c lane piece = (e : Entry) × IsEntryBack c lane e × IsPrefix piece (body c e ++ 10 ∷ [])

-- What it becomes by these entries: their lines were written, and where it broke a piece of another's. Once it is broken nothing is
-- written.
pub record Wrote {W : Type 0} (contents : W → Option (List ℕ)) (a : Text W) (entries : List Entry) (b : Text W) : Type 0 where
  pub config : b.config ≡ a.config
  pub lane : b.lane ≡ a.lane
  pub each : AllByRecursion (IsEntryBack a.config a.lane) entries
  pub piece : List ℕ
  pub bytes : Appends (contents a.writer) (contents b.writer) (text (body a.config) entries ++ piece)
  pub is_piece : (piece ≡ []) ⊎ IsPiece a.config a.lane piece
  pub whole : b.is_broken ≡ false → piece ≡ []
  pub silent : a.is_broken ≡ true → (entries ≡ []) × (piece ≡ []) × (b.is_broken ≡ true)
