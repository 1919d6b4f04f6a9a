-- The escalations that blocks give (chapters "Notification Escalations" and "Object Definitions").
use Rattle.std.specs.Prelude.{◌≡◌, ℕ, ◌<◌, Bool, List, [], ◌++◌, length, slice_index_or}
use Rattle.std.specs.List.{AllZip}
use Rattle.due_model.specs.declared.config.Escalation.{Escalation}
use Rattle.due_model.specs.declared.config.Object.{Object}
use Rattle.object_listing.specs.Contacts.{IsAsked}
use Rattle.object_reader.specs.declared.block.Block.{Block}
use Rattle.object_escalations.specs.claims.Entries.{Origin, ComesFrom}

-- ---- how they are made

-- the contacts of each block that speaks of an object are asked for, where these are the objects of which each speaks
abbrev pub AskForAll : (spoken : List (List ℕ)) → (asked : List Bool) → Type 0
AskForAll spoken asked =
    (place : ℕ) → 0 < length (slice_index_or spoken place []) → IsAsked asked place

-- the escalations that come from there came
pub record AddsEntries (blocks : List Block) (objects : List Object) (origins : List Origin)
    (old new : List Escalation) : Type 0 where
  pub added : List Escalation
  pub are : new ≡ old ++ added
  pub all : AllZip (ComesFrom blocks objects) origins added
