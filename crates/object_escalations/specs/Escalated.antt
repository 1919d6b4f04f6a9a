-- What the escalation blocks speak of, and the limit of that (chapter "Notification Escalations").
use Rattle.std.specs.Prelude.{◌≡◌, ℕ, ◌+◌, ◌<◌, ◌≤◌, List, [], ◌∷◌, ◌++◌, length, sum_by, Some, slice_get}
use Rattle.due_model.specs.claims.Limits.{max_escalations}
use Rattle.object_reader.specs.declared.block.Block.{Block}
use Rattle.object_services.specs.declared.services.LimitFault.{LimitFault}
use Rattle.object_services.specs.declared.services.LimitFault.TheVariants.{TooMany, NoMemory}
use Rattle.object_escalations.specs.claims.Escalated.{AreEscalated, PassesLimit}

-- The place and the line are those of the block that passes the limit.
pub record IsFirstOver (blocks : List Block) (lists : List (List ℕ)) (place line : ℕ) : Type 0 where
  pub block : Block
  pub here : slice_get blocks place ≡ Some block
  pub at : block.line ≡ line
  pub passes : PassesLimit blocks lists place

-- a refusal is that, or memory ran out
abbrev pub IsRefusal : List Block → (lists : List (List ℕ)) → LimitFault → Type 0
IsRefusal blocks lists (TooMany place line) = IsFirstOver blocks lists place line
IsRefusal blocks lists NoMemory = Unit {0}

-- ---- how they are found

-- the objects of which the blocks below the place speak, so many
pub record IsSoFar (blocks : List Block) (lists : List (List ℕ)) (place : ℕ)
    (objects : List (List ℕ)) (count : ℕ) : Type 0 where
  pub listed : AreEscalated blocks lists place objects
  pub counted : count ≡ sum_by length objects

-- the objects of one block more came to the lists, and with them there are so many, within the limit
pub record IsKept (old new : List (List ℕ)) (found : List ℕ) (count total : ℕ) : Type 0 where
  pub are : new ≡ old ++ found ∷ []
  pub sum : total ≡ count + length found
  pub low : total ≤ max_escalations

-- so many are refused with the block of that place and line: they are over the limit, or memory ran out
abbrev pub IsTooMany : (count place line : ℕ) → LimitFault → Type 0
IsTooMany count place line (TooMany at its) =
    (at ≡ place) × (its ≡ line) × (max_escalations < count)
IsTooMany count place line NoMemory = Unit {0}
