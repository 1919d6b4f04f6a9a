-- What the escalation blocks speak of, and the limit of that (chapter "Notification Escalations").
use Rattle.std.specs.Prelude.{◌≡◌, ℕ, ◌+◌, ◌<◌, ◌≤◌, List, length, sum_by}
use Rattle.std.specs.List.{AllZip, range_with_len}
use Rattle.due_model.specs.claims.Limits.{max_escalations}
use Rattle.object_listing.specs.claims.Listing.{AreThose}
use Rattle.object_reached.specs.declared.roles.Role.TheVariants.{Escalated}
use Rattle.object_reached.specs.claims.Reached as reached
use Rattle.object_reader.specs.declared.block.Block.{Block}

-- The registered block at the place is an escalation, and speaks of the object; where these are the hosts of each
-- service block.
abbrev pub SpeaksOf : List Block → (lists : List (List ℕ)) → (place object : ℕ) → Type 0
SpeaksOf blocks lists place object = reached.SpeaksOf blocks lists Escalated place object

-- these are the objects of which the blocks below the place speak, each once and in number order, block by block;
-- other blocks than escalations speak of none
abbrev pub AreEscalated : List Block → (lists : List (List ℕ)) → (place : ℕ)
    → (objects : List (List ℕ)) → Type 0
AreEscalated blocks lists place objects =
    AllZip (λ at found. AreThose (SpeaksOf blocks lists at) found) (range_with_len 0 place) objects

-- The blocks below a place give so many escalations: each block one for each object that it speaks of.
abbrev pub GiveEscalations : List Block → (lists : List (List ℕ)) → (place count : ℕ) → Type 0
GiveEscalations blocks lists place count = (objects : List (List ℕ))
    × AreEscalated blocks lists place objects × (count ≡ sum_by length objects)

-- The blocks pass the limit at the place: with the block there they give more escalations than fit, and without
-- it they don't.
pub record PassesLimit (blocks : List Block) (lists : List (List ℕ)) (place : ℕ) : Type 0 where
  pub within : place < length blocks
  pub before : (count : ℕ) × GiveEscalations blocks lists place count × (count ≤ max_escalations)
  pub over : (count : ℕ) × GiveEscalations blocks lists (place + 1) count
      × (max_escalations < count)
