-- Laws of escalations, of any blocks.
use Rattle.std.specs.Prelude.{◌≡◌, ℕ, ◌+◌, ◌<◌, ◌≤◌, List, length, sum_by, All}
use Rattle.due_model.specs.claims.Limits.{max_escalations}
use Rattle.due_model.specs.declared.config.Escalation.{Escalation}
use Rattle.due_model.specs.declared.config.Object.{Object}
use Rattle.object_escalations.specs.claims.Entries.{AreEntriesOf}
use Rattle.object_escalations.specs.claims.Escalated.{AreEscalated, GiveEscalations, PassesLimit}
use Rattle.object_groups.specs.claims.Objects.{objects_in}
use Rattle.object_reader.specs.declared.block.Block.{Block}
use Rattle.object_reader.specs.declared.block.BlockKind.TheVariants.{Host}

-- What escalation blocks speak of are hosts and services, where these are the hosts of each service block.
abbrev pub EscalatedAreObjects : Type 0
EscalatedAreObjects =
    (blocks : List Block) (lists : List (List ℕ)) (place : ℕ) (spoken : List (List ℕ))
    → AreEscalated blocks lists place spoken
    → All (All (λ number. number < length (objects_in blocks Host) + sum_by length lists)) spoken

-- Blocks give one escalation for each object of which one speaks.
abbrev pub OneForEach : Type 0
OneForEach = (blocks : List Block) (objects : List Object) (spoken : List (List ℕ))
    (escalations : List Escalation)
    → AreEntriesOf blocks objects spoken escalations → length escalations ≡ sum_by length spoken

-- The blocks pass the limit at one place at most.
abbrev pub OnePlacePasses : Type 0
OnePlacePasses = (blocks : List Block) (lists : List (List ℕ)) (one other : ℕ)
    → PassesLimit blocks lists one → PassesLimit blocks lists other → one ≡ other

-- Blocks that keep within the limit pass it nowhere.
abbrev pub WithinPassesNowhere : Type 0
WithinPassesNowhere = (blocks : List Block) (lists : List (List ℕ)) (count place : ℕ)
    → GiveEscalations blocks lists (length blocks) count → count ≤ max_escalations
    → PassesLimit blocks lists place → ⊥

-- What the blocks below a place give is the number of what they speak of: the same, however often it is counted.
abbrev pub CountIsTheSum : Type 0
CountIsTheSum =
    (blocks : List Block) (lists : List (List ℕ)) (place count : ℕ) (spoken : List (List ℕ))
    → GiveEscalations blocks lists place count → AreEscalated blocks lists place spoken
    → count ≡ sum_by length spoken
