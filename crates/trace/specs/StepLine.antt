-- How the steps of a trace are spelled.
use Rattle.std.specs.Prelude.{◌≡◌, ℕ, ◌<◌, true, not, ◌==◌, List, ◌∷◌, ◌++◌, length, codes}
use Rattle.std.specs.Char.{is_ascii_digit}
use Rattle.std.specs.List.{list_all}
use Rattle.due_model.specs.declared.config.Config.{Config}
use Rattle.due_model.specs.declared.config.LaneId.{LaneId}
use Rattle.event_feed.specs.claims.Line.{digits_number}
use Rattle.steps.specs.declared.step.Step.{Step}
use Rattle.steps.specs.declared.step.Step.TheVariants.{Post, Decide, Put, Lane}
use Rattle.steps.specs.declared.step.LaneStep.{LaneStep}
use Rattle.steps.specs.declared.step.LaneStep.TheVariants.{Pick, Settle, Fail, Ask, Replace, Close, Drain}
use Rattle.trace.specs.declared.step_line.StepLine.{StepLine}
use Rattle.trace.specs.declared.step_line.StepLine.TheVariants.{PostNext, Do}
use Rattle.notice_text.specs.claims.Texts.{lane_text}

-- a decider, by decimal digits that write its number; leading zeros are allowed
pub record IsDecider (deciders : ℕ) (d : ℕ) (text : List ℕ) : Type 0 where
  pub some : 0 < length text
  pub digits : list_all is_ascii_digit text ≡ true
  pub number : d ≡ digits_number text
  pub there : d < deciders

-- a lane, by its name
pub record NamesLane (c : Config) (lane : LaneId) (text : List ℕ) : Type 0 where
  pub there : lane.0 < length c.lanes
  pub name : lane_text c lane.0 ≡ text

-- the text begins with a word that has no blank in it, and a blank
pub record BeginsWithWord (text word rest : List ℕ) : Type 0 where
  pub whole : text ≡ word ++ 32 ∷ rest
  pub unbroken : list_all (λ byte. not (byte == 32)) word ≡ true

-- a word and a blank, and a lane
abbrev pub SpellsLane : Config → (word : List ℕ) → LaneId → List ℕ → Type 0
SpellsLane c word lane text = (name : List ℕ) × (text ≡ word ++ name) × NamesLane c lane name

-- decide D
abbrev pub SpellsDecide : (deciders d : ℕ) → List ℕ → Type 0
SpellsDecide deciders d text =
    (digits : List ℕ) × (text ≡ codes "decide " ++ digits) × IsDecider deciders d digits

-- put D LANE
abbrev pub SpellsPut : Config → (deciders d : ℕ) → LaneId → List ℕ → Type 0
SpellsPut c deciders d lane text =
    (digits : List ℕ) × (name : List ℕ) × (text ≡ codes "put " ++ digits ++ 32 ∷ name)
    × IsDecider deciders d digits × NamesLane c lane name

-- the word of each step of a lane, and a blank
abbrev pub word_of : LaneStep → List ℕ
word_of Pick = codes "pick "
word_of Settle = codes "settle "
word_of Fail = codes "fail "
word_of Ask = codes "ask "
word_of Replace = codes "replace "
word_of Close = codes "close "
word_of Drain = codes "drain "

-- how each step of a run with so many deciders is spelled; a post isn't spelled by its event
abbrev pub SpellsStep : Config → (deciders : ℕ) → Step → List ℕ → Type 0
SpellsStep c deciders (Post event) text = ⊥
SpellsStep c deciders (Decide d) text = SpellsDecide deciders d text
SpellsStep c deciders (Put d lane) text = SpellsPut c deciders d lane text
SpellsStep c deciders (Lane lane step) text = SpellsLane c (word_of step) lane text

-- how what a step line says is spelled
abbrev pub Spells : Config → (deciders : ℕ) → StepLine → List ℕ → Type 0
Spells c deciders PostNext text = text ≡ codes "post"
Spells c deciders (Do step) text = SpellsStep c deciders step text
