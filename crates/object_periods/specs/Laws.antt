-- Laws of the periods that are made of blocks, of any blocks: what an accepted configuration asks of periods.
use Rattle.std.specs.Prelude.{List, All}
use Rattle.due_model.specs.claims.Accepted.{Excludes, HasNoLoop, PeriodFits}
use Rattle.due_model.specs.declared.config.Config.{Config}
use Rattle.object_periods.specs.Loops.{HasNoPeriodLoop}
use Rattle.object_periods.specs.claims.Periods.{ArePeriodsOf}
use Rattle.object_reader.specs.declared.block.Block.{Block}

-- A period has seven days, its ranges lie within a day, and those that it excludes are there.
abbrev pub PeriodsFit : Type 0
PeriodsFit = (blocks : List Block) (c : Config)
    → ArePeriodsOf blocks c.periods → All (PeriodFits c) c.periods

-- Where no block lies on a loop of exclusions, no chain of exclusions of the configuration comes back.
abbrev pub NoLoopIsLeft : Type 0
NoLoopIsLeft = (blocks : List Block) (c : Config)
    → ArePeriodsOf blocks c.periods → HasNoPeriodLoop blocks → HasNoLoop (Excludes c)
