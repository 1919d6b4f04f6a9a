-- The ranges of a world's settings.
use Rattle.std.specs.Prelude.{ℕ}
use Rattle.steps.specs.declared.settings.TheConstants.{MAX_CHANNELS}

-- how many channels a lane may have
abbrev pub max_channels : ℕ
max_channels = MAX_CHANNELS
