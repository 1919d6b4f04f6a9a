-- How the program ends where `clap` gives no command.
use Rattle.std.specs.Prelude.{ℕ}
use Rattle.clap.specs.declared.error.kind.ErrorKind.{ErrorKind}
use Rattle.clap.specs.declared.error.kind.ErrorKind.TheVariants.{DisplayHelp, DisplayVersion, OutOfMemory}

-- the exit status: help or the version was asked for, memory ran out, or the command line is wrong
abbrev pub refusal_status : ErrorKind → ℕ
refusal_status DisplayHelp = 0
refusal_status DisplayVersion = 0
refusal_status OutOfMemory = 4
refusal_status kind = 2
