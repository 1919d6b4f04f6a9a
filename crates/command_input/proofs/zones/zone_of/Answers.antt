use Rattle.std.proofs.Common.{rules}
use Rattle.command_input.proofs.zones.zone_of.Goals as goal

pub returns-in-Err : goal.returns-in-Err
returns-in-Err c = search rules
