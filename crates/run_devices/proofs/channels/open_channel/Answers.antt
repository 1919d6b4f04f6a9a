use Rattle.std.proofs.Common.{rules}
use Rattle.run_devices.proofs.channels.open_channel.Goals as goal

pub returns-in-Some-clause-opened : goal.returns-in-Some-clause-opened
returns-in-Some-clause-opened c = search rules
