use Rattle.std.proofs.Common.{arith, ◌++◌, OnOk, subst, sym}
use Rattle.written.specs.claims.Written.{Leaves, WritesFront}
use Rattle.written.specs.WrittenLaws.{front_none}
use Rattle.run_command.specs.claims.Report.{channels_text}
use Rattle.run_command.proofs.ReportLaws.{channels_several}
use Rattle.run_command.proofs.lanes.write_channels.Goals as goal

pub returns-else-channels-gt1-clause-front : goal.returns-else-channels-gt1-clause-front
returns-else-channels-gt1-clause-front g c = front_none (g.W.Write.contents c.args.writer.now) (c.args.lines.now ++ channels_text c.args.config.now c.args.lane.now)
