use Rattle.std.proofs.Common.{length, ◌≤◌, arith}
use Rattle.object_reader.proofs.DayLines.{day_front_le}
use Rattle.object_reader.proofs.reading.directive.Goals as goal

pub day_line-requires : goal.day_line-requires
day_line-requires c = rw (c.day_front-front.ensures, c.all.ensures) (day_front_le _)
