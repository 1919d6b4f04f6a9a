use Rattle.std.proofs.Common.{length}
use Rattle.run_records.proofs.rotated_file.OpenedFile.append.Given as goal

abbrev pub decreases-loop-rest : goal.decreases-loop-rest
decreases-loop-rest l = length l.rest
