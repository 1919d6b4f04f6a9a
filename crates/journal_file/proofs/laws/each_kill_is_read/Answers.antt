use Rattle.journal_file.proofs.KillLaws.{each_kill}
use Rattle.journal_file.proofs.laws.each_kill_is_read.Goals as goal

pub returns : goal.returns
returns c = each_kill c.each_cut_is_read.ensures.cut
