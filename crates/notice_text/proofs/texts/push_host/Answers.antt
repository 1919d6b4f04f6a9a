use Rattle.std.proofs.Common.{arith}
use Rattle.std.proofs.lemmas.Grind.{common_steps}
use Rattle.notice_text.proofs.texts.push_host.Goals as goal

pub returns-clause-host : goal.returns-clause-host
returns-clause-host c = grind (arith, common_steps)
