use Rattle.caller_feeds.proofs.TakenLemmas.{taken-none}
use Rattle.caller_feeds.proofs.intake.Intake.new.Goals as goal

pub returns-clause-taken : goal.returns-clause-taken
returns-clause-taken c = λ unread config. taken-none config c.args.ends.items unread
