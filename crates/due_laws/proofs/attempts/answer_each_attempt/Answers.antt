use Rattle.due_laws.proofs.Answered.{each_answered}
use Rattle.due_laws.proofs.attempts.answer_each_attempt.Goals as goal

pub returns : goal.returns
returns x c zone o object e past = each_answered c zone o object e past
