use Rattle.std.proofs.Common.{rules}
use Rattle.due_model.proofs.notice.Kind.letter.Goals as goal

pub returns-in-FlappingStart : goal.returns-in-FlappingStart
returns-in-FlappingStart c = search rules
