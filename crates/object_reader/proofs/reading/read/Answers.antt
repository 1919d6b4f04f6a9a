use Rattle.object_reader.proofs.Grammar.{answered_blocks, answered_fault, written_answered, refusal_answered}
use Rattle.object_reader.proofs.Texts.{answered_plain}
use Rattle.object_reader.proofs.reading.read.Goals as goal

pub returns-clause-blocks : goal.returns-clause-blocks
returns-clause-blocks c = answered_blocks c.args.bytes.now _ c.read_text.ensures

pub returns-clause-only : goal.returns-clause-only
returns-clause-only c = λ blocks is. written_answered c.args.bytes.now blocks _ c.read_text.ensures is

pub returns-clause-fault : goal.returns-clause-fault
returns-clause-fault c = answered_fault c.args.bytes.now _ c.read_text.ensures

pub returns-clause-refused : goal.returns-clause-refused
returns-clause-refused c = λ fault is. refusal_answered c.args.bytes.now fault _ c.read_text.ensures is

pub returns-clause-texts : goal.returns-clause-texts
returns-clause-texts c = answered_plain c.args.bytes.now _ c.read_text.ensures
