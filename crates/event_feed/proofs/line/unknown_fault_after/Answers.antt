use Rattle.event_feed.proofs.WordLemmas.{alone-fault, alone-unless, ack-fault-by}
use Rattle.event_feed.proofs.line.unknown_fault_after.Goals as goal

pub returns-in-Acks : goal.returns-in-Acks
returns-in-Acks c = λ word. ack-fault-by c.args.words word c.args.more.now c.is_word.result c.fault_by.result c.in-Acks.is c.is_word.ensures c.fault_by.ensures

pub returns-in_default : goal.returns-in_default
returns-in_default c = λ word. alone-fault c.args.words word c.args.more.now (alone-unless c.args.words c.in_default.not-Acks)
