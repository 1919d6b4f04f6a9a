use Rattle.std.proofs.Common.{rules, sym, subst}
use Rattle.channel_queue.specs.Rule.{IsOpen}
use Rattle.decider_thread.specs.Puts.{as_items}
use Rattle.decider_thread.proofs.PutLaws.{open_items, put_is, puts_front}
use Rattle.decider_thread.proofs.seats.put_front.Goals as goal

pub offer-requires-clause-clear : goal.offer-requires-clause-clear
offer-requires-clause-clear g c =
    let puts = c.requires.puts.1 in
    subst IsOpen (sym (put_is c.args.queue.now c.args.decider (as_items c.args.decider puts.put) c.args.seat.now.pass puts.is)) (open_items c.args.decider puts.put)

pub returns-clause-puts : goal.returns-clause-puts
returns-clause-puts g c = λ whole puts. puts_front c.args.queue.now c.args.decider c.in-Some.notice _ _ whole _ _ (search rules) (search rules) (search rules) puts
