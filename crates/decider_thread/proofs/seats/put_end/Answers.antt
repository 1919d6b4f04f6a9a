use Rattle.std.proofs.Common.{rules, sym, subst, ap, ◌∙◌, ◌++◌, ◌∷◌, [], List, append-nil}
use Rattle.due_model.specs.declared.item.Item.{Item}
use Rattle.due_model.specs.declared.item.Item.TheVariants.{End}
use Rattle.channel_queue.specs.declared.Seen.TheVariants.{Decider}
use Rattle.channel_queue.specs.Passes.{IsDecider}
use Rattle.channel_queue.specs.Rule.{IsOpen, put_of}
use Rattle.decider_thread.specs.Puts.{as_items}
use Rattle.decider_thread.proofs.PutLaws.{open_items, put_is}
use Rattle.decider_thread.proofs.seats.put_end.Goals as goal

pub offer-requires-clause-own : goal.offer-requires-clause-own
offer-requires-clause-own g c =
    let puts = c.loop.invariant c.requires.0 c.requires.1 in
    (puts.is.0, puts.is.1 ∙ ap (Decider c.args.decider) (sym (put_is c.args.queue.now c.args.decider (as_items c.args.decider puts.put) c.loop.seat.pass puts.is)))

pub offer-requires-clause-clear : goal.offer-requires-clause-clear
offer-requires-clause-clear g c =
    let puts = c.loop.invariant c.requires.0 c.requires.1 in
    subst IsOpen (sym (put_is c.args.queue.now c.args.decider (as_items c.args.decider puts.put) c.loop.seat.pass puts.is)) (open_items c.args.decider puts.put)

pub returns-then-is_ok : goal.returns-then-is_ok
returns-then-is_ok g c = λ whole was.
    let d = c.args.decider in
    let puts = c.loop.invariant whole was in
    let ok : IsDecider c.args.queue.now d (put_of c.loop.seat.pass ++ End d ∷ []) c.offer.new.pass = search rules in
    subst (λ (items : List Item). IsDecider c.args.queue.now d (items ++ End d ∷ []) c.offer.new.pass)
    (put_is c.args.queue.now d (as_items d puts.put) c.loop.seat.pass puts.is ∙ ap (as_items d) (sym (append-nil puts.put) ∙ puts.rest)) ok
