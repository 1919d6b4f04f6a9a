use Rattle.std.proofs.Common.{rules, ◌≡◌, [], ◌∙◌, List, subst, sym, length, ap}
use Rattle.std.specs.Vec.{with_items}
use Rattle.std.proofs.lemmas.List.{with_items_is}
use Rattle.rtrb.specs.Ring.{SameConsumer}
use Rattle.decider_thread.specs.Made.{made_due}
use Rattle.decider_thread.specs.declared.seats.Seat.{Seat}
use Rattle.decider_thread.specs.Puts.{ArePut, HaveEnded}
use Rattle.decider_thread.proofs.ring.decide_ring.Goals as goal

pub put_ends-requires-clause-puts : goal.put_ends-requires-clause-puts
put_ends-requires-clause-puts g c =
    let h = c.decide_all-log.ensures.heard in
    let long : length c.decide_all-log.new.seats ≡ c.args.seats.len = search rules in
    let same : c.deref_mut-2.result.now ≡ c.decide_all-log.new.seats = c.deref_mut-2.ensures.value ∙ with_items_is c.args.seats c.decide_all-log.new.seats long in (
      (λ l. made_due c.args.setup.config.now c.args.setup.zone.now c.args.setup.share l h.past),
      subst (λ (ss : List Seat). ArePut c.args.setup.share.decider c.args.setup.queues.now ss (λ _. []) (λ l. made_due c.args.setup.config.now c.args.setup.zone.now c.args.setup.share l h.past)) (sym same) h.seats,
    )

pub returns : goal.returns
returns g c =
    let h = c.decide_all-log.ensures.heard in
    let long : length c.decide_all-log.new.seats ≡ c.args.seats.len = search rules in
    let same : c.deref_mut-2.result.now ≡ c.decide_all-log.new.seats = c.deref_mut-2.ensures.value ∙ with_items_is c.args.seats c.decide_all-log.new.seats long in
    let ring : SameConsumer c.args.ring c.decide_all-log.new.ring = search rules in
    let count : length c.put_ends.new.seats ≡ length c.args.setup.queues.now = search rules in
    let last : length c.put_ends.new.seats ≡ c.args.seats.len = search rules in
    let items = with_items_is (with_items c.args.seats c.decide_all-log.new.seats) c.put_ends.new.seats last in (
      h.log.told,
      h.log.are_told,
      record {
        past = h.past;
        all = h.all;
        older = h.older;
        whole = h.whole;
        ring_same = ring;
        heard_all = h.heard_all;
        seats = subst (λ (ss : List Seat). HaveEnded c.args.setup.share.decider c.args.setup.queues.now ss (λ l. made_due c.args.setup.config.now c.args.setup.zone.now c.args.setup.share l h.past)) (sym items)
            (c.put_ends.ensures.ended (λ l. made_due c.args.setup.config.now c.args.setup.zone.now c.args.setup.share l h.past) (subst (λ (ss : List Seat). ArePut c.args.setup.share.decider c.args.setup.queues.now ss (λ _. []) (λ l. made_due c.args.setup.config.now c.args.setup.zone.now c.args.setup.share l h.past)) (sym same) h.seats));
        count = ap length items ∙ count;
        log = h.log.both;
      },
      c.decide_all-log.ensures.all,
    )
