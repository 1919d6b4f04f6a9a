use Rattle.std.proofs.Common.{◌-◌, ◌<◌, length, arith, deque_items, deque_len, deque_capacity}
use Rattle.std.proofs.lemmas.List.{length-map}
use Rattle.std.proofs.lemmas.Result.{on_ok_weaker}
use Rattle.lemmas.proofs.Writes.{kept_at, map-set_kept, written_at}
use Rattle.decider.proofs.outbox.Outbox.reserve_lane.Goals as goal

pub returns-clause-waiting : goal.returns-clause-waiting
returns-clause-waiting c =
    map-set_kept deque_items c.args.self.now.lanes.items c.args.lane c.index_mut-queue.result.now c.reserve.new.self
    c.index_mut-queue.ensures.value c.reserve.ensures.items

pub returns-clause-room : goal.returns-clause-room
returns-clause-room c = on_ok_weaker c.reserve.result (λ room.
    let within : c.args.lane < length c.args.self.now.lanes.items = simp length-map at c.requires in
    omega (
      arith,
      room,
      c.notices_for-more.ensures,
      written_at (λ lane. deque_capacity lane - deque_len lane) c.args.self.now.lanes.items c.args.lane c.reserve.new.self 0 within,
    )) c.reserve.ensures.ok

pub returns-clause-others : goal.returns-clause-others
returns-clause-others c = λ l other.
    kept_at (λ lane. deque_capacity lane - deque_len lane) c.args.self.now.lanes.items c.args.lane l c.reserve.new.self 0 other
