use Rattle.std.proofs.Common.{◌≡◌, ◌+◌, ◌-◌, ◌<◌, ◌++◌, [], ◌∷◌, length, map, get_or, set, sym, ap, ◌∙◌, arith, deque_items, deque_len, deque_capacity}
use Rattle.std.proofs.lemmas.List.{length-map}
use Rattle.messages.specs.declared.entries.Entry.{Entry}
use Rattle.messages.specs.Entries.{notices_on}
use Rattle.decider.specs.claims.Outbox.{waiting_at, lists}
use Rattle.decider.specs.Outbox.{count_for}
use Rattle.lemmas.proofs.Writes.{at_longer, map-set_by}
use Rattle.decider.proofs.OutboxLaws.{has_place, one_less}
use Rattle.decider.proofs.outbox.Outbox.deliver_one.Goals as goal

pub push_back_reserved-requires : goal.push_back_reserved-requires
push_back_reserved-requires c =
    let xs = c.args.self.now.lanes.items in
    let lane = c.in-Sent.notice.lane.0 in
    let there : lane < length (lists c.args.self.now) = omega (arith, c.if-lane-len.true, c.len.ensures) in
    let within : lane < length xs = simp length-map at there in
    let place = has_place (λ q. deque_capacity q - deque_len q) xs c.index_mut-queue.result.now c.in-Sent.notice c.args.entry.now c.in-Sent.is within c.index_mut-queue.ensures.value (c.requires lane there) in
    omega (arith, place)

pub returns-then-lane-len-clause-spare : goal.returns-then-lane-len-clause-spare
returns-then-lane-len-clause-spare c = λ l h.
    let xs = c.args.self.now.lanes.items in
    let lane = c.in-Sent.notice.lane.0 in
    let there : lane < length (lists c.args.self.now) = omega (arith, c.if-lane-len.true, c.len.ensures) in
    let within : lane < length xs = simp length-map at there in
    let x = c.index_mut-queue.result.now in
    let y = c.push_back_reserved.new.self in
    let place = has_place (λ q. deque_capacity q - deque_len q) xs x c.in-Sent.notice c.args.entry.now c.in-Sent.is within c.index_mut-queue.ensures.value (c.requires lane there) in
    let less : deque_capacity x - deque_len x ≡ 1 + (deque_capacity y - deque_len y) = omega (arith, place, c.push_back_reserved.ensures.len, c.push_back_reserved.ensures.capacity) in
    one_less (λ q. deque_capacity q - deque_len q) xs l x y c.in-Sent.notice within c.index_mut-queue.ensures.value less
    ∙ ap (λ (e : Entry). count_for l (e ∷ []) + get_or (map (λ q. deque_capacity q - deque_len q) (set xs lane y)) l 0) (sym c.in-Sent.is)

pub returns-then-lane-len-clause-waiting : goal.returns-then-lane-len-clause-waiting
returns-then-lane-len-clause-waiting c = λ l h.
    let lane = c.in-Sent.notice.lane.0 in
    let xs = c.args.self.now.lanes.items in
    let there : lane < length (lists c.args.self.now) = omega (arith, c.if-lane-len.true, c.len.ensures) in
    let within : lane < length xs = simp length-map at there in
    ap (λ lists. get_or lists l []) (map-set_by deque_items xs lane c.index_mut-queue.result.now c.push_back_reserved.new.self [] (λ held. held ++ c.in-Sent.notice ∷ []) within
    c.index_mut-queue.ensures.value c.push_back_reserved.ensures.items)
    ∙ at_longer (map deque_items xs) lane l (c.in-Sent.notice ∷ []) there
    ∙ ap (λ (e : Entry). waiting_at c.args.self.now l ++ notices_on l (e ∷ [])) (sym c.in-Sent.is)
