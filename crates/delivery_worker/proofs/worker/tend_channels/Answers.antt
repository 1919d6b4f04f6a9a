use Rattle.std.proofs.Common.{rules, arith, ◌≡◌, ◌≢◌, ◌+◌, ◌<◌, [], ◌∙◌, ap, true, false, inl, refl, length, nat_eq}
use Rattle.std.proofs.lemmas.Option.{slice_get_read}
use Rattle.channel_queue.specs.Rule.{joined_seen, picked_of}
use Rattle.channel_queue.specs.declared.Seen.TheVariants.{Worker}
use Rattle.due_model.specs.Items.{notices}
use Rattle.undelivered.specs.Record.{Record}
use Rattle.undelivered.specs.declared.Why.TheVariants.{Failed}
use Rattle.delivery_worker.specs.Picked.{held}
use Rattle.delivery_worker.proofs.ChannelLaws.{all_turns, as_many, few_records, not_failed, one_more, turn}
use Rattle.delivery_worker.proofs.worker.tend_channels.Goals as goal

pub returns-then-ne-clause-channels : goal.returns-then-ne-clause-channels
returns-then-ne-clause-channels g c =
    let inv = c.loop-place.invariant in
    let did = c.tend_next-next.ensures in
    let k = c.loop-place.place in
    let is_first : nat_eq k 0 ≡ true → k ≡ 0 = search rules in
    let isnt_first : nat_eq k 0 ≡ false → k ≢ 0 = search rules in
    let begun : nat_eq k 0 ≡ true → (k ≡ 0) × (c.loop-place.lane.ended ≡ []) × (c.loop-place.lane.taken ≡ []) = λ e. (
      is_first e,
      ap (λ (r : Record). r.ended) (inv.5 (is_first e)).1 ∙ c.requires.first,
      ap (λ (r : Record). r.taken) (inv.5 (is_first e)).1 ∙ c.requires.fresh,
    ) in
    let next : nat_eq k 0 ≡ false → (length c.loop-place.lane.ended + 1 ≡ k) × (c.loop-place.why ≡ Failed) = λ e. ((inv.6 (isnt_first e)).2, (inv.6 (isnt_first e)).0) in
    let within : k < length c.loop-place.channels.items = search rules in
    all_turns _ _ g.C.Channel.stays _ _ _ _ _ (k + 1) _ _
    (turn _ _ _ _ k (nat_eq k 0) c.loop-place.why c.tend_next-next.result.1 c.loop-place.lane c.tend_next-next.new.lane _ _ c.index_mut.result.now c.tend_next-next.new.channel inv.7 begun next (slice_get_read _ _ k _ refl within c.index_mut.ensures.value) (record {
      own = did.own (λ e. (begun e).2);
      tried = did.tried;
      number = did.number;
      limit = did.limit;
      closed = did.closed;
      grows = did.grows;
    }))
    (inl (few_records k (nat_eq k 0) c.loop-place.why c.loop-place.lane c.tend_next-next.new.lane begun next did.records_left))

pub loop-place-preserved : goal.loop-place-preserved
loop-place-preserved g c =
    let inv = c.loop-place.invariant in
    let did = c.tend_next-next.ensures in
    let k = c.loop-place.place in
    let is_first : nat_eq k 0 ≡ true → k ≡ 0 = search rules in
    let isnt_first : nat_eq k 0 ≡ false → k ≢ 0 = search rules in
    let begun : nat_eq k 0 ≡ true → (k ≡ 0) × (c.loop-place.lane.ended ≡ []) × (c.loop-place.lane.taken ≡ []) = λ e. (
      is_first e,
      ap (λ (r : Record). r.ended) (inv.5 (is_first e)).1 ∙ c.requires.first,
      ap (λ (r : Record). r.taken) (inv.5 (is_first e)).1 ∙ c.requires.fresh,
    ) in
    let next : nat_eq k 0 ≡ false → (length c.loop-place.lane.ended + 1 ≡ k) × (c.loop-place.why ≡ Failed) = λ e. ((inv.6 (isnt_first e)).2, (inv.6 (isnt_first e)).0) in
    let within : k < length c.loop-place.channels.items = search rules in
    let failed : c.tend_next-next.result.1 ≡ Failed = search rules in
    let worker = did.worker in (
      (worker.0, worker.1 ∙ ap (λ j. Worker (picked_of c.tend_next-next.result.0) c.args.setup.queue.now.deciders j) (ap joined_seen inv.0.1)),
      did.ends,
      did.serving,
      (let order : held c.tend_next-next.new.lane ≡ notices (picked_of c.tend_next-next.result.0) = search rules in order),
      (let count : g.B.Bell.count c.tend_next-next.new.bell ≡ g.B.Bell.count c.args.bell.now = search rules in count),
      (λ zero. absurd (omega (arith, zero))),
      (λ _. (failed, did.failed failed, one_more k (nat_eq k 0) c.loop-place.why c.loop-place.lane c.tend_next-next.new.lane begun next (did.records (λ m. not_failed _ m failed)))),
      turn _ _ _ _ k (nat_eq k 0) c.loop-place.why c.tend_next-next.result.1 c.loop-place.lane c.tend_next-next.new.lane _ _ c.index_mut.result.now c.tend_next-next.new.channel inv.7 begun next (slice_get_read _ _ k _ refl within c.index_mut.ensures.value) (record {
        own = did.own (λ e. (begun e).2);
        tried = did.tried;
        number = did.number;
        limit = did.limit;
        closed = did.closed;
        grows = did.grows;
      }),
    )

pub returns-clause-channels : goal.returns-clause-channels
returns-clause-channels g c =
    let inv = c.loop-place.invariant in
    let none : c.loop-place.place ≡ 0 → length c.args.channels.now.items ≡ 0 = λ zero. search rules in
    all_turns _ _ g.C.Channel.stays _ _ _ _ _ c.loop-place.place _ _ inv.7 (as_many c.loop-place.place c.loop-place.lane c.args.channels.now.items (λ some. (inv.6 some).2) none)
