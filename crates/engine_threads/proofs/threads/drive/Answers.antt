use Rattle.std.proofs.Common.{ℕ, arith, rules, ◌≡◌, ◌<◌, ◌≤◌, ◌%◌, ◌||◌, [], Bool, List, length, refl, reverse, sym, subst, ap, ◌∙◌}
use Rattle.std.proofs.lemmas.Option.{same_Some, slice_get_within}
use Rattle.channel_queue.specs.declared.LaneQueue.{LaneQueue}
use Rattle.channel_queue.specs.Passes.{IsWorker}
use Rattle.channel_queue.specs.Rule.{picked_of}
use Rattle.decider_thread.specs.declared.ring.DeciderEnd.{DeciderEnd}
use Rattle.decider_thread.specs.claims.Order.{IsInOrder}
use Rattle.engine_threads.specs.Lanes.{IsServed}
use Rattle.engine_threads.specs.Logs.{AreInOrder, HasEach}
use Rattle.engine_threads.specs.Run.{IsLogOf}
use Rattle.engine_threads.specs.Told.{HaveTold, NoneIsLeft}
use Rattle.engine_threads.proofs.EndLaws.{all_ended}
use Rattle.engine_threads.proofs.JoinLaws.{channels_still, neither_first, own_worker}
use Rattle.lemmas.proofs.Lists.{some_at}
use Rattle.engine_threads.proofs.RunLaws.{Laws, decided_of, decided_older, lane_end, left_any, log_any, log_end, none_left, told_all, told_begins, told_front}
use Rattle.engine_threads.proofs.threads.drive.Goals as goal

pub meet_all-refused-requires-clause-workers : goal.meet_all-refused-requires-clause-workers
meet_all-refused-requires-clause-workers g c = λ l q s at_q at_s.
    let long : length c.args.shared.queues.now ≡ length c.in-Some.lanes.items = sym (c.in-Some.ensures.count ∙ c.requires.works) in
    let below = slice_get_within c.args.shared.queues.now l q at_q in
    let w = some_at c.args.works.items l (subst (λ n. l < n) (sym c.requires.works) below) in
    let h = some_at c.in-Some.lanes.items l (subst (λ n. l < n) long below) in
    let kept : IsServed h.0.promise.queue.now h.0.promise.channels s = c.join_lanes-served.ensures.each l h.0 s h.1 at_s in
    let its = c.in-Some.ensures.each l w.0 h.0 w.1 h.1 in
    let same : h.0.promise.queue.now ≡ q = same_Some _ _ (sym its.0 ∙ at_q) in
    own_worker q (picked_of s.pass) [] s.pass (subst (λ (r : LaneQueue). IsWorker r (picked_of s.pass) [] s.pass) same kept.worker)

pub meet_all-refused-requires-clause-ends : goal.meet_all-refused-requires-clause-ends
meet_all-refused-requires-clause-ends g c =
    let ended = all_ended (λ h. h.promise.config.now) (λ h. g.Z.GivesZone.zone h.promise.zone.now) (λ h. h.promise.queues.now) (λ h. h.promise.share) (λ h. h.promise.ring.value) (λ h. h.promise.log.value)
    g.L.DeciderLog.tells g.L.DeciderLog.failed c.args.shared.config.now (g.Z.GivesZone.zone c.args.shared.zone.now) c.args.shared.queues.now (reverse (g.S.Source.given_so_far c.feed_from-stopped.new.source))
    c.args.deciders.items c.args.logs.items c.in-Some-start_deciders.ends.items c.join_all-ends.result.0.items c.join_all-ends.result.1.items c.args.senders.items c.feed_from-stopped.new.rings.items
    c.in-Some-start_deciders.ensures.count c.requires.logs c.join_all-ends.ensures.count c.join_all-ends.ensures.others c.requires.senders
    (λ d w h at_w at_h. let its = c.in-Some-start_deciders.ensures.each d w h at_w at_h in (its.0, ap g.Z.GivesZone.zone its.1, its.2, its.3, its.4))
    c.in-Some-start_deciders.ensures.logs c.join_all-ends.ensures.each c.requires.pairs c.feed_from-stopped.ensures.same c.feed_from-stopped.ensures.sent in
    (c.args.shared.config.now, g.Z.GivesZone.zone c.args.shared.zone.now, reverse (g.S.Source.given_so_far c.feed_from-stopped.new.source), ended.0, ended.1)

pub returns-clause-lanes : goal.returns-clause-lanes
returns-clause-lanes g c = λ channels given.
    let config = c.args.shared.config.now in
    let zone = g.Z.GivesZone.zone c.args.shared.zone.now in
    let past = reverse (g.S.Source.given_so_far c.feed_from-stopped.new.source) in
    let n = length c.join_all-ends.result.0.items in
    let count : n ≡ length c.args.deciders.items = c.join_all-ends.ensures.count ∙ c.in-Some-start_deciders.ensures.count in
    let laws : Laws = record {
      due = c.made_of_share.ensures.due;
      own = c.made_of_share.ensures.own;
      suppressed = c.made_of_share.ensures.suppressed;
      nothing_else = c.made_of_share.ensures.nothing_else;
      named = c.made_of_share.ensures.named;
      order = c.made_of_share.ensures.order;
    } in
    let ended = all_ended (λ h. h.promise.config.now) (λ h. g.Z.GivesZone.zone h.promise.zone.now) (λ h. h.promise.queues.now) (λ h. h.promise.share) (λ h. h.promise.ring.value) (λ h. h.promise.log.value)
    g.L.DeciderLog.tells g.L.DeciderLog.failed c.args.shared.config.now (g.Z.GivesZone.zone c.args.shared.zone.now) c.args.shared.queues.now (reverse (g.S.Source.given_so_far c.feed_from-stopped.new.source))
    c.args.deciders.items c.args.logs.items c.in-Some-start_deciders.ends.items c.join_all-ends.result.0.items c.join_all-ends.result.1.items c.args.senders.items c.feed_from-stopped.new.rings.items
    c.in-Some-start_deciders.ensures.count c.requires.logs c.join_all-ends.ensures.count c.join_all-ends.ensures.others c.requires.senders
    (λ d w h at_w at_h. let its = c.in-Some-start_deciders.ensures.each d w h at_w at_h in (its.0, ap g.Z.GivesZone.zone its.1, its.2, its.3, its.4))
    c.in-Some-start_deciders.ensures.logs c.join_all-ends.ensures.each c.requires.pairs c.feed_from-stopped.ensures.same c.feed_from-stopped.ensures.sent in
    let long : length c.join_lanes-served.result.0.items ≡ length c.args.shared.queues.now = c.join_lanes-served.ensures.count ∙ c.in-Some.ensures.count ∙ c.requires.works in
    let all_met = c.meet_all-refused.ensures.met config zone past ended.0 ended.1 in
    let some = subst (λ m. 0 < m) (sym count) c.requires.some in record {
      decided = decided_of config zone n c.args.shared.queues.now past c.meet_all-refused.result c.join_lanes-served.result.0.items ended.0 c.join_all-ends.result.0.items refl all_met;
      older = decided_older config zone n c.args.shared.queues.now past c.meet_all-refused.result c.join_lanes-served.result.0.items ended.0 c.join_all-ends.result.0.items refl all_met some;
      count = c.meet_all-refused.ensures.served ∙ long ∙ c.requires.lanes;
      each = λ l t at_t.
          let below : l < length c.args.shared.queues.now = subst (λ m. l < m) (c.meet_all-refused.ensures.served ∙ long) (slice_get_within c.meet_all-refused.new.served.items l t at_t) in
          let q = some_at c.args.shared.queues.now l below in
          let s = some_at c.join_lanes-served.result.0.items l (subst (λ m. l < m) (sym long) below) in
          let w = some_at c.args.works.items l (subst (λ m. l < m) (sym c.requires.works) below) in
          let h = some_at c.in-Some.lanes.items l (subst (λ m. l < m) (sym (c.in-Some.ensures.count ∙ c.requires.works)) below) in
          let kept : IsServed h.0.promise.queue.now h.0.promise.channels s.0 = c.join_lanes-served.ensures.each l h.0 s.0 h.1 s.1 in
          let its = c.in-Some.ensures.each l w.0 h.0 w.1 h.1 in
          let same : h.0.promise.queue.now ≡ q.0 = same_Some _ _ (sym its.0 ∙ q.1) in
          let served : IsServed q.0 (channels l) s.0 = subst (λ (b : ℕ). IsServed q.0 b s.0) (its.1 ∙ given l w.0 w.1) (subst (λ (r : LaneQueue). IsServed r h.0.promise.channels s.0) same kept) in
          lane_end laws config zone n l q.0 c.args.shared.queues.now past c.meet_all-refused.result c.join_lanes-served.result.0.items ended.0 c.join_all-ends.result.0.items s.0 refl q.1 s.1
          all_met (channels l) t
          some (c.requires.queues l q.0 q.1 ∙ sym count) served (c.meet_all-refused.ensures.kept l s.0 t s.1 at_t);
    }

pub returns-clause-log : goal.returns-clause-log
returns-clause-log g c =
    let config = c.args.shared.config.now in
    let zone = g.Z.GivesZone.zone c.args.shared.zone.now in
    let past = reverse (g.S.Source.given_so_far c.feed_from-stopped.new.source) in
    let n = length c.join_all-ends.result.0.items in
    let count : n ≡ length c.args.deciders.items = c.join_all-ends.ensures.count ∙ c.in-Some-start_deciders.ensures.count in
    let laws : Laws = record {
      due = c.made_of_share.ensures.due;
      own = c.made_of_share.ensures.own;
      suppressed = c.made_of_share.ensures.suppressed;
      nothing_else = c.made_of_share.ensures.nothing_else;
      named = c.made_of_share.ensures.named;
      order = c.made_of_share.ensures.order;
    } in
    let ended = all_ended (λ h. h.promise.config.now) (λ h. g.Z.GivesZone.zone h.promise.zone.now) (λ h. h.promise.queues.now) (λ h. h.promise.share) (λ h. h.promise.ring.value) (λ h. h.promise.log.value)
    g.L.DeciderLog.tells g.L.DeciderLog.failed c.args.shared.config.now (g.Z.GivesZone.zone c.args.shared.zone.now) c.args.shared.queues.now (reverse (g.S.Source.given_so_far c.feed_from-stopped.new.source))
    c.args.deciders.items c.args.logs.items c.in-Some-start_deciders.ends.items c.join_all-ends.result.0.items c.join_all-ends.result.1.items c.args.senders.items c.feed_from-stopped.new.rings.items
    c.in-Some-start_deciders.ensures.count c.requires.logs c.join_all-ends.ensures.count c.join_all-ends.ensures.others c.requires.senders
    (λ d w h at_w at_h. let its = c.in-Some-start_deciders.ensures.each d w h at_w at_h in (its.0, ap g.Z.GivesZone.zone its.1, its.2, its.3, its.4))
    c.in-Some-start_deciders.ensures.logs c.join_all-ends.ensures.each c.requires.pairs c.feed_from-stopped.ensures.same c.feed_from-stopped.ensures.sent in
    let log = c.merged_log-log.result.0.items in
    let merged : c.deref.result.now ≡ c.join_all-ends.result.0.items = search rules in
    let order = subst (λ (es : List DeciderEnd). AreInOrder es → IsInOrder log) merged c.merged_log-log.ensures.order in
    let some = subst (λ m. 0 < m) (sym count) c.requires.some in
    let all_met = c.meet_all-refused.ensures.met config zone past ended.0 ended.1 in
    let served = c.join_lanes-served.result.0.items in
    let ends = c.join_all-ends.result.0.items in
    let as_logs : n ≡ length c.args.logs.items = count ∙ sym c.requires.logs in
    let few : length c.join_all-ends.result.1.items ≤ length c.args.logs.items = (let back = c.join_all-ends.ensures.others in let ends = c.join_all-ends.ensures.count in omega (arith, back, ends, as_logs)) in
    let rest = c.feed_from-stopped.result || c.merged_log-log.result.1 in
    let whole : (d : ℕ) → d < length c.join_all-ends.result.1.items → d < n = λ d lt. (let back = c.join_all-ends.ensures.others in let ends = c.join_all-ends.ensures.count in omega (arith, lt, back, ends)) in
    let begins = told_begins laws config zone n c.args.shared.queues.now past c.meet_all-refused.result served ended.0 ends some refl all_met in
    let is_log = log_any config zone past c.meet_all-refused.result c.feed_from-stopped.result c.merged_log-log.result.1 (λ o. ended.0 (o % n)) log
    (told_front laws config zone n c.args.shared.queues.now past c.meet_all-refused.result served ended.0 ends some refl all_met)
    (λ whole. log_end laws config zone n c.args.shared.queues.now past c.meet_all-refused.result served ended.0 ends some refl all_met log c.requires.accepted order (subst (λ (es : List DeciderEnd). HasEach es log) merged (c.merged_log-log.ensures.each whole)))
    c.merged_log-log.ensures.none in (
      ended.0,
      subst (λ (m : ℕ). HaveTold g.L.DeciderLog.tells g.L.DeciderLog.failed config zone m past (c.meet_all-refused.result || rest) c.args.logs.items c.join_all-ends.result.1.items ended.0) as_logs (record {
        few = few;
        each = ended.2;
        absent = ended.3;
        begins = begins;
        all = λ none d b at unfailed.
            told_all laws config zone n c.args.shared.queues.now past c.meet_all-refused.result served ended.0 ends some refl all_met (neither_first c.meet_all-refused.result rest none) d
            (whole d (slice_get_within c.join_all-ends.result.1.items d b at)) (λ e at_e. ended.4 d e b at_e at unfailed);
      }),
      subst (λ (m : ℕ). IsLogOf config zone past (c.meet_all-refused.result || (c.feed_from-stopped.result || c.merged_log-log.result.1)) (λ o. ended.0 (o % m)) log) as_logs is_log,
      subst (λ (m : ℕ). NoneIsLeft g.L.DeciderLog.failed m c.join_all-ends.result.1.items log) as_logs
          (λ o b at unfailed.
          left_any c.merged_log-log.result.1 o log
          (λ merges. none_left laws config zone n c.args.shared.queues.now past c.meet_all-refused.result served ended.0 ends some refl all_met log (subst (λ (es : List DeciderEnd). HasEach es log) merged (c.merged_log-log.ensures.each merges)) o
          (λ e at_e. ended.4 (o % n) e b at_e at unfailed))
          c.merged_log-log.ensures.none),
    )

pub returns-clause-over : goal.returns-clause-over
returns-clause-over g c = λ m. c.feed_from-stopped.ensures.over (neither_first c.feed_from-stopped.result c.merged_log-log.result.1 m)

pub returns-clause-channels : goal.returns-clause-channels
returns-clause-channels g c = λ l w s b at_w at_s at_b.
    let long : length c.join_lanes-served.result.0.items ≡ length c.args.shared.queues.now = c.join_lanes-served.ensures.count ∙ c.in-Some.ensures.count ∙ c.requires.works in
    let below : l < length c.args.shared.queues.now = subst (λ m. l < m) (c.meet_all-refused.ensures.served ∙ long) (slice_get_within c.meet_all-refused.new.served.items l s at_s) in
    let s0 = some_at c.join_lanes-served.result.0.items l (subst (λ m. l < m) (sym long) below) in
    let h = some_at c.in-Some.lanes.items l (subst (λ m. l < m) (sym (c.in-Some.ensures.count ∙ c.requires.works)) below) in
    let its = c.in-Some.ensures.each l w h.0 at_w h.1 in
    channels_still _ _ _ _ _ _ s0.0 s _ _ b.items its.3 its.2 (ap (λ v. v.items) its.4) (c.meet_all-refused.ensures.kept l s0.0 s s0.1 at_s) (c.join_lanes-served.ensures.channels l h.0 s0.0 b h.1 s0.1 at_b)
