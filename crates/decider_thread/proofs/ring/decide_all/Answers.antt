use Rattle.std.proofs.Common.{rules, ◌≡◌, ◌<◌, ◌++◌, ◌∙◌, List, [], length, replicate, slice_index_or, subst, sym, ap, refl, true≢false}
use Rattle.std.proofs.lemmas.List.{get_or-replicate, length-replicate}
use Rattle.due_model.specs.declared.notice.Notice.{Notice}
use Rattle.rtrb.specs.Ring.{received}
use Rattle.decider.specs.claims.Fits.{kept}
use Rattle.decider.specs.Fits.{HasDecidedNothing}
use Rattle.decider.specs.claims.Outbox.{lists, waiting_at}
use Rattle.decider_thread.proofs.HeardLaws.{heard_after}
use Rattle.decider_thread.proofs.PutLaws.{same_waits}
use Rattle.decider_thread.proofs.StandLaws.{begins}
use Rattle.decider_thread.proofs.ring.decide_all.Goals as goal

pub decide_events-over-requires-clause-stands : goal.decide_events-over-requires-clause-stands
decide_events-over-requires-clause-stands g c κs within =
    let new : HasDecidedNothing c.args.setup.config.now c.args.setup.zone.now c.args.setup.share (kept c.in-Ok-Ok.decider) = search rules in
    let made : lists c.in-Ok-Ok.outbox ≡ replicate (length c.args.setup.config.now.lanes) [] = search rules in (
      c.args.setup.zone.now,
      begins _ _ _ c.args.setup.queues.now _ (λ lines. g.L.DeciderLog.tells c.args.log.now lines c.args.log.now) _ _ (g.L.DeciderLog.stays c.args.log.now) new
          (λ l below. ap (λ (ls : List (List Notice)). slice_index_or ls l []) made ∙ get_or-replicate (length c.args.setup.config.now.lanes) l [] [] (subst (λ n. l < n) c.requires.queues below))
          c.requires.puts,
    )

pub returns-in_default-clause-heard : goal.returns-in_default-clause-heard
returns-in_default-clause-heard g c =
    let more = c.skip_rest.ensures.heard refl [] c.requires.fresh in record {
      past = [];
      all = more.0 ++ [];
      older = (more.0, refl);
      whole = λ e. absurd (true≢false e);
      heard_all = more.1;
      seats = c.requires.puts;
      log = record { told = []; are_told = g.L.DeciderLog.stays c.args.log.now; both = c.new-in_default.ensures.items };
    }

pub returns-clause-all : goal.returns-clause-all
returns-clause-all g c = λ unfailed.
    let new : HasDecidedNothing c.args.setup.config.now c.args.setup.zone.now c.args.setup.share (kept c.in-Ok-Ok.decider) = search rules in
    c.into_log.ensures ∙ c.decide_events-over.ensures.all new.log unfailed

pub put_all-requires-clause-puts : goal.put_all-requires-clause-puts
put_all-requires-clause-puts g c =
    let new : HasDecidedNothing c.args.setup.config.now c.args.setup.zone.now c.args.setup.share (kept c.in-Ok-Ok.decider) = search rules in
    let made : lists c.in-Ok-Ok.outbox ≡ replicate (length c.args.setup.config.now.lanes) [] = search rules in
    let stopped = c.decide_events-over.ensures.stopped c.args.setup.zone.now (begins _ _ _ c.args.setup.queues.now _ (λ lines. g.L.DeciderLog.tells c.args.log.now lines c.args.log.now) _ _ (g.L.DeciderLog.stays c.args.log.now) new
    (λ l below. ap (λ (ls : List (List Notice)). slice_index_or ls l []) made ∙ get_or-replicate (length c.args.setup.config.now.lanes) l [] [] (subst (λ n. l < n) c.requires.queues below))
    c.requires.puts) in
    (_, stopped.seats)

pub returns-clause-heard : goal.returns-clause-heard
returns-clause-heard g c =
    let new : HasDecidedNothing c.args.setup.config.now c.args.setup.zone.now c.args.setup.share (kept c.in-Ok-Ok.decider) = search rules in
    let made : lists c.in-Ok-Ok.outbox ≡ replicate (length c.args.setup.config.now.lanes) [] = search rules in
    let long : length c.args.setup.queues.now ≡ length (lists c.put_all.new.outbox) =
    c.requires.queues ∙ sym (c.put_all.ensures.lanes ∙ c.decide_events-over.ensures.lanes ∙ ap length made ∙ length-replicate (length c.args.setup.config.now.lanes) []) in
    let stopped = c.decide_events-over.ensures.stopped c.args.setup.zone.now (begins _ _ _ c.args.setup.queues.now _ (λ lines. g.L.DeciderLog.tells c.args.log.now lines c.args.log.now) _ _ (g.L.DeciderLog.stays c.args.log.now) new
    (λ l below. ap (λ (ls : List (List Notice)). slice_index_or ls l []) made ∙ get_or-replicate (length c.args.setup.config.now.lanes) l [] [] (subst (λ n. l < n) c.requires.queues below))
    c.requires.puts) in
    rw c.into_log.ensures (heard_after c.args.setup.config.now c.args.setup.zone.now c.args.setup.share c.args.setup.queues.now c.decide_events-over.result (received c.decide_events-over.new.ring) (received c.skip_rest-2.new.ring) (waiting_at c.decide_events-over.new.outbox) c.decide_events-over.new.seats c.put_all.new.seats (λ lines. g.L.DeciderLog.tells c.args.log.now lines c.decide_events-over.new.log) (kept c.decide_events-over.new.decider).log
    stopped c.skip_rest-2.ensures.over c.skip_rest-2.ensures.heard
    (λ whole puts. same_waits c.args.setup.share.decider c.args.setup.queues.now c.put_all.new.seats (waiting_at c.put_all.new.outbox) (λ _. []) whole (λ l below. c.put_all.ensures.empty l (subst (λ n. l < n) long below)) (c.put_all.ensures.puts whole puts)))
