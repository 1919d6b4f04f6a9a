use Rattle.std.proofs.Common.{rules, subst, ◌≡◌, ◌<◌, ◌++◌, ◌∷◌, ℕ, List, length}
use Rattle.due_model.specs.declared.event.Event.{Event}
use Rattle.due_model.specs.declared.notice.Suppression.{Suppression}
use Rattle.decider.specs.claims.Decider.{gained, suppressed_gained}
use Rattle.decider.specs.claims.Fits.{Fits, kept}
use Rattle.decider.specs.claims.Outbox.{lists, waiting_at}
use Rattle.decider_thread.specs.Made.{suppressed}
use Rattle.decider_thread.proofs.StandLaws.{stands_more, stands_noted}
use Rattle.decider_thread.proofs.events.decide_event.Goals as goal

pub returns-clause-decided : goal.returns-clause-decided
returns-clause-decided g c = λ _ zone share queues seats past first long stands.
    let k = kept c.args.decider.now in
    let next = kept c.decide.new.self in
    let notices : (past : List Event) → Fits k past → (l : ℕ) → l < length (lists c.args.outbox.now) → waiting_at c.decide.new.outbox l ≡ waiting_at c.args.outbox.now l ++ gained k.config k.zone k.share l c.args.event past = search rules in
    let fits : (past : List Event) → Fits k past → Fits next (c.args.event ∷ past) = search rules in
    let lines : (past : List Event) → Fits k past → next.log ≡ k.log ++ suppressed_gained k.config k.zone k.share c.args.event past = search rules in
    let told = λ (lines : List Suppression). g.L.DeciderLog.tells first lines c.args.log.now in
    let decided = stands_more c.args.config.now zone share queues past k told (waiting_at c.args.outbox.now) seats stands c.args.event next (waiting_at c.decide.new.outbox)
    (fits past stands.fits) c.decide.ensures.settings (lines past stands.fits)
    (λ l below. notices past stands.fits l (subst (λ n. l < n) long below)) in
    stands_noted c.args.config.now zone share queues (c.args.event ∷ past) next told (waiting_at c.decide.new.outbox) seats decided
    (kept c.note.new.decider) (λ lines. g.L.DeciderLog.tells first lines c.note.new.log)
    (c.note.ensures.fits (c.args.event ∷ past) decided.fits) c.note.ensures.settings
    (c.note.ensures.noted first (suppressed c.args.config.now zone share (c.args.event ∷ past)) decided.log)
