use Rattle.std.proofs.Common.{◌≡◌, ◌<◌, ◌%◌, ℕ, length, map, sym, ap, ◌∙◌, arith}
use Rattle.std.proofs.lemmas.List.{length-map}
use Rattle.std.proofs.lemmas.Result.{IfOk-weaker}
use Rattle.due_model.specs.claims.Due.{due}
use Rattle.steps.specs.declared.line.LineParts.{LineParts}
use Rattle.steps.specs.claims.Lanes.{LaneState, about, all_taken, lane_state}
use Rattle.world_steps.specs.claims.Worlds.{lane_at, outbox_at}
use Rattle.world_steps.specs.claims.Steps.{past_of}
use Rattle.world_steps.specs.claims.Lines.{decider_of, line}
use Rattle.world_steps.specs.claims.Views.{world_state, world_setup}
use Rattle.world_steps.specs.Views.{joined}
use Rattle.world_steps.proofs.FitLaws.{lane_read, owner_there, outbox_there, outbox_read}
use Rattle.world_steps.proofs.LineLaws.{from_five, joined_law}
use Rattle.world_steps.proofs.world.World.line.Goals as goal

pub about_in_outbox-requires : goal.about_in_outbox-requires
about_in_outbox-requires c =
    let w = c.args.self.now in
    outbox_there w.fits (c.args.object.0 % c.from.result) c.args.lane.0 c.index-owner.result.now (owner_there w.fits c.args.object.0 c.from.result c.from.ensures)
    c.index-owner.ensures (omega (arith, w.fits.state.lanes, c.requires.lane))

pub returns-clause-taken : goal.returns-clause-taken
returns-clause-taken c =
    let w = c.args.self.now in
    let o = c.args.object.0 in
    let l = c.args.lane.0 in
    let there : l < length (map lane_state w.lanes.items) = omega (arith, w.fits.state.lanes, c.requires.lane) in
    let same = lane_read w.lanes.items l c.index-held.result.now there c.index-held.ensures in
    IfOk-weaker c.about.result (λ (parts : LineParts). parts.taken.items ≡ about o (all_taken (lane_state c.index-held.result.now)))
    (λ (parts : LineParts). parts.taken.items ≡ about o (all_taken (lane_at (world_state w) l)))
    (λ parts e. e ∙ sym (ap (λ (lane : LaneState). about o (all_taken lane)) same)) c.about.ensures.taken

pub returns-clause-hand : goal.returns-clause-hand
returns-clause-hand c =
    let w = c.args.self.now in
    let o = c.args.object.0 in
    let l = c.args.lane.0 in
    let there : l < length (map lane_state w.lanes.items) = omega (arith, w.fits.state.lanes, c.requires.lane) in
    let same = lane_read w.lanes.items l c.index-held.result.now there c.index-held.ensures in
    IfOk-weaker c.about.result (λ (parts : LineParts). parts.hand.items ≡ about o (lane_state c.index-held.result.now).hand)
    (λ (parts : LineParts). parts.hand.items ≡ about o (lane_at (world_state w) l).hand)
    (λ parts e. e ∙ sym (ap (λ (lane : LaneState). about o lane.hand) same)) c.about.ensures.hand

pub returns-clause-undelivered : goal.returns-clause-undelivered
returns-clause-undelivered c =
    let w = c.args.self.now in
    let o = c.args.object.0 in
    let l = c.args.lane.0 in
    let there : l < length (map lane_state w.lanes.items) = omega (arith, w.fits.state.lanes, c.requires.lane) in
    let same = lane_read w.lanes.items l c.index-held.result.now there c.index-held.ensures in
    IfOk-weaker c.about.result (λ (parts : LineParts). parts.undelivered.items ≡ about o (lane_state c.index-held.result.now).undelivered)
    (λ (parts : LineParts). parts.undelivered.items ≡ about o (lane_at (world_state w) l).undelivered)
    (λ parts e. e ∙ sym (ap (λ (lane : LaneState). about o lane.undelivered) same)) c.about.ensures.undelivered

pub returns-clause-queue : goal.returns-clause-queue
returns-clause-queue c =
    let w = c.args.self.now in
    let o = c.args.object.0 in
    let l = c.args.lane.0 in
    let there : l < length (map lane_state w.lanes.items) = omega (arith, w.fits.state.lanes, c.requires.lane) in
    let same = lane_read w.lanes.items l c.index-held.result.now there c.index-held.ensures in
    IfOk-weaker c.about.result (λ (parts : LineParts). parts.queue.items ≡ about o (lane_state c.index-held.result.now).queue)
    (λ (parts : LineParts). parts.queue.items ≡ about o (lane_at (world_state w) l).queue)
    (λ parts e. e ∙ sym (ap (λ (lane : LaneState). about o lane.queue) same)) c.about.ensures.queue

pub returns-clause-outbox : goal.returns-clause-outbox
returns-clause-outbox c =
    let w = c.args.self.now in
    let o = c.args.object.0 in
    let l = c.args.lane.0 in
    let there = owner_there w.fits o c.from.result c.from.ensures in
    IfOk-weaker c.about.result (λ (parts : LineParts). parts.outbox.items ≡ c.in_ok-outbox.outbox.items)
    (λ (parts : LineParts). parts.outbox.items ≡ about o (outbox_at (world_state w) (decider_of (world_setup w) o) l)) (λ parts e. e ∙ c.in_ok-outbox.ensures
    ∙ ap (about o) (sym (outbox_read w.deciders.items (o % c.from.result) c.index-owner.result.now l (simp length-map at there) c.index-owner.ensures)
    ∙ ap (λ (n : ℕ). outbox_at (world_state w) (o % n) l) c.from.ensures)) c.about.ensures.outbox

pub returns-clause-line : goal.returns-clause-line
returns-clause-line c =
    let w = c.args.self.now in
    let o = c.args.object.0 in
    let l = c.args.lane.0 in
    let lane = lane_at (world_state w) l in
    let out = outbox_at (world_state w) (decider_of (world_setup w) o) l in
    from_five c.about.result (λ (parts : LineParts). parts.taken.items ≡ about o (all_taken lane)) (λ parts. parts.hand.items ≡ about o lane.hand)
    (λ parts. parts.undelivered.items ≡ about o lane.undelivered) (λ parts. parts.queue.items ≡ about o lane.queue) (λ parts. parts.outbox.items ≡ about o out)
    (λ parts. joined parts ≡ line (world_setup w) (world_state w) l o) (joined_law o (all_taken lane) lane.hand lane.undelivered lane.queue out)
    (returns-clause-taken c) (returns-clause-hand c) (returns-clause-undelivered c) (returns-clause-queue c) (returns-clause-outbox c)

pub returns-clause-due : goal.returns-clause-due
returns-clause-due c =
    let w = c.args.self.now in
    let o = c.args.object.0 in
    let l = c.args.lane.0 in
    IfOk-weaker c.about.result (λ (parts : LineParts). joined parts ≡ line (world_setup w) (world_state w) l o)
    (λ (parts : LineParts). joined parts ≡ due (world_setup w).config (world_setup w).zone o l (past_of (world_state w) (decider_of (world_setup w) o)))
    (λ parts e. e ∙ w.fits.state.due l o c.requires.lane c.requires.object) (returns-clause-line c)
