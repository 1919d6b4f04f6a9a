use Rattle.std.proofs.Common.{subst}
use Rattle.std.specs.Arc.{arc_value}
use Rattle.due_model.specs.declared.config.Config.{Config}
use Rattle.journal_folder.specs.declared.lane_past.LanePast.{LanePast}
use Rattle.earlier_runs.specs.State.{IsState}
use Rattle.earlier_runs.proofs.GivenLaws.{begun_more}
use Rattle.earlier_runs.proofs.from_now.begin_all.Goals as goal

pub loop-number-preserved : goal.loop-number-preserved
loop-number-preserved g c =
    begun_more g.F.Journals.knows g.F.Journals.begins c.args.journals.now (arc_value c.args.config.now) c.args.from c.loop-number.number
    c.loop-number.states.items c.push.new.self.items c.loop-number.begun.items c.push-in-loop-number.new.self.items c.in_ok-known_state.field-0 c.in_ok-begin_anew.field-0
    c.loop-number.invariant c.in_ok-push.ensures.items c.in_ok-push-2.ensures.items
    (subst (λ (x : Config). (read : LanePast) × g.F.Journals.knows c.args.journals.now x (record { 0 = c.loop-number.number }) read
    × IsState read.from read.settled.items read.begun.items c.in_ok-known_state.field-0) c.deref-in-loop-number.ensures c.in_ok-known_state.ensures)
    c.in_ok-begin_anew.ensures
