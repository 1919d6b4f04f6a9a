use Rattle.std.proofs.Common.{refl, subst}
use Rattle.caller_feeds.specs.Taken.{AreOver, GoesOn, Taking}
use Rattle.caller_feeds.proofs.TakenLemmas.{goes-looked, over-before}
use Rattle.caller_feeds.proofs.intake.Intake.is_done.Goals as goal

pub returns-clause-goes : goal.returns-clause-goes
returns-clause-goes c = λ config.
    let inside = c.self.inside in
    subst (λ (old : Taking). GoesOn config old (record { ends = c.are_done.new.ends.items; events = inside.events.items; most = inside.most })) c.self.view_is
    (goes-looked config (record { ends = inside.ends.items; events = inside.events.items; most = inside.most }) _ c.are_done.ensures.looked refl refl)

pub returns-clause-over : goal.returns-clause-over
returns-clause-over c = λ over.
    subst (λ (old : Taking). AreOver old.ends) c.self.view_is (over-before c.self.inside.ends.items c.are_done.new.ends.items c.are_done.ensures.looked over)
