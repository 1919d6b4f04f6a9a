use Rattle.std.proofs.Common.{◌∙◌, ◌-◌, ◌≤◌, arith, refl, sym}
use Rattle.text_lines.specs.claims.CountedReader.{calls_after}
use Rattle.text_lines.specs.claims.LineReader.{call_limit}
use Rattle.text_lines.specs.declared.line_reader.Stop.TheVariants.{ReaderFailed, TooManyCalls}
use Rattle.event_feed.proofs.Answering.{AreGiven-stop, GivesEvent-line, GivesFault-line, GivesFault-long, few-going, not_over, on_some, over_so}
use Rattle.event_feed.proofs.feeder.Feeder.next_within.Goals as goal
use Rattle.event_feed.proofs.feeder.Feeder.next_within.Goals.{in-None, in-Some}

pub returns-then-is_some-clause-over : goal.returns-then-is_some-clause-over
returns-then-is_some-clause-over g c = on_some c.args.self.now.stop _ (refl, refl)

pub returns-then-is_some-clause-fault : goal.returns-then-is_some-clause-fault
returns-then-is_some-clause-fault g c = tt

pub returns-then-is_some-clause-last : goal.returns-then-is_some-clause-last
returns-then-is_some-clause-last g c = tt

pub returns-in-Ok-clause-event : goal.returns-in-Ok-clause-event
returns-in-Ok-clause-event g c =
    λ far near. rw (← c.self.view_is) (GivesEvent-line far c.args.config.now c.self.inside.lines c.next_line-how.new.lines c.self.inside.line c.self.inside.last c.next_line-how.new.line
    c.self.inside.stop c.in-Ok.event c.raise-event.result (sym c.is_some.ensures ∙ c.if-is_some.false) c.in-Line.ensures.goes c.in-Line.ensures.counts
    (rw (← c.line.ensures) c.in-Ok.ensures.event) c.in-Ok.ensures.proper c.raise-event.ensures (omega arith) near)

pub returns-in-Err-clause-fault : goal.returns-in-Err-clause-fault
returns-in-Err-clause-fault g c =
    λ far same. rw (← c.self.view_is) (GivesFault-line far c.args.config.now c.self.inside.lines c.next_line-how.new.lines c.self.inside.line c.self.inside.last c.next_line-how.new.line
    c.self.inside.stop c.in-Err.fault (sym c.is_some.ensures ∙ c.if-is_some.false) c.in-Line.ensures.goes c.in-Line.ensures.counts
    (rw (← c.line.ensures) c.in-Err.ensures.fault) same)

pub returns-in-Long-clause-fault : goal.returns-in-Long-clause-fault
returns-in-Long-clause-fault g c =
    λ far same. rw (← c.self.view_is) (GivesFault-long far c.args.config.now.objects c.self.inside.lines c.next_line-how.new.lines c.self.inside.line c.self.inside.last c.next_line-how.new.line
    c.self.inside.stop (sym c.is_some.ensures ∙ c.if-is_some.false) c.in-Long.ensures.goes c.in-Long.ensures.counts)

pub returns-after-stop_fault-clause-last : goal.returns-after-stop_fault-clause-last
returns-after-stop_fault-clause-last g c =
    elim c.match-stop_fault.branch [
      | in-None w ↦ rw w.result-is tt
      | in-Some w ↦
          rw w.result-is (λ _ far. rw (← c.self.view_is) (AreGiven-stop far g.R.Input.can_fail c.args.config.now.objects c.self.inside.lines c.next_line-how.new.lines c.self.inside.line c.self.inside.last
          c.next_line-how.new.line c.self.inside.stop c.in-Over.stop w.in-Some.fault (sym c.is_some.ensures ∙ c.if-is_some.false) c.in-Over.ensures.goes c.in-Over.ensures.sure
          (sym c.stop_fault.ensures ∙ w.in-Some.is)))
    ]

pub returns-in-Ok-clause-few : goal.returns-in-Ok-clause-few
returns-in-Ok-clause-few g c =
    rw (← c.self.view_is) (few-going c.self.inside.lines.calls c.next_line-how.new.lines.calls (c.next_line-how.new.line - c.self.inside.line)
    c.self.inside.stop (sym c.is_some.ensures ∙ c.if-is_some.false) c.in-Line.ensures.few)

pub returns-in-Ok-clause-many : goal.returns-in-Ok-clause-many
returns-in-Ok-clause-many g c =
    rw (← c.self.view_is) (not_over c.self.inside.stop TooManyCalls (calls_after c.self.inside.lines.calls call_limit ≤ c.next_line-how.new.lines.calls) (sym c.is_some.ensures ∙ c.if-is_some.false))

pub returns-in-Ok-clause-sure : goal.returns-in-Ok-clause-sure
returns-in-Ok-clause-sure g c =
    λ _. rw (← c.self.view_is) (not_over c.self.inside.stop ReaderFailed ⊥ (sym c.is_some.ensures ∙ c.if-is_some.false))

pub returns-in-Err-clause-few : goal.returns-in-Err-clause-few
returns-in-Err-clause-few g c =
    rw (← c.self.view_is) (few-going c.self.inside.lines.calls c.next_line-how.new.lines.calls (c.next_line-how.new.line - c.self.inside.line)
    c.self.inside.stop (sym c.is_some.ensures ∙ c.if-is_some.false) c.in-Line.ensures.few)

pub returns-in-Err-clause-many : goal.returns-in-Err-clause-many
returns-in-Err-clause-many g c =
    rw (← c.self.view_is) (not_over c.self.inside.stop TooManyCalls (calls_after c.self.inside.lines.calls call_limit ≤ c.next_line-how.new.lines.calls) (sym c.is_some.ensures ∙ c.if-is_some.false))

pub returns-in-Err-clause-sure : goal.returns-in-Err-clause-sure
returns-in-Err-clause-sure g c =
    λ _. rw (← c.self.view_is) (not_over c.self.inside.stop ReaderFailed ⊥ (sym c.is_some.ensures ∙ c.if-is_some.false))

pub returns-in-Long-clause-few : goal.returns-in-Long-clause-few
returns-in-Long-clause-few g c =
    rw (← c.self.view_is) (few-going c.self.inside.lines.calls c.next_line-how.new.lines.calls (c.next_line-how.new.line - c.self.inside.line)
    c.self.inside.stop (sym c.is_some.ensures ∙ c.if-is_some.false) c.in-Long.ensures.few)

pub returns-in-Long-clause-many : goal.returns-in-Long-clause-many
returns-in-Long-clause-many g c =
    rw (← c.self.view_is) (not_over c.self.inside.stop TooManyCalls (calls_after c.self.inside.lines.calls call_limit ≤ c.next_line-how.new.lines.calls) (sym c.is_some.ensures ∙ c.if-is_some.false))

pub returns-in-Long-clause-sure : goal.returns-in-Long-clause-sure
returns-in-Long-clause-sure g c =
    λ _. rw (← c.self.view_is) (not_over c.self.inside.stop ReaderFailed ⊥ (sym c.is_some.ensures ∙ c.if-is_some.false))

pub returns-after-stop_fault-clause-few : goal.returns-after-stop_fault-clause-few
returns-after-stop_fault-clause-few g c =
    rw (← c.self.view_is) c.in-Over.ensures.few

pub returns-after-stop_fault-clause-many : goal.returns-after-stop_fault-clause-many
returns-after-stop_fault-clause-many g c =
    rw (← c.self.view_is) (over_so c.self.inside.stop c.in-Over.stop TooManyCalls (calls_after c.self.inside.lines.calls call_limit ≤ c.next_line-how.new.lines.calls)
    c.in-Over.ensures.many)

pub returns-after-stop_fault-clause-sure : goal.returns-after-stop_fault-clause-sure
returns-after-stop_fault-clause-sure g c =
    λ no. rw (← c.self.view_is) (over_so c.self.inside.stop c.in-Over.stop ReaderFailed ⊥ (c.in-Over.ensures.sure no))
