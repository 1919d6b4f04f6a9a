use Rattle.std.proofs.Common.{◌≡◌, ◌++◌, ℕ, Ok, true, refl, sym, subst, ◌∙◌}
use Rattle.lemmas.proofs.Results.{on_err_always}
use Rattle.written.specs.claims.Written.{Leaves, WritesFront}
use Rattle.text_lines.specs.claims.Lines.{Known}
use Rattle.trace.specs.declared.feed.AfterFeed.{AfterFeed}
use Rattle.trace.specs.Feed.{IsMark, added}
use Rattle.trace.specs.FeedRun.{EndsFeed}
use Rattle.trace.proofs.FeedLaws.{event_front, line_event, line_none, line_refused, refusal_front, line_marked, line_stopped}
use Rattle.trace.proofs.feed.read_feed_line.Given.{Over}
use Rattle.trace.proofs.feed.read_feed_line.Goals.{After-write_refusal}
use Rattle.trace.proofs.feed.read_feed_line.Goals as goal

pub returns-in-Ok-None-clause-last : goal.returns-in-Ok-None-clause-last
returns-in-Ok-None-clause-last g c =
    let w = g.W.Write.contents c.args.writer.now in
    let none = rw c.in-Ok-None.field-0-is at c.in-Ok-None.ensures.none in
    let ended = rw (c.requires.open, c.in-Ok-None.field-0-is) at c.in-Ok-None.ensures.ended in
    line_none g.R.Input.can_fail c.args.run.now c.args.feeder.now c.next.new.self w w c.args.lines.now c.args.lines.now none.answers ended.place

pub returns-then-is_mark-clause-last : goal.returns-then-is_mark-clause-last
returns-then-is_mark-clause-last g c =
    let w = g.W.Write.contents c.args.writer.now in
    let marked = c.is_mark.ensures.0 c.if-is_mark.true in
    line_marked g.R.Input.can_fail c.args.run.now c.args.feeder.now c.next.new.self w w c.args.lines.now c.args.lines.now c.in-Err.refusal c.in-Err.ensures.fault
    (record { refused = marked.refused; says = sym c.text.ensures ∙ marked.says })

pub returns-in_ok-keep_event-in-Ok-Some-clause-next : goal.returns-in_ok-keep_event-in-Ok-Some-clause-next
returns-in_ok-keep_event-in-Ok-Some-clause-next g c =
    let run = c.args.run.now in
    let new = c.keep_event.new in
    let done = c.in_ok-keep_event-in-Ok-Some.ensures in
    let gives = rw c.in-Ok-Some.field-0-is at c.in-Ok-Some.ensures.event in
    let w0 = g.W.Write.contents c.args.writer.now in
    let w1 = g.W.Write.contents new.writer in
    line_event g.R.Input.can_fail run c.args.feeder.now c.next.new.self w0 w1 c.args.lines.now new.lines c.in-Ok-Some.event new.run gives done.events done.over
    (subst (λ (n : ℕ). Leaves w0 w1 (c.args.lines.now ++ added run.events.items run.is_over n (Ok c.in-Ok-Some.event)) new.lines) c.line-line.ensures done.ok)

pub returns-in_err-keep_event-in-Ok-Some-clause-front : goal.returns-in_err-keep_event-in-Ok-Some-clause-front
returns-in_err-keep_event-in-Ok-Some-clause-front g c =
    let run = c.args.run.now in
    let gives = rw c.in-Ok-Some.field-0-is at c.in-Ok-Some.ensures.event in
    let w0 = g.W.Write.contents c.args.writer.now in
    let w1 = g.W.Write.contents c.keep_event.new.writer in
    on_err_always _ (event_front g.R.Input.can_fail run c.args.feeder.now c.next.new.self w0 w1 c.args.lines.now c.args.lines.now c.in-Ok-Some.event gives
    (subst (λ (n : ℕ). WritesFront w0 w1 (c.args.lines.now ++ added run.events.items run.is_over n (Ok c.in-Ok-Some.event))) c.line-line.ensures c.keep_event.ensures.front))

-- a line whose refusal is written isn't the mark
unmarked : (g : Over) (c : After-write_refusal g) → ¬ IsMark c.in-Err.refusal.fault c.next.new.self.text
unmarked g c marked =
    let yes : c.is_mark.result ≡ true = c.is_mark.ensures.1 (record { refused = marked.refused; says = c.text.ensures ∙ marked.says }) in
    let no = c.if-is_mark.false in absurd (cc)

pub returns-in_err-write_refusal-in-Err-clause-front : goal.returns-in_err-write_refusal-in-Err-clause-front
returns-in_err-write_refusal-in-Err-clause-front g c =
    on_err_always _ (refusal_front g.R.Input.can_fail c.args.run.now c.args.feeder.now c.next.new.self (g.W.Write.contents c.args.writer.now) (g.W.Write.contents c.write_refusal.new.writer) c.args.lines.now
    c.in-Err.refusal c.in-Err.ensures.fault (unmarked g (goal.at.returns-in_err-write_refusal-in-Err-clause-front g c).After-write_refusal) c.in-Err.ensures.last c.write_refusal.ensures.front)

pub returns-in-None-clause-next : goal.returns-in-None-clause-next
returns-in-None-clause-next g c =
    let new = c.write_refusal.new in
    line_refused g.R.Input.can_fail c.args.run.now c.args.feeder.now c.next.new.self (g.W.Write.contents c.args.writer.now) (g.W.Write.contents new.writer) c.args.lines.now new.lines
    c.in-Err.refusal c.in-Err.ensures.fault (sym c.stop.ensures ∙ c.in-None.is) (unmarked g (goal.at.returns-in-None-clause-next g c).After-write_refusal) c.in_ok-write_refusal-in-Err.ensures.ok

pub returns-in-Some-clause-last : goal.returns-in-Some-clause-last
returns-in-Some-clause-last g c =
    let run = c.args.run.now in
    let new = c.write_refusal.new in
    let w0 = g.W.Write.contents c.args.writer.now in
    let w1 = g.W.Write.contents new.writer in
    subst (λ (end : AfterFeed). Known c.args.feeder.now.bytes c.next.new.self.bytes (λ bytes rest. EndsFeed g.R.Input.can_fail run c.args.feeder.now bytes end run rest w0 w1 c.args.lines.now new.lines)) (sym c.after_stop.ensures)
    (line_stopped g.R.Input.can_fail run c.args.feeder.now c.next.new.self w0 w1 c.args.lines.now new.lines
    c.in-Err.refusal c.in-Err.ensures.fault c.in-Some.stop (sym c.stop.ensures ∙ c.in-Some.is) c.in_ok-write_refusal-in-Err.ensures.ok (c.in-Err.ensures.last (rw (sym c.stop.ensures ∙ c.in-Some.is) refl)))
