use Rattle.std.proofs.Common.{◌≡◌, ◌<◌, length, refl, arith}
use Rattle.std.proofs.lemmas.Bool.Decides.{nat_tests}
use Rattle.event_feed.specs.claims.Feed.{feed_limit}
use Rattle.text_lines.specs.declared.line_reader.NextLine.TheVariants.{Line, Long, Over}
use Rattle.event_feed.proofs.Answering.{CountsLine-over, GoesToLine-from, GoesToLine-long, GoesToLine-over, GoesToLine-many, Skips-more, Skips-none, few-last, few-line, few-over, held-none, held-more, held-calls, least-line, many-over}
use Rattle.event_feed.proofs.feeder.next_line.Goals as goal

pub returns-then-not-is_empty-clause-goes : goal.returns-then-not-is_empty-clause-goes
returns-then-not-is_empty-clause-goes g c =
    let some : 0 < length c.next_line.new.self.line = rw (← c.line.ensures) (grind (arith, nat_tests, c.if-not-is_empty.ensures)) in
    GoesToLine-from c.args.lines.now c.loop-read.lines c.next_line.new.self c.args.line.now c.loop-read.read Line c.loop-read.invariant.skips
    c.loop-read-test.true c.in-Line.ensures.line (λ _. some) (λ is. absurd (cc))

pub returns-then-not-is_empty-clause-held : goal.returns-then-not-is_empty-clause-held
returns-then-not-is_empty-clause-held g c =
    held-calls c.args.lines.now c.loop-read.lines c.next_line.new.self Line c.loop-read.invariant.held c.in-Line.ensures.held

pub returns-then-not-is_empty-clause-few : goal.returns-then-not-is_empty-clause-few
returns-then-not-is_empty-clause-few g c =
    few-line c.args.lines.now.calls c.loop-read.lines.calls c.next_line.new.self.calls c.args.line.now c.loop-read.read c.loop-read.invariant.later c.loop-read.invariant.calls c.in-Line.ensures.calls.few

pub returns-then-not-is_empty-clause-many : goal.returns-then-not-is_empty-clause-many
returns-then-not-is_empty-clause-many g c = λ is. absurd (cc)

pub returns-in-Long-clause-goes : goal.returns-in-Long-clause-goes
returns-in-Long-clause-goes g c =
    GoesToLine-long c.args.lines.now c.loop-read.lines c.next_line.new.self c.args.line.now c.loop-read.read c.loop-read.invariant.skips
    c.loop-read-test.true c.in-Long.ensures.line

pub returns-in-Long-clause-held : goal.returns-in-Long-clause-held
returns-in-Long-clause-held g c =
    held-calls c.args.lines.now c.loop-read.lines c.next_line.new.self Long c.loop-read.invariant.held c.in-Long.ensures.held

pub returns-in-Long-clause-few : goal.returns-in-Long-clause-few
returns-in-Long-clause-few g c =
    few-line c.args.lines.now.calls c.loop-read.lines.calls c.next_line.new.self.calls c.args.line.now c.loop-read.read c.loop-read.invariant.later c.loop-read.invariant.calls c.in-Long.ensures.calls.few

pub returns-in-Long-clause-many : goal.returns-in-Long-clause-many
returns-in-Long-clause-many g c = λ is. absurd (cc)

pub returns-in-Over-clause-goes : goal.returns-in-Over-clause-goes
returns-in-Over-clause-goes g c =
    rw c.begun_lines.ensures.lines (GoesToLine-over c.args.lines.now c.loop-read.lines c.next_line.new.self c.args.line.now c.loop-read.read c.in-Over.stop
    c.loop-read.invariant.skips c.loop-read-test.true c.in-Over.ensures.line)

pub returns-in-Over-clause-counts : goal.returns-in-Over-clause-counts
returns-in-Over-clause-counts g c =
    rw c.begun_lines.ensures.lines (CountsLine-over c.args.line.now c.loop-read.read c.in-Over.stop c.loop-read.invariant.later c.loop-read-test.true)

pub returns-in-Over-clause-held : goal.returns-in-Over-clause-held
returns-in-Over-clause-held g c =
    held-calls c.args.lines.now c.loop-read.lines c.next_line.new.self (Over c.in-Over.stop) c.loop-read.invariant.held c.in-Over.ensures.held

pub returns-in-Over-clause-few : goal.returns-in-Over-clause-few
returns-in-Over-clause-few g c =
    rw c.begun_lines.ensures.lines (few-over c.args.lines.now.calls c.loop-read.lines.calls c.next_line.new.self.calls c.args.line.now c.loop-read.read c.in-Over.stop
    c.loop-read.invariant.later c.loop-read.invariant.calls c.in-Over.ensures.calls.few)

pub returns-in-Over-clause-many : goal.returns-in-Over-clause-many
returns-in-Over-clause-many g c =
    many-over c.args.lines.now.calls c.loop-read.lines.calls c.next_line.new.self.calls c.in-Over.stop c.loop-read.invariant.least c.in-Over.ensures.calls.many

pub returns-clause-goes : goal.returns-clause-goes
returns-clause-goes g c =
    let all : c.loop-read.read ≡ feed_limit = omega arith in
    rw c.loop-read.invariant.same (GoesToLine-many c.args.lines.now c.loop-read.lines c.args.line.now c.loop-read.read c.loop-read.invariant.skips all)

pub returns-clause-few : goal.returns-clause-few
returns-clause-few g c =
    rw c.loop-read.invariant.same (few-last c.args.lines.now.calls c.loop-read.lines.calls c.args.line.now c.loop-read.read c.loop-read.invariant.calls)

pub returns-clause-many : goal.returns-clause-many
returns-clause-many g c = λ is. absurd (cc)

pub loop-read-init : goal.loop-read-init
loop-read-init g c = record {
  skips = Skips-none c.args.lines.now c.args.line.now;
  same = refl;
  later = omega arith;
  held = held-none c.args.lines.now;
  calls = omega arith;
  least = omega arith;
}

pub loop-read-preserved : goal.loop-read-preserved
loop-read-preserved g c =
    let none : length c.next_line.new.self.line ≡ 0 = rw (← c.line.ensures) (grind (arith, nat_tests, c.if-not-is_empty.ensures)) in
    record {
      skips = Skips-more c.args.lines.now c.loop-read.lines c.next_line.new.self c.args.line.now c.loop-read.read c.loop-read.invariant.skips
          c.loop-read-test.true c.in-Line.ensures.line none;
      same = refl;
      later = omega (arith, c.loop-read.invariant.later);
      held = held-more c.args.lines.now c.loop-read.lines c.next_line.new.self c.loop-read.invariant.held c.in-Line.ensures.held none;
      calls = few-line c.args.lines.now.calls c.loop-read.lines.calls c.next_line.new.self.calls c.args.line.now c.loop-read.read c.loop-read.invariant.later c.loop-read.invariant.calls
          c.in-Line.ensures.calls.few;
      least = least-line c.args.lines.now.calls c.loop-read.lines.calls c.next_line.new.self.calls c.loop-read.invariant.least c.in-Line.ensures.calls.least;
    }
