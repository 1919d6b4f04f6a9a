use Rattle.std.proofs.Common.{◌≡◌, List, ℕ, IfSome, arith, refl, sym, subst, ap, ◌∙◌}
use Rattle.text_lines.specs.LineReader.{ReadsLine, ReadsFrom, to_come}
use Rattle.text_lines.specs.claims.Lines.{Known}
use Rattle.text_lines.specs.declared.line_reader.NextLine.{NextLine}
use Rattle.text_lines.specs.declared.line_reader.NextLine.TheVariants.{Line, Long, Over}
use Rattle.text_lines.specs.declared.line_reader.Stop.TheVariants.{InputEnded, CutLine}
use Rattle.world_steps.specs.claims.Views.{world_setup}
use Rattle.trace.specs.Run.{run_state}
use Rattle.event_feed.specs.FeedLaws.{known_weaker}
use Rattle.lemmas.proofs.Results.{on_err_always}
use Rattle.trace.proofs.StepLinesLaws.{known_first, does_short, does_cut, ends_here, ends_cut, line_front, long_front, cut_front}
use Rattle.trace.proofs.step_lines.do_next_line.Given.{Over as Bounds}
use Rattle.trace.proofs.step_lines.do_next_line.Goals.{After-next_line}
use Rattle.trace.proofs.step_lines.do_next_line.Goals as goal

-- what was read, in the case that was met, and of the text that is kept
read : (g : Bounds) (c : After-next_line g) (how : NextLine) (line : List ℕ) → c.next_line.result ≡ how → line ≡ c.next_line.new.self.line
    → Known (to_come c.args.source.now) (to_come c.next_line.new.self) (λ bytes rest. ReadsFrom bytes how line rest)
read g c how line is same =
    subst (λ (l : List ℕ). Known (to_come c.args.source.now) (to_come c.next_line.new.self) (λ bytes rest. ReadsFrom bytes how l rest)) (sym same)
    (subst (λ (h : NextLine). ReadsLine c.args.source.now h c.next_line.new.self) is c.next_line.ensures.line)

-- what follows of the bytes to come
first : (g : Bounds) (c : After-next_line g) (how : NextLine) (line : List ℕ) (Q : List ℕ → Type 0) → c.next_line.result ≡ how → line ≡ c.next_line.new.self.line
    → ((bytes rest : List ℕ) → ReadsFrom bytes how line rest → Q bytes) → IfSome (to_come c.args.source.now) Q
first g c how line Q is same each =
    known_first (to_come c.args.source.now) (to_come c.next_line.new.self) (λ bytes rest. ReadsFrom bytes how line rest) Q each (read g c how line is same)

pub returns-in_ok-do_line-in-Line-clause-next : goal.returns-in_ok-do_line-in-Line-clause-next
returns-in_ok-do_line-in-Line-clause-next g c =
    let run = c.args.run.now in
    let line = c.line.result.now in
    let done = c.in_ok-do_line-in-Line.ensures.ok in
    known_weaker (to_come c.args.source.now) (to_come c.next_line.new.self) (λ bytes rest. ReadsFrom bytes Line line rest) _
    (read g (goal.at.returns-in_ok-do_line-in-Line-clause-next g c).After-next_line Line line c.in-Line.is c.line.ensures)
    (λ bytes rest r. (
      line,
      done.0,
      r.0,
      omega (arith, r.1),
      does_short run.config.now run.deciders (world_setup run.world) c.args.number (run_state run) (run_state c.do_line.new.run) done.0 line r.1 done.1,
      done.2,
    ))

pub returns-in_err-do_line-in-Line-clause-front : goal.returns-in_err-do_line-in-Line-clause-front
returns-in_err-do_line-in-Line-clause-front g c =
    let run = c.args.run.now in
    let line = c.line.result.now in
    on_err_always _ (first g (goal.at.returns-in_err-do_line-in-Line-clause-front g c).After-next_line Line line _ c.in-Line.is c.line.ensures
    (λ bytes rest r. line_front run.config.now run.deciders (world_setup run.world) c.args.number bytes line rest (run_state run) (g.W.Write.contents c.args.writer.now) (g.W.Write.contents c.do_line.new.writer)
    c.args.lines.now r.0 r.1 c.in_err-do_line-in-Line.ensures.front))

pub returns-in_err-refuse-in-Long-clause-front : goal.returns-in_err-refuse-in-Long-clause-front
returns-in_err-refuse-in-Long-clause-front g c =
    let run = c.args.run.now in
    on_err_always _ (first g (goal.at.returns-in_err-refuse-in-Long-clause-front g c).After-next_line Long _ _ c.in-Long.is refl
    (λ bytes rest r. long_front run.config.now run.deciders (world_setup run.world) c.args.number bytes r.0 rest (run_state run) (g.W.Write.contents c.args.writer.now) (g.W.Write.contents c.refuse.new.writer)
    c.args.lines.now r.1 r.2 r.3 c.refuse.ensures.front))

pub returns-in_err-do_line-in-Over-CutLine-clause-front : goal.returns-in_err-do_line-in-Over-CutLine-clause-front
returns-in_err-do_line-in-Over-CutLine-clause-front g c =
    let run = c.args.run.now in
    let line = c.line-in-Over-CutLine.result.now in
    on_err_always _ (first g (goal.at.returns-in_err-do_line-in-Over-CutLine-clause-front g c).After-next_line (Over CutLine) line _
    (c.in-Over-CutLine.is ∙ ap Over c.in-Over-CutLine.field-0-is) c.line-in-Over-CutLine.ensures
    (λ bytes rest r. cut_front run.config.now run.deciders (world_setup run.world) c.args.number bytes line (run_state run) (g.W.Write.contents c.args.writer.now) (g.W.Write.contents c.do_line-in-Over-CutLine.new.writer)
    c.args.lines.now r.0 r.1 r.2 r.3 c.in_err-do_line-in-Over-CutLine.ensures.front))

pub returns-in-Over-InputEnded-clause-last : goal.returns-in-Over-InputEnded-clause-last
returns-in-Over-InputEnded-clause-last g c =
    let run = c.args.run.now in
    first g (goal.at.returns-in-Over-InputEnded-clause-last g c).After-next_line (Over InputEnded) _ _ (c.in-Over-InputEnded.is ∙ ap Over c.in-Over-InputEnded.field-0-is) refl
    (λ bytes rest r. ends_here g.R.Input.can_fail run.config.now run.deciders (world_setup run.world) c.args.number bytes (run_state run) (g.W.Write.contents c.args.writer.now) c.args.lines.now r.0)

pub returns-in_ok-do_line-in-Over-CutLine-clause-last : goal.returns-in_ok-do_line-in-Over-CutLine-clause-last
returns-in_ok-do_line-in-Over-CutLine-clause-last g c =
    let run = c.args.run.now in
    let line = c.line-in-Over-CutLine.result.now in
    let new = c.do_line-in-Over-CutLine.new in
    let done = c.in_ok-do_line-in-Over-CutLine.ensures.ok in
    first g (goal.at.returns-in_ok-do_line-in-Over-CutLine-clause-last g c).After-next_line (Over CutLine) line _
    (c.in-Over-CutLine.is ∙ ap Over c.in-Over-CutLine.field-0-is) c.line-in-Over-CutLine.ensures
    (λ bytes rest r. ends_cut g.R.Input.can_fail run.config.now run.deciders (world_setup run.world) c.args.number bytes (run_state run) (run_state new.run)
    (g.W.Write.contents c.args.writer.now) (g.W.Write.contents new.writer) c.args.lines.now new.lines done.0 r.0 r.1 r.2
    (does_cut run.config.now run.deciders (world_setup run.world) c.args.number (run_state run) (run_state new.run) done.0 bytes line r.3 done.1) done.2)
