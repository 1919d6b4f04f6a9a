use Rattle.std.proofs.Common.{◌≡◌, ℕ, ◌+◌, ◌<◌, ◌≤◌, ◌^◌, List, Option, Some, None, Result, Ok, Err, length, sym, ap, ◌∙◌, subst, rules}
use Rattle.text_lines.specs.LineReader.{to_come}
use Rattle.text_lines.specs.claims.Lines.{Known}
use Rattle.journal_text.specs.declared.entry.Entry.{Entry}
use Rattle.journal_text.specs.Entries.{entry_said}
use Rattle.journal_text.specs.Told.{Comes, Reads}
use Rattle.journal_text.proofs.ReadLaws.{comes_first, failed, known_same, many, next, over, stopped}
use Rattle.journal_text.proofs.journal.read_entries.Goals as goal

pub returns-in_err-entry : goal.returns-in_err-entry
returns-in_err-entry g c =
    let given : c.from_residual.result ≡ Err c.in_err-entry.field-0.0 = search rules in
    rw given (stopped g.R.Input.can_fail c.args.config.now c.args.lane (to_come c.args.lines.now) (to_come c.loop-number.lines) (to_come c.read_entry.new.lines)
    c.loop-number.number c.read_entry.new.lines.line c.args.read.now c.loop-number.read c.loop-number.invariant c.loop-number.read c.in_err-entry.field-0.0
    c.in_err-entry.ensures)

pub returns-in_default : goal.returns-in_default
returns-in_default g c =
    over g.R.Input.can_fail c.args.config.now c.args.lane (to_come c.args.lines.now) (to_come c.loop-number.lines) (to_come c.read_entry.new.lines)
    c.loop-number.number c.read_entry.new.lines.line c.args.read.now c.loop-number.read c.loop-number.invariant
    (subst (λ (o : Option Entry). Known (to_come c.loop-number.lines) (to_come c.read_entry.new.lines)
    (λ bytes rest. Reads g.R.Input.can_fail (entry_said c.args.config.now c.args.lane) c.loop-number.number bytes (Ok o) c.read_entry.new.lines.line rest))
    c.in_default.is c.in_ok-entry.ensures)

pub loop-number-preserved : goal.loop-number-preserved
loop-number-preserved g c =
    next g.R.Input.can_fail c.args.config.now c.args.lane (to_come c.args.lines.now) (to_come c.loop-number.lines) (to_come c.read_entry.new.lines)
    c.loop-number.number c.read_entry.new.lines.line c.args.read.now c.loop-number.read c.loop-number.invariant
    c.in-Some.entry c.add.new.self c.count.new.self
    (subst (λ (o : Option Entry). Known (to_come c.loop-number.lines) (to_come c.read_entry.new.lines)
    (λ bytes rest. Reads g.R.Input.can_fail (entry_said c.args.config.now c.args.lane) c.loop-number.number bytes (Ok o) c.read_entry.new.lines.line rest))
    c.in-Some.is c.in_ok-entry.ensures)
    c.in_ok-add.ensures.gains c.in_ok-add.ensures.whole c.in_ok-count.ensures.gains
    (c.in_ok-count.ensures.whole ∙ ap (λ (bytes : List ℕ). c.add.new.self.whole + (length bytes + 1)) c.line.ensures)

pub loop-number-init : goal.loop-number-init
loop-number-init g c = known_same (to_come c.args.lines.now) _ (λ bytes. comes_first c.args.config.now c.args.lane bytes c.args.read.now)

pub returns-in_err-count : goal.returns-in_err-count
returns-in_err-count g c =
    let given : c.from_residual-in_err-count.result ≡ Err c.in_err-count.field-0.0 = search rules in
    rw given (failed g.R.Input.can_fail c.args.config.now c.args.lane (to_come c.args.lines.now) (to_come c.loop-number.lines) (to_come c.read_entry.new.lines)
    c.loop-number.number c.read_entry.new.lines.line c.args.read.now c.loop-number.read c.loop-number.invariant c.count.new.self c.add.new.self
    c.in-Some.entry c.in_err-count.field-0.0
    (subst (λ (o : Option Entry). Known (to_come c.loop-number.lines) (to_come c.read_entry.new.lines)
    (λ bytes rest. Reads g.R.Input.can_fail (entry_said c.args.config.now c.args.lane) c.loop-number.number bytes (Ok o) c.read_entry.new.lines.line rest))
    c.in-Some.is c.in_ok-entry.ensures)
    c.in_ok-add.ensures.whole (λ n same. c.in_err-count.ensures.fault n (ap Err same))
    (λ same. subst (λ (bytes : List ℕ). 2 ^ 64 ≤ c.add.new.self.whole + (length bytes + 1)) c.line.ensures (c.in_err-count.ensures.too_many (ap Err same))))

pub returns : goal.returns
returns g c =
    let more : 4294967296 < c.loop-number.number = search rules in
    many g.R.Input.can_fail c.args.config.now c.args.lane (to_come c.args.lines.now) (to_come c.loop-number.lines) (to_come c.loop-number.lines)
    c.loop-number.number c.loop-number.lines.line c.args.read.now c.loop-number.read c.loop-number.invariant c.loop-number.read more
