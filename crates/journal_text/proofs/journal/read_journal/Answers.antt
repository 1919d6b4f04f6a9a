use Rattle.std.proofs.Common.{◌≡◌, ℕ, ◌+◌, List, [], ◌∷◌, ◌++◌, Option, Some, None, Result, Ok, Err, IfSome, length, sym, ap, ◌∙◌, subst, rules}
use Rattle.due_model.specs.declared.notice.Notice.{Notice}
use Rattle.text_lines.specs.LineReader.{Reading, to_come}
use Rattle.text_lines.specs.claims.Lines.{Known}
use Rattle.journal_text.specs.Entries.{first_said}
use Rattle.journal_text.specs.Told.{IsRead, IsTooMuch, Reads, journal_said}
use Rattle.journal_text.proofs.ReadLaws.{all_read, entry_refused, entry_unreadable, first_refused, first_unreadable, held_none, none_read, same_fault}
use Rattle.journal_text.proofs.journal.read_journal.Goals as goal

pub returns-in_err-from-clause-refused : goal.returns-in_err-from-clause-refused
returns-in_err-from-clause-refused g c = λ n is.
    let given : c.from_residual-in_err-from.result ≡ Err c.in_err-from.field-0.0 = search rules in
    subst (λ (o : Option (List ℕ)). IfSome o (λ bytes. journal_said c.args.config.now c.args.lane bytes ≡ Err n))
    (ap to_come c.in_ok-lines.ensures ∙ held_none (g.R.Read.remaining c.args.reader))
    (first_refused g.R.Input.can_fail c.args.config.now c.args.lane (to_come c.in_ok-lines.lines) (to_come c.read_first.new.lines) c.read_first.new.lines.line
    c.in_err-from.field-0.0 n c.in_err-from.ensures (same_fault c.from_residual-in_err-from.result _ _ given is))

pub returns-in_default-clause-read : goal.returns-in_default-clause-read
returns-in_default-clause-read g c =
    subst (λ (o : Option (List ℕ)). IfSome o (λ bytes. IsRead c.args.config.now c.args.lane bytes c.new-read.result))
    (ap to_come c.in_ok-lines.ensures ∙ held_none (g.R.Read.remaining c.args.reader))
    (none_read g.R.Input.can_fail c.args.config.now c.args.lane (to_come c.in_ok-lines.lines) (to_come c.read_first.new.lines) c.read_first.new.lines.line
    c.new-read.result
    (subst (λ (o : Option ℕ). Known (to_come c.in_ok-lines.lines) (to_come c.read_first.new.lines)
    (λ bytes rest. Reads g.R.Input.can_fail (first_said c.args.config.now c.args.lane) 1 bytes (Ok o) c.read_first.new.lines.line rest))
    c.in_default.is c.in_ok-from.ensures)
    c.new-read.ensures.from c.new-read.ensures.settled c.new-read.ensures.begun c.new-read.ensures.whole)

pub returns-in_err-read_entries-clause-refused : goal.returns-in_err-read_entries-clause-refused
returns-in_err-read_entries-clause-refused g c = λ n is.
    let given : c.from_residual-in_err-read_entries.result ≡ Err c.in_err-read_entries.field-0.0 = search rules in
    subst (λ (o : Option (List ℕ)). IfSome o (λ bytes. journal_said c.args.config.now c.args.lane bytes ≡ Err n))
    (ap to_come c.in_ok-lines.ensures ∙ held_none (g.R.Read.remaining c.args.reader))
    (entry_refused g.R.Input.can_fail c.args.config.now c.args.lane (to_come c.in_ok-lines.lines) (to_come c.read_first.new.lines) c.read_first.new.lines.line
    (to_come c.read_entries.new.lines) c.in-Some.from c.count.new.self c.read_entries.new.read
    (subst (λ (o : Option ℕ). Known (to_come c.in_ok-lines.lines) (to_come c.read_first.new.lines)
    (λ bytes rest. Reads g.R.Input.can_fail (first_said c.args.config.now c.args.lane) 1 bytes (Ok o) c.read_first.new.lines.line rest))
    c.in-Some.is c.in_ok-from.ensures)
    c.in_err-read_entries.field-0.0 n c.in_err-read_entries.ensures (same_fault c.from_residual-in_err-read_entries.result _ _ given is))

pub returns-clause-read : goal.returns-clause-read
returns-clause-read g c =
    subst (λ (o : Option (List ℕ)). IfSome o (λ bytes. IsRead c.args.config.now c.args.lane bytes c.read_entries.new.read))
    (ap to_come c.in_ok-lines.ensures ∙ held_none (g.R.Read.remaining c.args.reader))
    (all_read g.R.Input.can_fail c.args.config.now c.args.lane (to_come c.in_ok-lines.lines) (to_come c.read_first.new.lines) c.read_first.new.lines.line
    (to_come c.read_entries.new.lines) c.in-Some.from c.count.new.self c.read_entries.new.read
    (subst (λ (o : Option ℕ). Known (to_come c.in_ok-lines.lines) (to_come c.read_first.new.lines)
    (λ bytes rest. Reads g.R.Input.can_fail (first_said c.args.config.now c.args.lane) 1 bytes (Ok o) c.read_first.new.lines.line rest))
    c.in-Some.is c.in_ok-from.ensures)
    c.in_ok-read_entries.ensures c.in_ok-count.ensures.gains.from
    (c.in_ok-count.ensures.gains.settled ∙ ap (λ (ns : List Notice). ns ++ []) c.new-read.ensures.settled)
    (c.in_ok-count.ensures.gains.begun ∙ ap (λ (ns : List Notice). ns ++ []) c.new-read.ensures.begun)
    (c.in_ok-count.ensures.whole ∙ ap (λ (n : ℕ). n + (length c.line.result.now + 1)) c.new-read.ensures.whole
    ∙ ap (λ (bytes : List ℕ). 0 + (length bytes + 1)) c.line.ensures))

pub returns-in_err-from-clause-unreadable : goal.returns-in_err-from-clause-unreadable
returns-in_err-from-clause-unreadable g c = λ sure is.
    let given : c.from_residual-in_err-from.result ≡ Err c.in_err-from.field-0.0 = search rules in
    subst (λ (o : Option (List ℕ)). IfSome o (λ bytes. IsTooMuch 0 0 bytes))
    (ap to_come c.in_ok-lines.ensures ∙ held_none (g.R.Read.remaining c.args.reader))
    (first_unreadable g.R.Input.can_fail c.args.config.now c.args.lane (to_come c.in_ok-lines.lines) (to_come c.read_first.new.lines) c.read_first.new.lines.line
    c.in_err-from.field-0.0 c.in_err-from.ensures (same_fault c.from_residual-in_err-from.result _ _ given is) sure)

pub returns-in_err-read_entries-clause-unreadable : goal.returns-in_err-read_entries-clause-unreadable
returns-in_err-read_entries-clause-unreadable g c = λ sure is.
    let given : c.from_residual-in_err-read_entries.result ≡ Err c.in_err-read_entries.field-0.0 = search rules in
    subst (λ (o : Option (List ℕ)). IfSome o (λ bytes. IsTooMuch 0 0 bytes))
    (ap to_come c.in_ok-lines.ensures ∙ held_none (g.R.Read.remaining c.args.reader))
    (entry_unreadable g.R.Input.can_fail c.args.config.now c.args.lane (to_come c.in_ok-lines.lines) (to_come c.read_first.new.lines) c.read_first.new.lines.line
    (to_come c.read_entries.new.lines) c.in-Some.from c.count.new.self c.read_entries.new.read
    (subst (λ (o : Option ℕ). Known (to_come c.in_ok-lines.lines) (to_come c.read_first.new.lines)
    (λ bytes rest. Reads g.R.Input.can_fail (first_said c.args.config.now c.args.lane) 1 bytes (Ok o) c.read_first.new.lines.line rest))
    c.in-Some.is c.in_ok-from.ensures)
    c.in_err-read_entries.field-0.0 c.in_err-read_entries.ensures (same_fault c.from_residual-in_err-read_entries.result _ _ given is) sure
    (c.in_ok-count.ensures.whole ∙ ap (λ (n : ℕ). n + (length c.line.result.now + 1)) c.new-read.ensures.whole
    ∙ ap (λ (bytes : List ℕ). 0 + (length bytes + 1)) c.line.ensures))
