use Rattle.std.proofs.Common.{◌≡◌, ℕ, List, true, subst, rules}
use Rattle.journal_text.specs.Entries.{first_line, first_said}
use Rattle.journal_text.specs.Lines.{within}
use Rattle.journal_text.specs.Cuts.{IsReadBack}
use Rattle.journal_text.proofs.writing.first_line_of.Goals as goal

pub returns-clause-back : goal.returns-clause-back
returns-clause-back c =
    let line : c.deref.result.now ≡ first_line c.args.config.now c.args.lane c.args.from = search rules in
    let yes : c.says_first.result ≡ true = search rules in
    subst (λ (bytes : List ℕ). IsReadBack bytes (within (first_said c.args.config.now c.args.lane)) c.args.from) line (c.says_first.ensures.yes yes)
