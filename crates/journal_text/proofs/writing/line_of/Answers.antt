use Rattle.std.proofs.Common.{◌≡◌, ℕ, List, true, subst, rules}
use Rattle.journal_text.specs.Entries.{body}
use Rattle.journal_text.specs.Told.{line_said}
use Rattle.journal_text.specs.Cuts.{IsReadBack}
use Rattle.journal_text.proofs.writing.line_of.Goals as goal

pub returns-clause-back : goal.returns-clause-back
returns-clause-back c =
    let line : c.deref.result.now ≡ body c.args.config.now c.args.entry = search rules in
    let yes : c.says.result ≡ true = search rules in
    subst (λ (bytes : List ℕ). IsReadBack bytes (line_said c.args.config.now c.args.lane) c.args.entry) line (c.says.ensures.yes yes)
