use Rattle.std.proofs.Common.{ℕ, List, subst}
use Rattle.written.specs.claims.Written.{Writes}
use Rattle.run_resumed.proofs.journal_lines.write_journal_lines.Goals as goal

pub returns : goal.returns
returns g c = (
  c.in_ok-text.text.items,
  c.in_ok-text.ensures,
  subst (λ (bytes : List ℕ). Writes (g.W.Write.contents c.args.writer.now) (g.W.Write.contents c.write_whole.new.writer) bytes) c.deref.ensures.value
      c.in_ok-write_whole.ensures.ok,
)
