use Rattle.written.specs.WrittenLaws.{leaves_rest}
use Rattle.run_resumed.proofs.journal_lines.write_whole.Goals as goal

pub loop-rest-preserved : goal.loop-rest-preserved
loop-rest-preserved g c = leaves_rest _ _ _ _ _ _ c.loop-rest.invariant c.in-Ok.ensures.bytes
