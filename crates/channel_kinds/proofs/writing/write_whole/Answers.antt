use Rattle.std.proofs.Common.{◌∙◌}
use Rattle.written.specs.WrittenLaws.{leaves_rest}
use Rattle.channel_kinds.proofs.writing.write_whole.Goals as goal

pub loop-rest-preserved : goal.loop-rest-preserved
loop-rest-preserved g c =
    (leaves_rest _ _ _ _ _ _ c.loop-rest.invariant.0 c.in-Ok.ensures.bytes, c.write_out.ensures.reads ∙ c.loop-rest.invariant.1)
