use Rattle.std.proofs.Common.{List, subst}
use Rattle.object_reader.specs.declared.block.Block.{Block}
use Rattle.site_check.specs.Warnings.{IsOfConfig}
use Rattle.site_check.proofs.warned_forms.push_of_text.Goals as goal

pub returns-in_ok-count-in-Ok : goal.returns-in_ok-count-in-Ok
returns-in_ok-count-in-Ok c = record {
  blocks = c.in-Ok.blocks;
  text_is = c.in-Ok.ensures.blocks;
  is = subst (λ (bs : List Block). IsOfConfig c.args.form bs c.args.config.now c.in_ok-count-in-Ok.count) c.as_slice.ensures c.in_ok-count-in-Ok.ensures;
}
