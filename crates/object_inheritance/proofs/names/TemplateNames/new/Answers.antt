use Rattle.std.proofs.Common.{List, subst, take_all}
use Rattle.object_reader.specs.declared.block.Block.{Block}
use Rattle.object_inheritance.specs.Names.{HasFirsts}
use Rattle.object_inheritance.proofs.names.TemplateNames.new.Goals as goal

pub invariant_of-result : goal.invariant_of-result
invariant_of-result c = record {
  few = c.requires;
  firsts = subst (λ (blocks : List Block). HasFirsts blocks c.loop-place.firsts.entries) (take_all c.loop-place.place c.args.blocks.now c.loop-place-test.false) c.loop-place.invariant;
}
