use Rattle.std.proofs.Common.{subst}
use Rattle.object_escalations.specs.Given.{IsGiven}
use Rattle.object_values.specs.declared.options.OptionKind.{OptionKind}
use Rattle.object_escalations.proofs.GivenLemmas.{block-entries}
use Rattle.object_escalations.proofs.entries.push_block_at.Goals as goal

pub returns : goal.returns
returns c =
    block-entries c.args.tables.now.blocks c.args.place c.args.block.now c.given_at-given.result c.args.objects.now c.args.numbers.now c.args.escalations.now.items c.push_block.new.escalations.items
    c.requires.here
    (subst (λ (kind : OptionKind). IsGiven c.args.tables.now.blocks kind c.args.place c.given_at-given.result) c.list_kind.ensures c.given_at-given.ensures) c.in_ok-push_block.ensures
