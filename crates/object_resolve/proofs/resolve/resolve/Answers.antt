use Rattle.object_resolve.proofs.Refusals.{all-refused_if}
use Rattle.object_resolve.proofs.resolve.resolve.Goals as goal

pub returns-clause-refusal : goal.returns-clause-refusal
returns-clause-refusal c =
    all-refused_if c.args.blocks.now c.in_ok-templates.templates c.resolve_all.result c.in_ok-templates.ensures.blocks c.in_ok-templates.ensures.templates
    c.in_ok-templates.ensures.values c.resolve_all.ensures.fault
