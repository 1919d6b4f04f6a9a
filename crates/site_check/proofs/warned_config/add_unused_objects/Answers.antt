use Rattle.std.proofs.Common.{◌+◌, ap, length, ℕ, ◌∙◌}
use Rattle.site_check.specs.Warnings.{unused_of}
use Rattle.site_check.proofs.ListLemmas.{sum-more}
use Rattle.site_check.proofs.warned_config.add_unused_objects.Goals as goal

pub loop-kind-preserved : goal.loop-kind-preserved
loop-kind-preserved c =
    sum-more (unused_of c.args.templates.now) c.args.kinds.now c.loop-kind.kind-index _ (length c.args.warned.now.items) (length c.loop-kind.warned.items) _
    c.loop-kind-test.true c.loop-kind.invariant
    (c.in_ok-add_numbers.ensures ∙ ap (λ (n : ℕ). length c.loop-kind.warned.items + n) (ap length c.as_slice.ensures.value ∙ ap length c.in_ok-numbers.ensures))
