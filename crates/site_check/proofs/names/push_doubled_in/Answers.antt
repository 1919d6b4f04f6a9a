use Rattle.object_groups.specs.Names.{is_doubled}
use Rattle.object_groups.specs.claims.Objects.{names_in}
use Rattle.site_check.specs.Faults.{doubled_at}
use Rattle.site_check.proofs.ListLemmas.{numbers-more}
use Rattle.std.proofs.Common.{◌∙◌, List, ap, ℕ}
use Rattle.site_check.proofs.names.push_doubled_in.Goals as goal

pub loop-number-preserved : goal.loop-number-preserved
loop-number-preserved c =
    numbers-more (doubled_at c.args.objects.now.blocks c.args.objects.now.kind) (is_doubled (names_in c.args.objects.now.blocks c.args.objects.now.kind)) c.loop-number.number
    c.args.found.now.items c.loop-number.found.items _ c.is_doubled.result c.loop-number.invariant c.in_ok-push_doubled_at.ensures
    (c.is_doubled.ensures ∙ ap (λ (names : List (List ℕ)). is_doubled names c.loop-number.number) c.names.ensures.names)
