use Rattle.std.proofs.Common.{List, subst, take_all}
use Rattle.object_names.specs.declared.named.NamedKind.{NamedKind}
use Rattle.object_names.specs.Doubled.{IsDoubledAmong}
use Rattle.object_groups.specs.claims.First.{IsFirst}
use Rattle.object_names.proofs.DoubledLemmas.{none-yet, one-more}
use Rattle.object_names.proofs.doubled.first_among.Goals as goal

pub loop-kind-init : goal.loop-kind-init
loop-kind-init c = none-yet c.args.objects.now

pub loop-kind-preserved : goal.loop-kind-preserved
loop-kind-preserved c =
    one-more c.args.objects.now c.args.kinds.now c.loop-kind.kind-index _ c.objects.result.now c.loop-kind.first c.first_of-found.result _ c.loop-kind-test.true c.objects.ensures c.lower-first.ensures
    c.loop-kind.invariant c.first_of-found.ensures

pub returns : goal.returns
returns c =
    subst (λ (kinds : List NamedKind). IsFirst (IsDoubledAmong c.args.objects.now kinds) c.loop-kind.first)
    (take_all c.loop-kind.kind-index c.args.kinds.now c.loop-kind-test.false) c.loop-kind.invariant
