use Rattle.std.proofs.Common.{List, subst, take_all}
use Rattle.std.proofs.lemmas.List.{get_or_default}
use Rattle.std.specs.List.{AllZip}
use Rattle.object_settings.specs.Own.{IsHostTaken}
use Rattle.object_settings.specs.declared.own.Own.{Own}
use Rattle.object_settings.proofs.ObjectLemmas.{hosts-more}
use Rattle.object_settings.proofs.objects.hosts_of.Goals as goal

pub loop-own-preserved : goal.loop-own-preserved
loop-own-preserved c =
    hosts-more c.args.owns.now c.loop-own.own-index _ c.in_ok-object.object c.loop-own.objects.items c.push.new.self.items c.loop-own-test.true
    (get_or_default c.args.owns.now c.loop-own.own-index _ _ c.loop-own-test.true)
    c.loop-own.invariant c.in_ok-object.ensures.host c.in_ok-object.ensures.taken c.in_ok-push.ensures.items

pub returns : goal.returns
returns c =
    subst (λ (owns : List Own). AllZip IsHostTaken owns c.loop-own.objects.items) (take_all c.loop-own.own-index c.args.owns.now c.loop-own-test.false) c.loop-own.invariant
