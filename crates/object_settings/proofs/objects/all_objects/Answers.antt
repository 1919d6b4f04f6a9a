use Rattle.std.proofs.Common.{List, subst}
use Rattle.std.specs.List.{AllZip}
use Rattle.object_settings.specs.Own.{IsHostTaken}
use Rattle.object_settings.specs.declared.own.Own.{Own}
use Rattle.object_settings.proofs.ObjectLemmas.{all-objects}
use Rattle.object_settings.proofs.objects.all_objects.Goals as goal

pub returns : goal.returns
returns c =
    all-objects c.args.tables.now.blocks c.args.lists.now c.in_ok-owns.owns.items c.in_ok-objects.objects.items c.push_services.new.objects.items c.in_ok-owns.ensures
    (subst (λ (owns : List Own). AllZip IsHostTaken owns c.in_ok-objects.objects.items) c.as_slice-own.ensures.value c.in_ok-objects.ensures)
    c.in_ok-push_services.ensures
