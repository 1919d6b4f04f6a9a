use Rattle.site_check.proofs.FaultLemmas.{names-are}
use Rattle.site_check.proofs.all_faults.told_of_names.Goals as goal

pub returns-clause-names : goal.returns-clause-names
returns-clause-names c =
    names-are c.args.templates.now c.args.objects.now c.blocks-2.result.now c.in_ok-misfits.misfits.items c.as_slice.result.now c.in_ok-found.found.items c.as_slice-2.result.now
    c.in_ok-all.all.items c.in_ok-begun.field-0.items c.args.first c.requires c.in_ok-misfits.ensures.all c.as_slice.ensures.value c.in_ok-found.ensures
    c.blocks-2.ensures.value c.as_slice-2.ensures.value c.in_ok-all.ensures c.in_ok-begun.ensures.begun
