use Rattle.std.proofs.Common.{refl, sym, subst}
use Rattle.std.specs.Prelude.{◌<◌, List, length, None, Some}
use Rattle.object_groups.specs.claims.First.{IsFirst}
use Rattle.object_reader.specs.declared.block.Block.{Block}
use Rattle.object_resolve.specs.Fault.{IsAmong, IsOfPlace}
use Rattle.object_resolve.specs.claims.Limits.{PassesRest}
use Rattle.object_resolve.specs.Limits.{AreCounted}
use Rattle.object_faults.specs.declared.load_fault.BlockFault.TheVariants.{TooMany}
use Rattle.object_resolve.proofs.LimitLemmas.{few-escalations, no-escalations, over-first, over-refused, over-within}
use Rattle.object_resolve.specs.claims.Resolve.{IsFirstOver}
use Rattle.object_resolve.proofs.limits.over_rest.Goals as goal
use Rattle.object_resolve.proofs.limits.over_rest.Goals.{in-Err, in-Ok}

pub escalated_in-escalated-requires-clause-hosts : goal.escalated_in-escalated-requires-clause-hosts
escalated_in-escalated-requires-clause-hosts c = c.requires.counted.hosts_are

pub over_escalations-requires-clause-counted : goal.over_escalations-requires-clause-counted
over_escalations-requires-clause-counted c =
    subst (λ (bs : List Block). AreCounted bs c.args.hosts.now) (sym c.blocks-blocks.ensures.value) c.requires.counted

pub over_escalations-requires-clause-rest : goal.over_escalations-requires-clause-rest
over_escalations-requires-clause-rest c =
    subst (λ (bs : List Block). IsFirst (PassesRest bs) (Some c.args.rest)) (sym c.blocks-blocks.ensures.value) c.requires.rest

pub of_place-requires : goal.of_place-requires
of_place-requires c =
    subst (λ (bs : List Block). c.args.rest < length bs) (sym c.blocks-blocks.ensures.value)
    (over-within c.args.templates.now c.args.rest
    (over-first c.args.templates.now None None (Some c.args.rest) c.args.rest c.requires.counted.nowhere
    (no-escalations c.one_block_passes.ensures.within c.args.templates.now
    (few-escalations c.args.templates.now c.args.hosts.now c.in-Ok.field-0 c.requires.counted.hosts_are c.in-Ok.ensures.objects c.in-Ok.ensures.few))
    c.requires.rest refl).0)

pub returns-clause-fault : goal.returns-clause-fault
returns-clause-fault c = elim c.match-escalated.branch [
  | in-Err w ↦ rw w.result-is
      (subst (λ (bs : List Block). IsAmong (IsFirstOver bs) w.over_escalations.result) c.blocks-blocks.ensures.value w.over_escalations.ensures)
  | in-Ok w ↦ rw w.result-is
      (over-refused c.args.templates.now c.args.rest w.of_place.result
      (over-first c.args.templates.now None None (Some c.args.rest) c.args.rest c.requires.counted.nowhere
      (no-escalations c.one_block_passes.ensures.within c.args.templates.now
      (few-escalations c.args.templates.now c.args.hosts.now w.in-Ok.field-0 c.requires.counted.hosts_are w.in-Ok.ensures.objects w.in-Ok.ensures.few))
      c.requires.rest refl)
      (subst (λ (bs : List Block). IsOfPlace bs c.args.rest TooMany w.of_place.result) c.blocks-blocks.ensures.value w.of_place.ensures))
]
