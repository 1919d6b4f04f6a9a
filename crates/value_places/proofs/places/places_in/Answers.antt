use Rattle.std.proofs.Common.{subst}
use Rattle.object_inheritance.specs.Faults.{IsRefusal}
use Rattle.object_inheritance.specs.declared.templates.InheritanceFault.{InheritanceFault}
use Rattle.value_places.proofs.SoundLemmas.{sound-templates}
use Rattle.value_places.proofs.places.places_in.Goals as goal

pub returns-in-Ok : goal.returns-in-Ok
returns-in-Ok c = rw (← c.in-Ok.ensures.blocks) c.places_of.ensures

pub returns-in-Err-AtLine : goal.returns-in-Err-AtLine
returns-in-Err-AtLine c = λ sound. absurd (sound-templates c.args.blocks.now _ _ sound
    (subst (λ (fault : InheritanceFault). IsRefusal c.args.blocks.now fault) c.in-Err-AtLine.field-0-is c.in-Err-AtLine.ensures.fault))
