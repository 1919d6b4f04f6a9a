use Rattle.std.proofs.Common.{List, subst, sym}
use Rattle.object_faults.specs.declared.load_fault.LoadFault.TheVariants as load
use Rattle.object_inheritance.specs.claims.Faults.{AreFree}
use Rattle.object_reader.specs.declared.block.Block.{Block}
use Rattle.object_resolve.specs.claims.Resolve.{IsRefusal}
use Rattle.site_check.specs.Faults.{AreTold}
use Rattle.site_check.proofs.FaultLemmas.{first-of, templates-told}
use Rattle.site_check.proofs.all_faults.told_of.Goals as goal

pub told_of_templates-requires : goal.told_of_templates-requires
told_of_templates-requires c = subst (λ (bs : List Block). AreFree bs) (sym c.in-Ok.ensures.blocks) c.in-Ok.ensures.free

pub returns-in_ok-sound-in-Ok : goal.returns-in_ok-sound-in-Ok
returns-in_ok-sound-in-Ok c =
    subst (λ (bs : List Block). IsRefusal bs c.args.line c.args.fault → AreTold bs (load.Block c.args.line c.args.fault) c.in_ok-sound-in-Ok.sound.faults.items)
    c.in-Ok.ensures.blocks c.in_ok-sound-in-Ok.ensures

pub returns-in_ok-faulty-in-Err-AtLine : goal.returns-in_ok-faulty-in-Err-AtLine
returns-in_ok-faulty-in-Err-AtLine c refused =
    templates-told c.args.blocks.now _ (load.Block c.args.line c.args.fault) c.in_ok-faulty-in-Err-AtLine.faulty.faults.items _
    (first-of c.args.blocks.now _ _ _ c.in-Err-AtLine.field-0-is c.in-Err-AtLine.ensures.fault) c.in_ok-faulty-in-Err-AtLine.ensures
