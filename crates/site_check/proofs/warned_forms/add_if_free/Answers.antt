use Rattle.std.proofs.Common.{length}
use Rattle.site_check.proofs.CountLemmas.{faulty-same, free-more}
use Rattle.site_check.proofs.FaultLemmas.{first-of}
use Rattle.site_check.proofs.warned_forms.add_if_free.Goals as goal

pub returns-in_ok-add_of_templates-in-Ok : goal.returns-in_ok-add_of_templates-in-Ok
returns-in_ok-add_of_templates-in-Ok c =
    free-more c.args.form c.args.blocks.now c.in-Ok.templates (length c.args.warned.now.items) (length c.add_of_templates.new.warned.items) c.in-Ok.ensures.free c.in-Ok.ensures.blocks
    c.in_ok-add_of_templates-in-Ok.ensures

pub returns-in-Err-AtLine : goal.returns-in-Err-AtLine
returns-in-Err-AtLine c =
    faulty-same c.args.form c.args.blocks.now _ _ (length c.args.warned.now.items) (first-of c.args.blocks.now _ _ _ c.in-Err-AtLine.field-0-is c.in-Err-AtLine.ensures.fault)
