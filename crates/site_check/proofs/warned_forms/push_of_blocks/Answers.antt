use Rattle.std.proofs.Common.{subst, sym}
use Rattle.site_check.specs.Warnings.{IsOfFaulty}
use Rattle.site_check.proofs.warned_forms.push_of_blocks.Goals as goal

pub returns : goal.returns
returns c = subst (IsOfFaulty c.args.form c.args.blocks.now) (sym c.in_ok-count.ensures) c.in_ok-warned.ensures
