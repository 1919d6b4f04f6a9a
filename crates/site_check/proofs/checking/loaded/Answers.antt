use Rattle.std.proofs.Common.{Bool, ap, subst, sym}
use Rattle.due_model.specs.declared.config.Choices.{Choices}
use Rattle.object_resolve.specs.claims.Text.{IsTextOf}
use Rattle.site_check.proofs.checking.loaded.Goals as goal

pub returns-clause-only : goal.returns-clause-only
returns-clause-only c = λ config of.
    c.load.ensures.only config (subst (λ (b : Bool). IsTextOf b config c.args.text.items) (sym (ap (λ (k : Choices). k.text) c.own.ensures)) of)
