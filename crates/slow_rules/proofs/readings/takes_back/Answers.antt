use Rattle.std.proofs.Common.{Bool, ◌&&◌, is_some, reverse, ap, sym, ◌∙◌}
use Rattle.due_model.specs.claims.Acknowledgements.{acked}
use Rattle.lemmas.proofs.Acknowledgements.{acked_is}
use Rattle.slow_rules.proofs.readings.takes_back.Goals as goal

pub returns-then-removal : goal.returns-then-removal
returns-then-removal c =
    let o = c.args.object.0 in
    let past = reverse c.args.past.now in
    c.is_some-acked.ensures ∙ ap is_some c.acknowledgement.ensures ∙ sym (acked_is o past)
    ∙ ap (λ (b : Bool). b && acked o past) (sym c.if-removal.true ∙ c.is_removal_of-removal.ensures)
