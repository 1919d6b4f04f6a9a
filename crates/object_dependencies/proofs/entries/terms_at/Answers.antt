use Rattle.std.proofs.Common.{◌∙◌, Option, ap}
use Rattle.std.specs.Prelude.{unwrap_or}
use Rattle.due_model.specs.declared.state.StateSet.{StateSet}
use Rattle.object_values.specs.claims.Options.{no_state}
use Rattle.object_dependencies.proofs.EntryLemmas.{terms-are}
use Rattle.object_dependencies.proofs.entries.terms_at.Goals as goal

pub returns : goal.returns
returns c = terms-are c.args.blocks.now.blocks c.args.periods.now c.args.place c.is_on.result c.unwrap_or.result c.period_at.result
    c.args.columns.now.inherits c.args.columns.now.period c.requires.inherits c.requires.period c.is_on.ensures (c.unwrap_or.ensures ∙ ap (λ (found : Option StateSet). unwrap_or found no_state) c.kept_states.ensures) c.period_at.ensures
