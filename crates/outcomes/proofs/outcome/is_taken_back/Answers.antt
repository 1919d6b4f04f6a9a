use Rattle.std.proofs.Common.{is_some, sym, ◌∙◌}
use Rattle.std.proofs.lemmas.Bool.{and_parts}
use Rattle.due_model.specs.claims.Acknowledgements.{is_removal_of}
use Rattle.outcomes.proofs.OutcomeLemmas.{takes_is}
use Rattle.outcomes.proofs.outcome.is_taken_back.Goals as goal

pub returns-clause-removal : goal.returns-clause-removal
returns-clause-removal c = λ taken.
    let seen = c.args.found.now in
    (and_parts (is_removal_of c.args.object.0 seen.event) (is_some seen.before.acknowledged) (sym c.takes_back.ensures ∙ taken)).0

pub returns-clause-takes : goal.returns-clause-takes
returns-clause-takes c = λ e past says known.
    let seen = c.args.found.now in
    takes_is c.args.object.0 seen.event e past seen.before.acknowledged says known ∙ sym c.takes_back.ensures
