use Rattle.std.proofs.Common.{◌∙◌, List, ap, subst, ℕ}
use Rattle.object_contacts.specs.claims.Lanes.{NamesCommand}
use Rattle.object_contacts.specs.Marks.{Marks}
use Rattle.object_contacts.proofs.lanes.mark_used_at.Goals as goal
use Rattle.object_values.specs.Values.{texts}

pub returns-clause-marked : goal.returns-clause-marked
returns-clause-marked c =
    subst (λ (entries : List (List ℕ)). Marks (NamesCommand c.args.commands.now entries) c.args.marks.now c.mark_used.new.marks)
    (ap texts c.as_slice.ensures.value ∙ c.in_ok-entries.ensures) c.mark_used.ensures.marked
