use Rattle.std.proofs.Common.{◌++◌, ◌∙◌, List, ap, ℕ}
use Rattle.object_service_groups.specs.claims.Groups.{grouping}
use Rattle.object_service_groups.specs.claims.Members.{IsMember}
use Rattle.object_reached.proofs.AddsLemmas.{adds-list}
use Rattle.object_reached.proofs.numbers.push_group.Goals as goal

pub returns-clause-added : goal.returns-clause-added
returns-clause-added c = λ lists are.
    adds-list (IsMember (grouping c.args.groups.now lists)) c.args.group c.args.numbers.now.items c.in_ok-members.members.items _ _
    (c.in_ok-members.ensures.members lists are).exactly
    (c.in_ok-extend_from_slice.ensures.items ∙ ap (λ (members : List ℕ). c.args.numbers.now.items ++ members) c.as_slice.ensures.value)
    c.in_ok-shorten.ensures.same
