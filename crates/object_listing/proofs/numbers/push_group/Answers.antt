use Rattle.std.proofs.Common.{◌++◌, ◌∙◌, List, ap, ℕ}
use Rattle.object_groups.specs.claims.Groups.{grouping}
use Rattle.object_groups.specs.claims.Members.{IsMember}
use Rattle.object_listing.proofs.ListedLemmas.{adds-members}
use Rattle.object_listing.proofs.numbers.push_group.Goals as goal

pub returns-clause-added : goal.returns-clause-added
returns-clause-added c =
    adds-members (IsMember (grouping c.args.groups.now.blocks c.args.groups.now.kind) c.args.group) c.args.numbers.now.items c.in_ok-members.members.items _ _
    c.in_ok-members.ensures.members.exactly
    (c.in_ok-push_members.ensures ∙ ap (λ (members : List ℕ). c.args.numbers.now.items ++ members) c.as_slice.ensures.value)
    c.in_ok-shorten.ensures.same
