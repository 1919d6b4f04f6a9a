use Rattle.std.proofs.Common.{◌∙◌, get_or, refl, subst, take_all, List, ℕ}
use Rattle.object_groups.specs.claims.Groups.{grouping}
use Rattle.object_groups.specs.Groups.{GroupsOf}
use Rattle.object_groups.specs.claims.Members.{IsMember}
use Rattle.object_listing.specs.Listing.{Adds}
use Rattle.object_listing.proofs.ListedLemmas.{adds-more, adds-none, OfSome}
use Rattle.object_listing.proofs.numbers.push_groups.Goals as goal

pub loop-group-init : goal.loop-group-init
loop-group-init c = record {
  same = refl;
  added = adds-none (IsMember (grouping c.args.groups.now.blocks c.args.groups.now.kind)) c.args.numbers.now.items;
}

pub loop-group-preserved : goal.loop-group-preserved
loop-group-preserved c = record {
  same = c.push_group.ensures.same ∙ c.loop-group.invariant.same;
  added = adds-more (IsMember (grouping c.args.groups.now.blocks c.args.groups.now.kind)) c.args.listed.now c.loop-group.group-index 0 c.args.numbers.now.items c.loop-group.numbers.items c.push_group.new.numbers.items
      c.loop-group-test.true c.loop-group.invariant.added
      (subst (λ (g : GroupsOf). Adds (IsMember (grouping g.blocks g.kind) (get_or c.args.listed.now c.loop-group.group-index 0)) c.loop-group.numbers.items c.push_group.new.numbers.items) c.loop-group.invariant.same c.in_ok-push_group.ensures.added);
}

pub returns-clause-added : goal.returns-clause-added
returns-clause-added c =
    subst (λ (groups : List ℕ). Adds (OfSome (IsMember (grouping c.args.groups.now.blocks c.args.groups.now.kind)) groups) c.args.numbers.now.items c.loop-group.numbers.items)
    (take_all c.loop-group.group-index c.args.listed.now c.loop-group-test.false) c.loop-group.invariant.added
