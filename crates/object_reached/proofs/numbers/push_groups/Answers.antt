use Rattle.std.proofs.Common.{◌≡◌, ◌∙◌, List, get_or, refl, subst, take, take_all, ℕ}
use Rattle.std.specs.Prelude.{Contains}
use Rattle.std.proofs.lemmas.List.{take_more}
use Rattle.object_reached.specs.Listed.{AddsMembers}
use Rattle.object_reader.specs.declared.block.Block.{Block}
use Rattle.object_service_groups.specs.claims.Groups.{grouping}
use Rattle.object_service_groups.specs.claims.Members.{IsMember}
use Rattle.object_reached.proofs.AddsLemmas.{adds-next, adds-none, adds-of_one}
use Rattle.object_reached.proofs.numbers.push_groups.Goals as goal

pub loop-group-init : goal.loop-group-init
loop-group-init c = record {
  same = refl;
  added = λ lists are. adds-none (IsMember (grouping c.args.groups.now lists)) c.args.numbers.now.items;
}

pub loop-group-preserved : goal.loop-group-preserved
loop-group-preserved c =
    let x = get_or c.args.listed.now c.loop-group.group-index 0 in
    let here : AddsMembers c.args.groups.now (λ other. other ≡ x) c.loop-group.numbers.items c.push_group.new.numbers.items =
    subst (λ (blocks : List Block). AddsMembers blocks (λ other. other ≡ x) c.loop-group.numbers.items c.push_group.new.numbers.items) c.loop-group.invariant.same c.in_ok-push_group.ensures.added in
    record {
      same = c.push_group.ensures.same ∙ c.loop-group.invariant.same;
      added = λ lists are. adds-next (IsMember (grouping c.args.groups.now lists)) (take c.loop-group.group-index c.args.listed.now) _ x c.args.numbers.now.items c.loop-group.numbers.items c.push_group.new.numbers.items
          (take_more c.args.listed.now c.loop-group.group-index 0 c.loop-group-test.true) (c.loop-group.invariant.added lists are)
          (adds-of_one (IsMember (grouping c.args.groups.now lists)) x c.loop-group.numbers.items c.push_group.new.numbers.items (here lists are));
    }

pub returns-clause-added : goal.returns-clause-added
returns-clause-added c =
    subst (λ (groups : List ℕ). AddsMembers c.args.groups.now (Contains groups) c.args.numbers.now.items c.loop-group.numbers.items)
    (take_all c.loop-group.group-index c.args.listed.now c.loop-group-test.false) c.loop-group.invariant.added
