use Rattle.std.proofs.Common.{Bor, List, ap, ◌∙◌, ℕ}
use Rattle.std.proofs.lemmas.Result.{IfOk-weaker}
use Rattle.object_groups.specs.Shared.{own_part}
use Rattle.object_service_groups.specs.Pairs.{entries_of}
use Rattle.object_service_groups.proofs.MemberLemmas.{entries-are, list-all, list-none}
use Rattle.object_service_groups.proofs.members.push_list.Goals as goal
use Rattle.object_values.specs.Values.{texts}

pub returns-then-is_some : goal.returns-then-is_some
returns-then-is_some c wholes are =
    let blocks = c.args.values.now.blocks in
    let directive = c.args.values.now.directive in
    let entries = entries_of blocks directive wholes c.args.place c.args.parts in
    let same = entries-are wholes c.args.parts.before c.left_before.result (texts c.in_ok-own.own.items) (texts c.in_ok-entries.entries.items) (own_part blocks directive c.args.place c.args.parts.own)
    (c.left_before.ensures wholes are) c.in_ok-entries.ensures c.in_ok-own.ensures in
    list-none c.args.hosts.now c.args.services.now c.args.parts.before c.args.count c.args.node c.args.edges.now.items c.left_over.result (texts c.as_slice.result.now) entries c.is_some.result c.left_over.ensures
    (ap (λ (es : List (Bor (List ℕ))). texts es) c.as_slice.ensures.value ∙ same) c.is_some.ensures c.if-is_some.true

pub returns : goal.returns
returns c =
    IfOk-weaker c.push_pairs.result _ _
    (λ done pushed wholes are.
    let blocks = c.args.values.now.blocks in
    let directive = c.args.values.now.directive in
    let entries = entries_of blocks directive wholes c.args.place c.args.parts in
    let same = entries-are wholes c.args.parts.before c.left_before.result (texts c.in_ok-own.own.items) (texts c.in_ok-entries.entries.items) (own_part blocks directive c.args.place c.args.parts.own)
    (c.left_before.ensures wholes are) c.in_ok-entries.ensures c.in_ok-own.ensures in
    list-all c.args.hosts.now c.args.services.now c.args.parts.before c.args.count c.args.node c.args.edges.now.items c.push_pairs.new.edges.items c.left_over.result (texts c.as_slice.result.now) entries
    (texts c.as_slice-2.result.now) c.is_some.result c.left_over.ensures (ap (λ (es : List (Bor (List ℕ))). texts es) c.as_slice.ensures.value ∙ same) c.is_some.ensures c.if-is_some.false
    (ap (λ (es : List (Bor (List ℕ))). texts es) c.as_slice-2.ensures.value ∙ same) pushed)
    c.push_pairs.ensures
