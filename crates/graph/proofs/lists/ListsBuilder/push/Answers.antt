use Rattle.std.proofs.Common.{◌∙◌, ◌+◌, ◌<◌, ◌++◌, ◌∷◌, [], get_or, length, length-set, set, ap, arith}
use Rattle.graph.specs.Lists.{lists_of}
use Rattle.graph.proofs.PushedLemmas.{number-low, lists-push, AreCounts-few, AreCounts-push}
use Rattle.graph.proofs.lists.ListsBuilder.push.Goals as goal

pub overflow_add-number : goal.overflow_add-number
overflow_add-number g c = omega (arith, number-low _ c.self.inside.pushed.items c.args.self.now c.args.number c.self.view_is c.requires, c.self.inside.counts.ok.0)

pub index_mut-requires : goal.index_mut-requires
index_mut-requires g c = omega (arith, number-low _ c.self.inside.pushed.items c.args.self.now c.args.number c.self.view_is c.requires, c.self.inside.counts.ok.0)

pub overflow_add-index_mut : goal.overflow_add-index_mut
overflow_add-index_mut g c =
    let low : c.args.number + 1 < length c.self.inside.counts.items = number-low _ c.self.inside.pushed.items c.args.self.now c.args.number c.self.view_is c.requires in
    omega (arith, AreCounts-few c.self.inside.pushed.items c.self.inside.counts.items c.args.number c.index_mut.result.now c.self.invariant low c.index_mut.ensures.value, c.self.inside.pushed.ok.0, c.in_ok-push.ensures.len)

pub invariant_of-self-2 : goal.invariant_of-self-2
invariant_of-self-2 g c =
    let low : c.args.number + 1 < length c.self.inside.counts.items = number-low _ c.self.inside.pushed.items c.args.self.now c.args.number c.self.view_is c.requires in
    rw c.in_ok-push.ensures.items (AreCounts-push c.self.inside.pushed.items c.self.inside.counts.items (record { number = c.args.number; value = c.args.value }) c.index_mut.result.now low c.index_mut.ensures.value c.self.invariant)

pub returns-clause-pushed : goal.returns-clause-pushed
returns-clause-pushed g c =
    let counts = length c.self.inside.counts.items in
    ap (λ count. lists_of count c.push.new.self.items) (length-set c.self.inside.counts.items (c.args.number + 1) (c.index_mut.result.now + 1))
    ∙ ap (lists_of counts) c.in_ok-push.ensures.items
    ∙ lists-push counts c.self.inside.pushed.items (record { number = c.args.number; value = c.args.value }) (number-low _ c.self.inside.pushed.items c.args.self.now c.args.number c.self.view_is c.requires)
    ∙ ap (λ lists. set lists c.args.number (get_or lists c.args.number [] ++ c.args.value ∷ [])) c.self.view_is
