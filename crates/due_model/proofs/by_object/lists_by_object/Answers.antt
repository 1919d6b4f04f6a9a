use Rattle.std.proofs.Common.{◌+◌, ◌++◌, ◌∷◌, ◌∙◌, [], ap, get_or, set, subst, sym, take}
use Rattle.due_model.proofs.ByObjectLemmas.{HasKept, HasKept-more, HasKept-none}
use Rattle.due_model.proofs.by_object.lists_by_object.Goals as goal

pub loop-place-init : goal.loop-place-init
loop-place-init g c = subst (HasKept g.E.ByObject.number g.E.ByObject.kept c.objects_of-objects.result []) (sym c.in_ok-lists.ensures)
    (HasKept-none g.E.ByObject.number g.E.ByObject.kept c.objects_of-objects.result)

pub loop-place-preserved : goal.loop-place-preserved
loop-place-preserved g c =
    let number = g.E.ByObject.number in
    let kept = g.E.ByObject.kept in
    let entries = c.args.entries.now in
    let place = c.loop-place.place in
    let lists = c.loop-place.lists in
    let e = c.index-entries-place.result in
    subst (HasKept number kept c.objects_of-objects.result (take (place + 1) entries))
    (sym (c.in_ok-push.ensures.pushed
    ∙ ap (λ o. set lists o (get_or lists o [] ++ c.kept.result ∷ [])) (c.from.ensures ∙ c.object.ensures)
    ∙ ap (λ x. set lists (number e) (get_or lists (number e) [] ++ x ∷ [])) c.kept.ensures))
    (HasKept-more number kept c.objects_of-objects.result entries place e lists c.loop-place-test.true c.index-entries-place.is c.objects_of-objects.ensures c.loop-place.invariant)
