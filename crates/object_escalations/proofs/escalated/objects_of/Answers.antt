use Rattle.std.proofs.Common.{◌≡◌, ◌<◌, ◌∙◌, List, ap, arith, get_or, length, map, refl, subst}
use Rattle.std.proofs.lemmas.Option.{slice_get_read}
use Rattle.std.proofs.lemmas.Result.{err_from_is_err_and}
use Rattle.object_escalations.specs.claims.Escalated.{SpeaksOf}
use Rattle.object_listing.specs.claims.Listing.{AreThose}
use Rattle.object_reached.specs.Reached.{AreSpokenOf, ReachedOf}
use Rattle.object_reader.specs.declared.block.Block.{Block}
use Rattle.object_escalations.proofs.EscalatedLemmas.{kept-block, refused-block}
use Rattle.object_escalations.proofs.escalated.objects_of.Goals as goal

pub returns-in_err-count-clause-fault : goal.returns-in_err-count-clause-fault
returns-in_err-count-clause-fault c =
    let blocks = c.args.templates.now in
    let lists = c.args.lists.now in
    let i = c.loop-place.place in
    let x = c.block-item.result in
    let items = c.in_ok-objects.objects.items in
    let long = ap (λ (list : List Block). length list) c.blocks-block-items.ensures.value in
    let within : i < length blocks = omega (arith, long, c.loop-place-test.true) in
    let is : x ≡ get_or blocks i x = c.block-item.is ∙ ap (λ (list : List Block). get_or list i x) c.blocks-block-items.ensures.value in
    let spoken : AreThose (SpeaksOf blocks lists i) items =
    (subst (λ (r : ReachedOf). AreSpokenOf r.blocks c.args.services.now r.role i items) c.requires.reached c.in_ok-objects.ensures.objects) lists c.requires.lists
    c.requires.services in
    let p = err_from_is_err_and c.from_residual-in_err-count.result c.from_residual-in_err-count.ensures.1 in
    rw (p.1, p.2) (refused-block blocks lists i x (map (λ list. list.items) c.loop-place.found.items) items c.loop-place.count within (slice_get_read blocks (length blocks) i x refl within is)
    c.loop-place.invariant.far c.loop-place.invariant.low spoken _ c.in_err-count.ensures.fault)

pub loop-place-preserved : goal.loop-place-preserved
loop-place-preserved c =
    let blocks = c.args.templates.now in
    let lists = c.args.lists.now in
    let i = c.loop-place.place in
    let items = c.in_ok-objects.objects.items in
    let spoken : AreThose (SpeaksOf blocks lists i) items =
    (subst (λ (r : ReachedOf). AreSpokenOf r.blocks c.args.services.now r.role i items) c.requires.reached c.in_ok-objects.ensures.objects) lists c.requires.lists
    c.requires.services in
    record {
      same_hosts = c.objects_at.ensures.same_hosts ∙ c.loop-place.invariant.same_hosts;
      same_groups = c.objects_at.ensures.same_groups ∙ c.loop-place.invariant.same_groups;
      far = kept-block blocks lists i (map (λ list. list.items) c.loop-place.found.items) (map (λ list. list.items) c.keep.new.lists.items) items c.loop-place.count _
          c.loop-place.invariant.far spoken c.in_ok-count.ensures.kept;
      low = c.in_ok-count.ensures.kept.low;
    }
