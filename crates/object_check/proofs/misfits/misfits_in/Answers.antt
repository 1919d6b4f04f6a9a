use Rattle.std.proofs.Common.{◌∙◌, ◌++◌, List, ap, length, map, sym}
use Rattle.object_check.specs.Misfits.{is_marked_in, misfits_at}
use Rattle.object_check.specs.declared.misfits.Misfit.{Misfit}
use Rattle.object_check.proofs.MisfitLemmas.{block-more}
use Rattle.object_check.proofs.misfits.misfits_in.Goals as goal

pub loop-place-preserved : goal.loop-place-preserved
loop-place-preserved c =
    c.in_ok-push_misfits.ensures
    ∙ ap (λ (xs : List Misfit). xs ++ misfits_at (λ row at. is_marked_in (map (λ column. column.items) c.args.columns.now) row at) (length c.args.columns.now) c.loop-place.place)
    c.loop-place.invariant
    ∙ sym (block-more (λ row at. is_marked_in (map (λ column. column.items) c.args.columns.now) row at) (length c.args.columns.now) c.loop-place.place)
