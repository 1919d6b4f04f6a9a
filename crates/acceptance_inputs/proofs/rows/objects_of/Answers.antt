use Rattle.std.proofs.Common.{◌∙◌, ◌++◌, map, take, ap, refl}
use Rattle.std.proofs.lemmas.Result.{IfOk-weaker}
use Rattle.due_model.specs.claims.Limits.{max_objects}
use Rattle.acceptance_inputs.specs.Tables.{object_of}
use Rattle.acceptance_inputs.proofs.rows.objects_of.Goals as goal

pub returns : goal.returns
returns c =
    let all = c.in_ok-add_objects.ensures refl ∙ ap (λ front. front ++ map object_of c.args.rows.now) c.new-made.ensures.items in
    IfOk-weaker c.new.result _ _ (λ objects is. is ∙ c.truncate.ensures.items ∙ ap (take max_objects) all) c.new.ensures
