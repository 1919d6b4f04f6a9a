use Rattle.std.proofs.Common.{◌≡◌, ◌∙◌, length, map, ap, arith}
use Rattle.std.proofs.lemmas.List.{length-map, take_all}
use Rattle.std.proofs.lemmas.Result.{IfOk-weaker}
use Rattle.due_model.specs.claims.Limits.{max_objects}
use Rattle.acceptance_inputs.specs.Tables.{object_of}
use Rattle.acceptance_inputs.proofs.dependencies.hosts.Goals as goal

pub returns : goal.returns
returns c =
    let all = map object_of c.as_slice.result.now in
    let many : length all ≡ c.args.count = length-map c.as_slice.result.now object_of ∙ c.as_slice.ensures.len ∙ c.in_ok-rows.ensures.len ∙ c.from.ensures in
    IfOk-weaker c.objects_of.result _ _ (λ objects is. ap length (is ∙ take_all max_objects all (omega (arith, many, c.ranges.count.fits))) ∙ many) c.objects_of.ensures
