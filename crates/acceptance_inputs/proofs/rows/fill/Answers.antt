use Rattle.std.proofs.Common.{Bool, ◌∙◌, ◌++◌, ap, if◌then◌else◌}
use Rattle.acceptance_inputs.proofs.rows.fill.Goals as goal

pub returns-clause-dependencies : goal.returns-clause-dependencies
returns-clause-dependencies c = λ done.
    let before = c.args.parts.now.dependencies.items in
    c.extend_from_slice.ensures.items ∙ ap (λ (b : Bool). if b then before ++ c.args.rows.now.dependencies.now else before) done
