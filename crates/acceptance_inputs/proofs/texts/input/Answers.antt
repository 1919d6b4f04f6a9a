use Rattle.std.proofs.Common.{List, ℕ, ◌++◌, ◌∙◌, ap, codes}
use Rattle.acceptance_inputs.proofs.texts.input.Goals as goal

pub returns : goal.returns
returns c = c.in_ok-push_str-2.ensures.bytes ∙ ap (λ (front : List ℕ). front ++ c.args.feed.now) (c.in_ok-push_str.ensures.bytes ∙ ap (λ (front : List ℕ). front ++ codes "%events\n") c.in_ok-text.ensures.ok)
