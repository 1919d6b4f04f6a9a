use Rattle.std.proofs.Common.{ap₂, ◌∙◌}
use Rattle.std.specs.Option.{option_or}
use Rattle.choice_words.specs.Words.{of_hosts}
use Rattle.choice_words.proofs.word.of_hosts.Goals as goal

pub returns : goal.returns
unfolding of_hosts
returns c =
    c.or-3.ensures ∙ ap₂ option_or
    (c.or-2.ensures ∙ ap₂ option_or (c.or.ensures ∙ ap₂ option_or c.of_field.ensures c.of_field-2.ensures) c.of_field-3.ensures)
    c.of_field-4.ensures
