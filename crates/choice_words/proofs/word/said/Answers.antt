use Rattle.std.proofs.Common.{ap₂, ◌∙◌}
use Rattle.std.specs.Option.{option_or}
use Rattle.choice_words.proofs.word.said.Goals as goal

pub returns : goal.returns
returns c =
    c.or-3.ensures ∙ ap₂ option_or
    (c.or-2.ensures ∙ ap₂ option_or (c.or.ensures ∙ ap₂ option_or c.of_hosts.ensures c.of_receivers.ensures) c.of_waits.ensures)
    c.of_reading.ensures
