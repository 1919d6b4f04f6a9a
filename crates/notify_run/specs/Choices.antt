-- Whose rules decide by the words of a command line.
use Rattle.std.specs.Prelude.{List, ℕ, [], map, option_map, unwrap_or, Option}
use Rattle.due_model.specs.declared.config.Choices.{Choices}
use Rattle.choice_words.specs.Words.{at_first, chosen}
use Rattle.command_line.specs.declared.words.ZoneWords.{ZoneWords}

-- the texts of its words, which may be none
abbrev pub choice_texts : ZoneWords → List (List ℕ)
choice_texts words =
    unwrap_or (option_map (λ texts. map (λ text. text.now) texts.now) words.choose) []

-- the choices that they make; none, where one of them says nothing
abbrev pub chosen_by : ZoneWords → Option Choices
chosen_by words = chosen (at_first words.as_nagios words.nagios) (choice_texts words)
