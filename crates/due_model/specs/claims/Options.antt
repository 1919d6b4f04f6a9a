-- Notification options: sets of letters.
use Rattle.std.specs.Prelude.{true}
use Rattle.due_model.specs.declared.options.OptionLetters.{OptionLetters}

-- the set of every letter
abbrev pub every_letter : OptionLetters
every_letter = record {
  down = true;
  unreachable = true;
  warning = true;
  unknown = true;
  critical = true;
  recovery = true;
  flapping = true;
  downtime = true;
}
