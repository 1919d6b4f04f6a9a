use Rattle.std.proofs.Common.{arith}
use Rattle.std.specs.Option.{option_copied}
use Rattle.text_lines.specs.Text.{text_limit}
use Rattle.text_lines.proofs.Marks.{bytes_are_large}
use Rattle.text_lines.proofs.text.is_large.Goals as goal

pub returns-then-bytes-gt-TEXT_LIMIT-clause-large : goal.returns-then-bytes-gt-TEXT_LIMIT-clause-large
returns-then-bytes-gt-TEXT_LIMIT-clause-large c = λ yes more.
    bytes_are_large (option_copied c.args.mark) c.args.bytes.now more c.args.search text_limit c.requires.searched c.requires.all (omega arith) (c.is_longer.ensures.longer yes)
