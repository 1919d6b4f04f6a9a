use Rattle.std.proofs.Common.{ap, take, ◌-◌, ◌∙◌}
use Rattle.text_lines.proofs.Ranges.{copied}
use Rattle.text_lines.proofs.line_reader.move_to_front.Goals as goal

pub returns : goal.returns
returns c =
    ap (take (c.args.end - c.args.start)) c.copy_within.ensures.after
    ∙ copied c.args.buffer.now c.args.start c.args.end c.requires.ordered c.requires.within
