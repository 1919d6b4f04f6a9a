use Rattle.std.proofs.Common.{rules}
use Rattle.std.specs.Option.{option_copied}
use Rattle.text_lines.specs.LineReader.{to_come}
use Rattle.text_lines.proofs.Marks.{front-filled, text-large}
use Rattle.text_lines.proofs.line_reader.LineReader.read_text.Goals as goal

pub returns-in_err-move_held-2-clause-large : goal.returns-in_err-move_held-2-clause-large
returns-in_err-move_held-2-clause-large g c = λ is.
    text-large (option_copied c.args.mark) (to_come c.args.self.now) c.fill.new.self c.loop-call.text.items
    (front-filled (to_come c.args.self.now) c.loop-call.self c.fill.new.self c.loop-call.text.items c.loop-call.invariant.front c.in-More.ensures.bytes)
    (c.in_err-move_held-2.ensures.large (search (rules, is, c.from_residual-in_err-move_held-2.ensures)))
