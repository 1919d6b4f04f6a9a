use Rattle.std.proofs.Common.{◌≡◌, rules}
use Rattle.written.specs.WrittenLaws.{front_of_held, front_same}
use Rattle.command_output.specs.claims.OutputLine.{entries_text}
use Rattle.command_output.proofs.lines.Lines.write_together.Goals as goal

pub returns-in_err-push-clause-front : goal.returns-in_err-push-clause-front
returns-in_err-push-clause-front g c =
    let text : c.as_slice-made.result.now ≡ entries_text c.args.config.now c.args.entries.now = search rules in
    let view : c.self.inside.buffer ≡ c.args.self.now = search rules in
    front_same _ _ c.self.inside.buffer c.args.self.now _ _ view text c.push.ensures.front

pub returns-clause-front : goal.returns-clause-front
returns-clause-front g c =
    let text : c.as_slice-made.result.now ≡ entries_text c.args.config.now c.args.entries.now = search rules in
    let view : c.self.inside.buffer ≡ c.args.self.now = search rules in
    front_same _ _ c.self.inside.buffer c.args.self.now _ _ view text c.push.ensures.front

pub returns-then-is_err-clause-front : goal.returns-then-is_err-clause-front
returns-then-is_err-clause-front g c =
    let view : c.self.inside.buffer ≡ c.args.self.now = search rules in
    front_of_held _ _ c.self.inside.buffer c.args.self.now _ view c.out_of_memory.ensures.front
