use Rattle.std.proofs.Common.{◌≡◌, ◌++◌, sym}
use Rattle.std.proofs.lemmas.List.{take-append-drop}
use Rattle.command_output.proofs.EntryLaws.{written_front, written_more}
use Rattle.command_output.proofs.lines.Lines.write_entries.Goals as goal

pub returns-in_err-write_together-clause-front : goal.returns-in_err-write_together-clause-front
returns-in_err-write_together-clause-front g c =
    let parts : c.loop-rest.rest.now ≡ c.split_at.result.0.now ++ c.split_at.result.1.now =
    rw (c.split_at.ensures.front, c.split_at.ensures.back) (sym (take-append-drop c.min.result c.loop-rest.rest.now)) in
    written_front c.args.config.now _ _ _ c.args.self.now c.args.entries.now _ _ _ _ c.loop-rest.invariant parts c.in_err-write_together.ensures.front

pub loop-rest-preserved : goal.loop-rest-preserved
loop-rest-preserved g c =
    let parts : c.loop-rest.rest.now ≡ c.split_at.result.0.now ++ c.split_at.result.1.now =
    rw (c.split_at.ensures.front, c.split_at.ensures.back) (sym (take-append-drop c.min.result c.loop-rest.rest.now)) in
    written_more c.args.config.now _ _ _ c.args.self.now c.args.entries.now _ _ _ _ _ c.loop-rest.invariant parts c.in_ok-write_together.ensures.ok
