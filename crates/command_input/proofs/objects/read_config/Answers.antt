use Rattle.std.proofs.Common.{rules}
use Rattle.std.proofs.lemmas.Result.{err_from_is_err_and}
use Rattle.text_lines.specs.LineReader.{to_come}
use Rattle.command_input.proofs.ObjectLaws.{large_text, load_fault}
use Rattle.command_input.proofs.objects.read_config.Goals as goal

pub returns-in_err-load-in-Ok-clause-fault : goal.returns-in_err-load-in-Ok-clause-fault
returns-in_err-load-in-Ok-clause-fault g c =
    let p = err_from_is_err_and c.from_residual.result c.from_residual.ensures.1 in
    rw (p.1, p.2) (load_fault c.args.choices g.R.Input.can_fail _ c.in_err-load-in-Ok.field-0.0 c.in-Ok.text.items (to_come c.args.lines.now) (to_come c.read_text.new.self)
    c.in_err-load-in-Ok.ensures.fault c.in-Ok.ensures.text)

pub returns-in-Err-TooLarge-clause-fault : goal.returns-in-Err-TooLarge-clause-fault
returns-in-Err-TooLarge-clause-fault g c = large_text c.args.choices _ (to_come c.args.lines.now) (c.in-Err-TooLarge.ensures.large (search rules))
