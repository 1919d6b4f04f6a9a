use Rattle.std.proofs.Common.{None}
use Rattle.std.proofs.lemmas.Result.{IfErr-weaker, IfOk-weaker}
use Rattle.text_lines.specs.LineReader.{to_come}
use Rattle.command_input.specs.InputLaws.{of_input}
use Rattle.command_input.specs.Objects.{GivesText, TextFails}
use Rattle.command_input.proofs.ObjectLaws.{file_of}
use Rattle.command_input.proofs.objects.read_object_file.Goals as goal

pub returns-clause-config : goal.returns-clause-config
returns-clause-config g c =
    let known = g.R.Read.remaining c.args.reader in
    let rest = to_come c.read_config.new.lines in
    IfOk-weaker c.read_config.result _ _
    (λ config gives. file_of c.args.choices config known rest (of_input known c.in_ok-lines.lines (λ k. GivesText None c.args.choices config k rest) c.in_ok-lines.ensures gives))
    c.read_config.ensures.config

pub returns-clause-fault : goal.returns-clause-fault
returns-clause-fault g c =
    IfErr-weaker c.read_config.result _ _
    (λ fault fails. of_input (g.R.Read.remaining c.args.reader) c.in_ok-lines.lines (λ k. TextFails c.args.choices g.R.Input.can_fail None fault k) c.in_ok-lines.ensures fails)
    c.read_config.ensures.fault
