use Rattle.std.proofs.Common.{◌≡◌, map, take, string_bytes}
use Rattle.std.specs.Process.{command_args, command_program}
use Rattle.channel_kinds.proofs.spawned.command_of.Given as goal

abbrev pub invariant-loop-argument : goal.invariant-loop-argument
invariant-loop-argument l =
    (command_program l.command ≡ l.program)
    × (command_args l.command ≡ map string_bytes (take l.argument-index l.arguments))
