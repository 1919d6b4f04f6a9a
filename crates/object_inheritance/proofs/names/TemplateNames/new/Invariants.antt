use Rattle.std.proofs.Common.{take}
use Rattle.object_inheritance.specs.Names.{HasFirsts}
use Rattle.object_inheritance.proofs.names.TemplateNames.new.Given as goal

-- Where the first templates stand of the blocks so far.
abbrev pub invariant-loop-place : goal.invariant-loop-place
invariant-loop-place l = HasFirsts (take l.place l.blocks) l.firsts.entries
