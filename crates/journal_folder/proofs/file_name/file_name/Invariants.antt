use Rattle.std.proofs.Common.{◌≡◌, flat_map, take}
use Rattle.journal_folder.specs.FileName.{escaped}
use Rattle.journal_folder.proofs.file_name.file_name.Given as goal

-- the first bytes stand there, as they are or escaped
abbrev pub invariant-loop-byte : goal.invariant-loop-byte
invariant-loop-byte l = l.name.items ≡ flat_map escaped (take l.byte-index l.lane)
