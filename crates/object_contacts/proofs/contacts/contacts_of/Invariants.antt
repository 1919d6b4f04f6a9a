use Rattle.std.proofs.Common.{take}
use Rattle.std.specs.List.{AllZip}
use Rattle.object_contacts.specs.claims.Contacts.{IsContactOf}
use Rattle.object_contacts.proofs.contacts.contacts_of.Given as goal
use Rattle.object_groups.specs.claims.Objects.{objects_in}
use Rattle.object_reader.specs.declared.block.BlockKind.TheVariants.{Contact}

-- The contacts so far.
abbrev pub invariant-loop-number : goal.invariant-loop-number
invariant-loop-number l = AllZip (IsContactOf l.daemons l.templates l.lanes) (take l.number (objects_in l.templates Contact)) l.made.items
