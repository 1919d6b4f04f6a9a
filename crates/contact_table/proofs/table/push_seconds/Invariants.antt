use Rattle.std.proofs.Common.{◌≡◌, ◌++◌}
use Rattle.contact_table.specs.Table.{second_rows}
use Rattle.contact_table.proofs.table.push_seconds.Given as goal

abbrev pub invariant-loop-number : goal.invariant-loop-number
invariant-loop-number l =
    l.text.items ≡ l.fn.text.items ++ second_rows l.form l.a.contacts.now l.b.contacts.now l.b.tallies.now l.number
