use Rattle.std.proofs.Common.{◌≡◌, ◌++◌}
use Rattle.contact_table.specs.Table.{first_rows}
use Rattle.contact_table.proofs.table.push_firsts.Given as goal

abbrev pub invariant-loop-number : goal.invariant-loop-number
invariant-loop-number l =
    l.text.items ≡ l.fn.text.items ++ first_rows l.form l.a.contacts.now l.a.tallies.now l.b.contacts.now l.b.tallies.now l.number
