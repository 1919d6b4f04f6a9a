use Rattle.std.proofs.Common.{◌∙◌, sym}
use Rattle.object_inheritance.proofs.NameLemmas.{firsts-kept, firsts-new}
use Rattle.object_inheritance.proofs.names.note.Goals as goal

pub returns-in_ok-insert : goal.returns-in_ok-insert
returns-in_ok-insert c blocks long has =
    firsts-new blocks c.args.block.now c.args.firsts.now.entries has (c.kind_number.result, c.in-Some.name) c.kind_number.ensures (sym c.in-Some.ensures)
    c.insert.new.self.entries c.args.place (sym c.contains_key.ensures ∙ c.if-not-contains_key.true) long c.in_ok-insert.ensures.updates.0

pub returns-else-not-contains_key : goal.returns-else-not-contains_key
returns-else-not-contains_key c blocks long has =
    firsts-kept blocks c.args.block.now c.args.firsts.now.entries has (c.kind_number.result, c.in-Some.name) c.kind_number.ensures (sym c.in-Some.ensures)
    (sym c.contains_key.ensures ∙ c.if-not-contains_key.false)
