use Rattle.std.proofs.Common.{◌∙◌, sym}
use Rattle.object_pairs.proofs.FoundLemmas.{host-added, host-left}
use Rattle.object_pairs.proofs.wanted.add_if_wanted.Goals as goal

pub returns-in_ok-insert : goal.returns-in_ok-insert
returns-in_ok-insert c =
    host-added c.args.wanted.now.keys c.args.description c.args.host c.args.found.now.keys c.insert.new.self.keys (sym c.contains.ensures ∙ c.if-contains.true) c.in_ok-insert.ensures.updates.0

pub returns-else-contains : goal.returns-else-contains
returns-else-contains c =
    host-left c.args.wanted.now.keys c.args.description c.args.host c.args.found.now.keys (sym c.contains.ensures ∙ c.if-contains.false)
