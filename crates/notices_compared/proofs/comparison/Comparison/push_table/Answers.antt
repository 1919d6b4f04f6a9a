use Rattle.std.proofs.Common.{length}
use Rattle.std.proofs.lemmas.Result.{on_ok_weaker}
use Rattle.notices_compared.proofs.comparison.Comparison.push_table.Goals as goal

pub returns : goal.returns
returns c =
    on_ok_weaker c.push_table.result
    (λ h. λ marks others t t'. rw (
      c.as_slice.ensures,
      c.as_slice-2.ensures,
      c.contacts.ensures c.args.self.now.clock (length c.args.self.now.before.config.now.contacts) marks t,
      c.contacts-2.ensures c.args.self.now.clock (length c.args.self.now.after.config.now.contacts) others t',
    ) at h)
    c.push_table.ensures
