use Rattle.std.proofs.Common.{◌≡◌, Err, drop, rules, suc, sym, take, ◌∙◌}
use Rattle.messages.specs.Entries.{notices_in}
use Rattle.due_feed.proofs.SearchLaws.{notices_split}
use Rattle.due_feed.proofs.looker.show.Goals as goal

pub returns-in_err-see-clause-stopped : goal.returns-in_err-see-clause-stopped
returns-in_err-see-clause-stopped g c = λ is.
    let given : c.from_residual.result ≡ Err c.in_err-see.field-0.0 = search rules in
    record {
      first = notices_in (take c.loop-entry.entry-index c.args.entries.now);
      at = c.in-Sent.notice;
      others = notices_in (drop (suc c.loop-entry.entry-index) c.args.entries.now);
      are = notices_split c.args.entries.now c.loop-entry.entry-index _ c.in-Sent.notice c.in-Sent.is c.loop-entry-test.true;
      middle = c.loop-entry.looker;
      saw_first = c.loop-entry.invariant;
      stopped = c.in_err-see.ensures.stopped (sym given ∙ is);
    }
