use Rattle.std.proofs.lemmas.Result.{on_ok_weaker}
use Rattle.nagios_text.proofs.LoopLemmas.{two-pushed}
use Rattle.nagios_text.proofs.blocks.push_volatile.Goals as goal

pub returns : goal.returns
returns c =
    on_ok_weaker c.push-2.result (λ last. two-pushed c.args.directives.now.items c.push.new.directives.items c.push-2.new.directives.items c.args.value.now c.looked_at.result.now _ _ c.as_bytes.ensures.value c.as_bytes-2.ensures.value c.looked_at.ensures c.in_ok-push.ensures last) c.push-2.ensures
