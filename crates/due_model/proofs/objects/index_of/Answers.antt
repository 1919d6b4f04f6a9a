use Rattle.std.proofs.Common.{◌%◌, ap, get_or}
use Rattle.due_model.proofs.ObjectIndex.{IsIndexUpTo-hashed}
use Rattle.due_model.proofs.objects.index_of.Goals as goal

pub loop-number-preserved : goal.loop-number-preserved
loop-number-preserved c =
    let hash = get_or c.args.hashes.now c.loop-number.number 0 in
    rw c.in_ok-push.ensures.pushed
    (IsIndexUpTo-hashed c.args.objects.now c.loop-number.number _ c.args.hashes.now (hash % c.len.result) c.loop-number.invariant c.loop-number-test.true c.requires.hashes
    (ap (λ count. hash % count) c.len.ensures))
