use Rattle.std.proofs.Common.{ltb, rules}
use Rattle.std.proofs.lemmas.List.Sorted.{answers_always}
use Rattle.escalation.proofs.InOrderLemmas.{rising_is}
use Rattle.escalation.proofs.in_order.is_in_order.Goals as goal

pub returns : goal.returns
returns c =
    rising_is c.args.contacts.now c.is_sorted_by.result
    (c.is_sorted_by.ensures.cases (λ a b. ltb a.0 b.0) (answers_always _ _ _ (λ f a r f' called. search rules)))
