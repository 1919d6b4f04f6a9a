use Rattle.std.proofs.Common.{◌∙◌, List, ap, eqb, length, subst, ℕ}
use Rattle.std.specs.Prelude.{◌≢◌, AllPairs}
use Rattle.object_services.proofs.DoubledLemmas.{again-is, found-more}
use Rattle.object_services.proofs.doubled.find_again.Goals as goal

pub returns-clause-again : goal.returns-clause-again
returns-clause-again c =
    ap (λ (hosts : List ℕ). eqb (length c.found.result.now) (length hosts)) c.found-count.ensures.value
    ∙ ap (λ (hosts : List ℕ). eqb (length hosts) (length c.args.seen.now.found)) c.found.ensures.value
    ∙ again-is c.args.seen.now.found c.find.new.self.found c.args.host c.find.ensures.gains (subst (AllPairs (λ p q. p ≢ q)) c.found.ensures.value c.found.ensures.once)

pub returns-clause-found : goal.returns-clause-found
returns-clause-found c = found-more c.args.seen.now.found c.find.new.self.found c.args.host c.find.ensures.gains
