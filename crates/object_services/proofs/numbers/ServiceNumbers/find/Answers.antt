use Rattle.std.proofs.Common.{◌<◌, ◌∙◌, IfSome, List, Option, ap, length, subst, sym, ℕ}
use Rattle.object_services.specs.claims.Numbers.{is_pair, Pair, service_number}
use Rattle.lemmas.proofs.Searches.{position-within}
use Rattle.object_services.proofs.numbers.ServiceNumbers.find.Goals as goal

pub returns-clause-place : goal.returns-clause-place
returns-clause-place c =
    c.copied.ensures ∙ c.get.ensures.value ∙ c.self.invariant (c.args.host, c.args.description)
    ∙ ap (λ (pairs : List Pair). service_number pairs c.args.host c.args.description.now) c.self.view_is

pub returns-clause-within : goal.returns-clause-within
returns-clause-within c =
    subst (λ (found : Option ℕ). IfSome found (λ place. place < length c.args.self.now)) (sym (returns-clause-place c))
    (position-within (is_pair c.args.host c.args.description.now) c.args.self.now)
