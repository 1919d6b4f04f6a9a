use Rattle.std.proofs.Common.{subst}
use Rattle.std.specs.Prelude.{ℕ, Option}
use Rattle.object_groups.specs.claims.First.{IsFirst}
use Rattle.object_services.specs.claims.Doubled as services
use Rattle.object_resolve.proofs.NameLemmas.{first-of_service, no-service}
use Rattle.object_resolve.proofs.names.first_doubled_service.Goals as goal

pub returns-in_default-clause-first : goal.returns-in_default-clause-first
returns-in_default-clause-first c =
    no-service c.args.tables.now.objects.now c.args.tables.now.services.now c.in_ok-number.number c.requires.services_are c.in_default.is c.in_ok-number.ensures.first

pub returns-clause-first : goal.returns-clause-first
returns-clause-first c =
    first-of_service c.args.tables.now.objects.now c.args.tables.now.services.now c.in-Some.number c.objects.result.now c.place_of.result c.requires.services_are
    c.objects.ensures c.place_of.ensures
    (subst (λ (n : Option ℕ). IsFirst (services.IsDoubled c.args.tables.now.services.now) n) c.in-Some.is c.in_ok-number.ensures.first)
