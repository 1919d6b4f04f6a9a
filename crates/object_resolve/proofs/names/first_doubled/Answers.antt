use Rattle.std.proofs.Common.{sym, subst}
use Rattle.std.specs.Prelude.{Option, ℕ}
use Rattle.object_groups.specs.claims.First.{IsFirst}
use Rattle.object_resolve.specs.claims.Names.{GivesDoubledService, IsDoubledAt}
use Rattle.object_names.specs.claims.Doubled as names
use Rattle.object_resolve.proofs.NameLemmas.{either-first}
use Rattle.object_resolve.specs.declared.tables.Tables.{Tables}
use Rattle.object_resolve.proofs.names.first_doubled.Goals as goal

pub returns-clause-first : goal.returns-clause-first
returns-clause-first c =
    subst (λ (f : Option ℕ). IsFirst (IsDoubledAt c.args.tables.now.objects.now) f) (sym c.lower.ensures)
    (either-first (names.IsDoubled c.args.tables.now.objects.now) (GivesDoubledService c.args.tables.now.objects.now) c.first_doubled.result c.in_ok-service.service
    (subst (λ (t : Tables). IsFirst (names.IsDoubled t.objects.now) c.first_doubled.result) c.in_ok-service.ensures.same c.first_doubled.ensures)
    c.in_ok-service.ensures.first)
