use Rattle.std.proofs.Common.{subst, sym}
use Rattle.std.specs.Prelude.{ℕ, Option}
use Rattle.object_groups.specs.claims.First.{IsFirst}
use Rattle.object_names.specs.claims.Unknown.{HasUnknown}
use Rattle.object_resolve.specs.claims.Names.{HasUnknownPair, IsUnknownAt}
use Rattle.object_resolve.proofs.NameLemmas.{either-first}
use Rattle.object_resolve.proofs.names.first_unknown.Goals as goal

pub returns-clause-first : goal.returns-clause-first
returns-clause-first c =
    subst (λ (f : Option ℕ). IsFirst (IsUnknownAt c.args.templates.now) f) (sym c.lower.ensures)
    (either-first (HasUnknown c.args.templates.now) (HasUnknownPair c.args.templates.now) c.in_ok-name.name c.in_ok-pair.pair
    c.in_ok-name.ensures c.in_ok-pair.ensures.first)
