use Rattle.std.proofs.Common.{subst, sym}
use Rattle.std.specs.Prelude.{ℕ, Option}
use Rattle.object_groups.specs.claims.First.{IsFirst}
use Rattle.object_pairs.specs.claims.Members.{HasUnknownMember}
use Rattle.object_resolve.specs.claims.Names.{HasUnknownPair}
use Rattle.object_resolve.proofs.NameLemmas.{either-first}
use Rattle.object_resolve.proofs.names.first_unknown_pair.Goals as goal
use Rattle.object_unknown_services.specs.claims.Unknown.{HasUnknownService}

pub returns-clause-first : goal.returns-clause-first
returns-clause-first c =
    subst (λ (f : Option ℕ). IsFirst (HasUnknownPair c.args.templates.now) f) (sym c.lower.ensures)
    (either-first (HasUnknownMember c.args.templates.now) (HasUnknownService c.args.templates.now) c.in_ok-member.member c.in_ok-named.named
    c.in_ok-member.ensures.first c.in_ok-named.ensures.first)
