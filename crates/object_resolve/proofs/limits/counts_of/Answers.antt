use Rattle.std.proofs.Common.{refl, subst}
use Rattle.std.specs.Prelude.{ℕ, None, Option, Some}
use Rattle.object_groups.specs.claims.First.{IsFirst}
use Rattle.object_resolve.specs.claims.Limits.{PassesOther}
use Rattle.object_resolve.proofs.LimitLemmas.{dependencies-first, no-dependencies, rest-first}
use Rattle.object_resolve.proofs.limits.counts_of.Goals as goal

pub pairs_in-requires-clause-hosts : goal.pairs_in-requires-clause-hosts
pairs_in-requires-clause-hosts c = c.requires.counted.hosts_are

pub over_rest-requires-clause-rest : goal.over_rest-requires-clause-rest
over_rest-requires-clause-rest c =
    rest-first c.args.templates.now (Some c.in-TooMany.place) c.args.other (Some c.least-rest.result)
    (dependencies-first c.args.templates.now c.args.hosts c.in-TooMany.place c.in-TooMany.line c.in-Err.fault c.requires.counted.within c.requires.counted.hosts_are c.in-TooMany.is c.in-Err.ensures.fault)
    c.requires.other c.least-rest.ensures

pub over_rest-requires-in-Some-clause-rest : goal.over_rest-requires-in-Some-clause-rest
over_rest-requires-in-Some-clause-rest c =
    rest-first c.args.templates.now None (Some c.in-Some.rest) (Some c.in-Some.rest)
    (no-dependencies c.args.templates.now c.args.hosts c.in-Ok.pairs c.requires.counted.hosts_are c.in-Ok.ensures.pairs c.in-Ok.ensures.few)
    (subst (λ (f : Option ℕ). IsFirst (PassesOther c.args.templates.now) f) c.in-Some.is c.requires.other) refl

pub counts_with-requires-clause-rest : goal.counts_with-requires-clause-rest
counts_with-requires-clause-rest c =
    rest-first c.args.templates.now None None None
    (no-dependencies c.args.templates.now c.args.hosts c.in-Ok.pairs c.requires.counted.hosts_are c.in-Ok.ensures.pairs c.in-Ok.ensures.few)
    (subst (λ (f : Option ℕ). IsFirst (PassesOther c.args.templates.now) f) c.in-None.is c.requires.other) refl
