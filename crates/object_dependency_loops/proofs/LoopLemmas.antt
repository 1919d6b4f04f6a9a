-- The blocks on loops are the rules on loops.
use Rattle.std.proofs.Common.{ℕ, ◌≡◌, List, [], subst}
use Rattle.std.specs.Prelude.{Contains}
use Rattle.graph.specs.declared.edges.Edge.{Edge}
use Rattle.graph_rules.specs.declared.rules.Rules.{Rules}
use Rattle.graph_rules.specs.Rules as rules
use Rattle.lemmas.proofs.Chains.{Chain-map}
use Rattle.lemmas.proofs.Elements.{Contains-none}
use Rattle.object_dependencies.specs.claims.Loops.{Depends, IsLoopedAt}
use Rattle.object_dependencies.specs.Loops.{HasNoDependencyLoop, IsFirstLooped}
use Rattle.object_dependencies.specs.claims.Pairs.{DependsAt}
use Rattle.object_dependencies.specs.Pairs.{BlocksOf}
use Rattle.object_dependency_loops.specs.Places.{AreRulesOf}

module _ (b : BlocksOf) (r : Rules) (are : AreRulesOf b r) where
  by-rule : (place d m : ℕ) → DependsAt b.blocks b.lists place d m → rules.DependsBy r place d m
  by-rule place d m (kept, one, other) = ((are.dependents place d).1 (kept, one), (are.masters place m).1 (kept, other))

  by-block : (place d m : ℕ) → rules.DependsBy r place d m → DependsAt b.blocks b.lists place d m
  by-block place d m (one, other) =
      let dependent = (are.dependents place d).0 one in
      (dependent.0, dependent.1, ((are.masters place m).0 other).1)

  looped-rule : (place : ℕ) → IsLoopedAt b.blocks b.lists place → rules.IsLooped r place
  looped-rule place (d, m, at, (steps, chain)) =
      (d, m, by-rule place d m at, (steps, Chain-map (Depends b.blocks b.lists) (rules.Depends r) (λ p q some. (some.0, by-rule some.0 p q some.1)) steps m d chain))

  looped-block : (place : ℕ) → rules.IsLooped r place → IsLoopedAt b.blocks b.lists place
  looped-block place (d, m, at, (steps, chain)) =
      (d, m, by-block place d m at, (steps, Chain-map (rules.Depends r) (Depends b.blocks b.lists) (λ p q some. (some.0, by-block some.0 p q some.1)) steps m d chain))

  pub first-looped : (place : ℕ) → rules.IsFirstLooped r place → IsFirstLooped b.blocks b.lists place
  first-looped place is = record {
    looped = looped-block place is.looped;
    first = λ earlier before looped. is.first earlier before (looped-rule earlier looped);
  }

  pub none-looped : rules.HasNoLoop r → HasNoDependencyLoop b.blocks b.lists
  none-looped none place looped = none place (looped-rule place looped)

  -- without dependents
  pub none-depends : r.dependents.items ≡ [] → HasNoDependencyLoop b.blocks b.lists
  none-depends empty place (d, m, at, chain) =
      let dependent = (by-rule place d m at).0 in
      Contains-none (rules.edge place dependent.0) (subst (λ (es : List Edge). Contains es (rules.edge place dependent.0)) empty dependent.1)
