-- The first looped rule is the least node on a loop that is a rule.
use Rattle.std.proofs.Common.{ℕ, ◌<◌, List, Option, None, Some, Result, Ok, Err}
use Rattle.std.specs.Prelude.{Contains, IfNone, IfOk, IfSome, ◌↔◌}
use Rattle.std.specs.declared.alloc.AllocError.{AllocError}
use Rattle.std.proofs.lemmas.List.Elements.{All-contains}
use Rattle.graph.specs.claims.Edges.{Leads}
use Rattle.graph_order.specs.Loops.{HasNoLoopBelow, IsFirstOnLoop}
use Rattle.graph_rules.specs.declared.rules.Rules.{Rules}
use Rattle.graph_rules.specs.Loops.{edges_in, IsLink}
use Rattle.graph_rules.specs.Rules as rules
use Rattle.graph_rules.specs.Rules.{edge, AreWithin, IsFirstLooped, IsLooped, IsOfRule}
use Rattle.graph_rules.proofs.ChainLemmas.{looped-from, looped-to}
use Rattle.graph_rules.proofs.LinkLemmas.{links}

module _ (r : Rules) (within : AreWithin r) (graph : List (List ℕ)) (leads : (x y : ℕ) → Leads graph x y ↔ Contains (edges_in r) (edge x y)) where
  through : (x y : ℕ) → Leads graph x y ↔ IsLink r x y
  through x y = ((λ led. (links r x y).0 ((leads x y).0 led)), (λ link. (leads x y).1 ((links r x y).1 link)))

  rule-below : (rule : ℕ) → IsLooped r rule → rule < r.count
  rule-below rule (d, m, ((node, at, stands), has), chain) = (All-contains (IsOfRule r.count r.nodes) r.dependents.items (edge rule node) within.dependents at).rule

  first-looped : (p : ℕ) → p < r.count → IsFirstOnLoop graph p → IsFirstLooped r p
  first-looped p low is = record {
    looped = looped-from r within (Leads graph) through p low is.on_loop;
    first = λ earlier before looped. is.first earlier before (looped-to r within (Leads graph) through earlier looped);
  }

  pub first-found : (found : Result (Option ℕ) AllocError) → IfOk found (λ f. IfSome f (IsFirstOnLoop graph)) → IfOk found (λ f. IfSome f (λ p. p < r.count)) → IfOk found (λ f. IfSome f (IsFirstLooped r))
  first-found (Ok (Some p)) is low = first-looped p low is
  first-found (Ok None) is low = tt
  first-found (Err e) is low = tt

  pub none-found : (found : Result (Option ℕ) AllocError) → IfOk found (λ f. IfNone f (HasNoLoopBelow graph r.count)) → IfOk found (λ f. IfNone f (rules.HasNoLoop r))
  none-found (Ok None) none = λ rule looped. none rule (rule-below rule looped) (looped-to r within (Leads graph) through rule looped)
  none-found (Ok (Some p)) none = tt
  none-found (Err e) none = tt
