-- Chains of dependencies, and chains in the graph in which loops of rules are found.
use Rattle.std.proofs.Common.{◌≡◌, ℕ, zero, suc, ◌+◌, ◌<◌, refl, sym, ap, subst, ◌⊎◌, inl, inr, arith, ◌∙◌}
use Rattle.std.specs.Prelude.{Contains, Some, slice_get, ◌↔◌}
use Rattle.std.proofs.lemmas.List.Elements.{All-contains}
use Rattle.std.proofs.lemmas.Option.{same_Some, slice_get-get_or}
use Rattle.lemmas.proofs.Chains.{Chain-join}
use Rattle.lemmas.proofs.Elements.{at-Contains}
use Rattle.graph.specs.claims.Chains.{Chain, IsOnLoop, Reaches}
use Rattle.graph.specs.Edges.{IsWithin}
use Rattle.graph_rules.specs.declared.rules.Rules.{Rules}
use Rattle.graph_rules.specs.Loops.{down, IsLink, up}
use Rattle.graph_rules.specs.Rules.{edge, AreWithin, Depends, HasDependent, HasMaster, IsLooped, IsOfRule, LeadsTo, StandsFor}

module _ (r : Rules) (within : AreWithin r) (C : ℕ → ℕ → Type 0) (leads : (x y : ℕ) → C x y ↔ IsLink r x y) where
  member-low : (p q : ℕ) → LeadsTo r p q → IsWithin r.nodes (edge p q)
  member-low p q at = All-contains (IsWithin r.nodes) r.members.items (edge p q) within.members at

  master-low : (rule node : ℕ) → Contains r.masters.items (edge rule node) → IsOfRule r.count r.nodes (edge rule node)
  master-low rule node at = All-contains (IsOfRule r.count r.nodes) r.masters.items (edge rule node) within.masters at

  dependent-low : (rule node : ℕ) → Contains r.dependents.items (edge rule node) → IsOfRule r.count r.nodes (edge rule node)
  dependent-low rule node at = All-contains (IsOfRule r.count r.nodes) r.dependents.items (edge rule node) within.dependents at

  object-low : (own : ℕ) → Contains r.objects.items own → own < r.nodes
  object-low own on = All-contains (λ node. node < r.nodes) r.objects.items own within.objects on

  -- ---- where a step leads

  abbrev ToMaster : (x y : ℕ) → Type 0
  ToMaster x y = (node : ℕ) × Contains r.masters.items (edge x node) × (y ≡ down r node)

  abbrev ToDown : (p y : ℕ) → Type 0
  ToDown p y = (q : ℕ) × LeadsTo r p q × (y ≡ down r q)

  abbrev ToTurn : (p y : ℕ) → Type 0
  ToTurn p y = Contains r.objects.items p × (y ≡ up r p)

  abbrev ToUp : (p y : ℕ) → Type 0
  ToUp p y = (q : ℕ) × LeadsTo r q p × (y ≡ up r q)

  from-rule : (rule y : ℕ) → rule < r.count → C rule y → ToMaster rule y
  from-rule rule y low led = by_link ((leads rule y).0 led)
    where
      by_link : IsLink r rule y → ToMaster rule y
      by_link (inl there) = there
      by_link (inr (inl (p, q, at, from, to))) = absurd (omega (arith, low, from))
      by_link (inr (inr (inl (own, on, from, to)))) = absurd (omega (arith, low, from))
      by_link (inr (inr (inr (inl (p, q, at, from, to))))) = absurd (omega (arith, low, from))
      by_link (inr (inr (inr (inr (node, at, from))))) = absurd (omega (arith, low, from))

  from-down : (p y : ℕ) → p < r.nodes → C (down r p) y → ToDown p y ⊎ ToTurn p y
  from-down p y low led = by_link ((leads (down r p) y).0 led)
    where
      by_link : IsLink r (down r p) y → ToDown p y ⊎ ToTurn p y
      by_link (inl (node, at, to)) = let rule = (master-low (down r p) node at).rule in absurd (omega (arith, rule))
      by_link (inr (inl (a, q, at, from, to))) =
          let same : a ≡ p = omega (arith, from) in
          inl (q, subst (λ n. LeadsTo r n q) same at, to)
      by_link (inr (inr (inl (own, on, from, to)))) =
          let same : own ≡ p = omega (arith, from) in
          inr (subst (λ n. Contains r.objects.items n) same on, subst (λ n. y ≡ up r n) same to)
      by_link (inr (inr (inr (inl (a, q, at, from, to))))) = absurd (omega (arith, low, from))
      by_link (inr (inr (inr (inr (node, at, from))))) = absurd (omega (arith, low, from))

  from-up : (p y : ℕ) → C (up r p) y → ToUp p y ⊎ Contains r.dependents.items (edge y p)
  from-up p y led = by_link ((leads (up r p) y).0 led)
    where
      by_link : IsLink r (up r p) y → ToUp p y ⊎ Contains r.dependents.items (edge y p)
      by_link (inl (node, at, to)) = let rule = (master-low (up r p) node at).rule in absurd (omega (arith, rule))
      by_link (inr (inl (a, q, at, from, to))) = let low = (member-low a q at).from in absurd (omega (arith, low, from))
      by_link (inr (inr (inl (own, on, from, to)))) = let few = object-low own on in absurd (omega (arith, few, from))
      by_link (inr (inr (inr (inl (a, q, at, from, to))))) =
          let same : q ≡ p = omega (arith, from) in
          inl (a, subst (λ n. LeadsTo r a n) same at, to)
      by_link (inr (inr (inr (inr (node, at, from))))) =
          let same : node ≡ p = omega (arith, from) in
          inr (subst (λ n. Contains r.dependents.items (edge y n)) same at)

  -- ---- from a chain of steps to a rule, a chain of dependencies to a dependent of it

  stands-by : (p q o : ℕ) → LeadsTo r p q → StandsFor r q o → StandsFor r p o
  stands-by p q o at (own, is, (steps, chain)) = (own, is, (suc steps, (q, at, chain)))

  module _ (rule : ℕ) (low : rule < r.count) where
    abbrev Leads : (o : ℕ) → Type 0
    Leads o = (d : ℕ) × HasDependent r rule d × Reaches (Depends r) o d

    abbrev FromUp : ℕ → Type 0
    FromUp steps = (p : ℕ) → Chain C steps (up r p) rule → (o : ℕ) → StandsFor r p o → Leads o

    abbrev FromMaster : (s : ℕ) → Type 0
    FromMaster s = (m : ℕ) × HasMaster r s m × Leads m

    abbrev FromRule : ℕ → Type 0
    FromRule steps = (s : ℕ) → s < r.count → Chain C steps s rule → (s ≡ rule) ⊎ FromMaster s

    abbrev FromDown : ℕ → Type 0
    FromDown steps = (p : ℕ) → p < r.nodes → Chain C steps (down r p) rule → (o : ℕ) × StandsFor r p o × Leads o

    up-step : (steps : ℕ) → FromUp steps → FromRule steps → FromUp (suc steps)
    up-step steps before by_rule p (mid, led, rest) o stands = by_end (from-up p mid led)
      where
        by_master : Contains r.dependents.items (edge mid p) → (mid ≡ rule) ⊎ FromMaster mid → Leads o
        by_master at (inl same) = (o, (p, subst (λ n. Contains r.dependents.items (edge n p)) same at, stands), (0, refl))
        by_master at (inr (m, has, (d, is, (more, chain)))) = (d, is, (suc more, (m, (mid, ((p, at, stands), has)), chain)))

        by_end : ToUp p mid ⊎ Contains r.dependents.items (edge mid p) → Leads o
        by_end (inl (q, at, is)) = before q (subst (λ n. Chain C steps n rule) is rest) o (stands-by q p o at stands)
        by_end (inr at) = by_master at (by_rule mid (dependent-low mid p at).rule rest)

    down-step : (steps : ℕ) → FromDown steps → FromUp steps → FromDown (suc steps)
    down-step steps before by_up p few (mid, led, rest) = by_end (from-down p mid few led)
      where
        by_more : (q : ℕ) → LeadsTo r p q → (o : ℕ) × StandsFor r q o × Leads o → (o : ℕ) × StandsFor r p o × Leads o
        by_more q at (o, stands, on) = (o, stands-by p q o at stands, on)

        by_object : Contains r.objects.items p → ((o : ℕ) → StandsFor r p o → Leads o) → (o : ℕ) × StandsFor r p o × Leads o
        by_object (o, few, is) on =
            let stands : StandsFor r p o = (p, slice_get-get_or r.objects.items o p few ∙ ap Some is, (0, refl)) in
            (o, stands, on o stands)

        by_end : ToDown p mid ⊎ ToTurn p mid → (o : ℕ) × StandsFor r p o × Leads o
        by_end (inl (q, at, is)) = by_more q at (before q (member-low p q at).to (subst (λ n. Chain C steps n rule) is rest))
        by_end (inr (at, is)) = by_object at (λ o stands. by_up p (subst (λ n. Chain C steps n rule) is rest) o stands)

    rule-step : (steps : ℕ) → FromDown steps → (s : ℕ) → s < r.count → Chain C (suc steps) s rule → FromMaster s
    rule-step steps by_down s few (mid, led, rest) = by_end (from-rule s mid few led)
      where
        by_more : (node : ℕ) → Contains r.masters.items (edge s node) → (o : ℕ) × StandsFor r node o × Leads o → FromMaster s
        by_more node at (o, stands, on) = (o, (node, at, stands), on)

        by_end : ToMaster s mid → FromMaster s
        by_end (node, at, is) = by_more node at (by_down node (master-low s node at).node (subst (λ n. Chain C steps n rule) is rest))

    abbrev Walks : ℕ → Type 0
    Walks steps = FromUp steps × FromRule steps × FromDown steps

    walk : (steps : ℕ) → Walks steps
    walk zero = ((λ p same o stands. absurd (omega (arith, low, same))), (λ s few same. inl same), (λ p few same. absurd (omega (arith, low, same))))
    walk (suc steps) =
        let before = walk steps in
        (up-step steps before.0 before.1, (λ s few chain. inr (rule-step steps before.2 s few chain)), down-step steps before.2 before.0)

    pub looped-from : IsOnLoop C rule → IsLooped r rule
    looped-from (steps, chain) = by_master (rule-step steps (walk steps).2 rule low chain)
      where
        by_master : FromMaster rule → IsLooped r rule
        by_master (m, has, (d, is, reaches)) = (d, m, (is, has), reaches)

  -- ---- and back

  abbrev Far : (x y : ℕ) → Type 0
  Far x y = (steps : ℕ) × Chain C (suc steps) x y

  far-after : (x y z : ℕ) → Reaches C x y → Far y z → Far x z
  far-after x y z (a, first) (b, second) =
      let sum : a + suc b ≡ suc (a + b) = omega arith in
      (a + b, subst (λ n. Chain C n x z) sum (Chain-join C a (suc b) x y z first second))

  far-on : (x y z : ℕ) → Reaches C x y → C y z → Far x z
  far-on x y z reached led = far-after x y z reached (0, (z, led, refl))

  reached : (x y : ℕ) → Far x y → Reaches C x y
  reached x y (steps, chain) = (suc steps, chain)

  down-on : (steps p q : ℕ) → Chain (LeadsTo r) steps p q → Reaches C (down r p) (down r q)
  down-on zero p q same = (0, ap (λ n. down r n) same)
  down-on (suc steps) p q (mid, at, rest) = by_more (down-on steps mid q rest)
    where
      by_more : Reaches C (down r mid) (down r q) → Reaches C (down r p) (down r q)
      by_more (more, chain) = (suc more, (down r mid, (leads (down r p) (down r mid)).1 (inr (inl (p, mid, at, refl, refl))), chain))

  up-on : (steps p q : ℕ) → Chain (LeadsTo r) steps p q → Reaches C (up r q) (up r p)
  up-on zero p q same = (0, ap (λ n. up r n) (sym same))
  up-on (suc steps) p q (mid, at, rest) =
      reached (up r q) (up r p) (far-on (up r q) (up r mid) (up r p) (up-on steps mid q rest) ((leads (up r mid) (up r p)).1 (inr (inr (inr (inl (p, mid, at, refl, refl)))))))

  -- from an object to a rule of which it is a dependent, and from a rule to an object of its masters
  to-rule : (rule object own : ℕ) → slice_get r.objects.items object ≡ Some own → HasDependent r rule object → Far (down r own) rule
  to-rule rule object own own_is (node, at, (other, other_is, (steps, chain))) =
      let same : other ≡ own = same_Some other own (sym other_is ∙ own_is) in
      let turn = (leads (down r own) (up r own)).1 (inr (inr (inl (own, at-Contains r.objects.items object own own_is, refl, refl)))) in
      let on = (leads (up r node) rule).1 (inr (inr (inr (inr (node, at, refl))))) in
      far-after (down r own) (up r own) rule (1, (up r own, turn, refl))
      (far-on (up r own) (up r node) rule (up-on steps node own (subst (λ n. Chain (LeadsTo r) steps node n) same chain)) on)

  to-master : (rule object : ℕ) → HasMaster r rule object → (own : ℕ) × (slice_get r.objects.items object ≡ Some own) × Reaches C rule (down r own)
  to-master rule object (node, at, (own, own_is, (steps, chain))) = by_more (down-on steps node own chain)
    where
      by_more : Reaches C (down r node) (down r own) → (n : ℕ) × (slice_get r.objects.items object ≡ Some n) × Reaches C rule (down r n)
      by_more (more, rest) = (own, own_is, (suc more, (down r node, (leads rule (down r node)).1 (inl (node, at, refl)), rest)))

  lift : (steps x own d rule : ℕ) → slice_get r.objects.items x ≡ Some own → Chain (Depends r) steps x d → HasDependent r rule d → Far (down r own) rule
  lift zero x own d rule own_is same has = to-rule rule x own own_is (subst (λ n. HasDependent r rule n) (sym same) has)
  lift (suc steps) x own d rule own_is (y, (by, (is, on)), rest) has =
      let there = to-master by y on in
      far-after (down r own) by rule (reached (down r own) by (to-rule by x own own_is is))
      (far-after by (down r there.0) rule there.2 (lift steps y there.0 d rule there.1 rest has))

  pub looped-to : (rule : ℕ) → IsLooped r rule → IsOnLoop C rule
  looped-to rule (d, m, (is, has), (steps, chain)) = by_master (to-master rule m has)
    where
      by_master : (n : ℕ) × (slice_get r.objects.items m ≡ Some n) × Reaches C rule (down r n) → IsOnLoop C rule
      by_master (n, n_is, there) = far-after rule (down r n) rule there (lift steps m n d rule n_is chain is)
