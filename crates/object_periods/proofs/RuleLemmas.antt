-- The rules by which periods exclude others, in a graph of their lists.
use Rattle.std.proofs.Common.{◌≡◌, ℕ, zero, suc, ◌+◌, ◌<◌, ◌≤◌, List, [], ◌++◌, length, map, get_or, Some, None, refl, sym, ap, subst, ◌∙◌, arith}
use Rattle.std.specs.Prelude.{All, Contains, codes, slice_get}
use Rattle.std.specs.List.{range_with_len}
use Rattle.std.proofs.lemmas.List.Elements.{All-contains, All-map, All-weaker}
use Rattle.std.proofs.lemmas.List.FromFn.{get_or-range_with_len, length-range_with_len}
use Rattle.std.proofs.lemmas.Option.{get_or_from_slice_get, slice_get-get_or, slice_get_within}
use Rattle.graph.specs.declared.edges.Edge.{Edge}
use Rattle.graph.specs.claims.Chains.{Reaches}
use Rattle.graph_rules.specs.declared.rules.Rules.{Rules}
use Rattle.graph_rules.specs.Rules.{AreWithin, DependsBy, edge, HasDependent, HasMaster, IsOfRule}
use Rattle.lemmas.proofs.Elements.{Contains-from_map, Contains-from_range, Contains-map, Contains-range}
use Rattle.lemmas.proofs.Lists.{range_below}
use Rattle.object_groups.specs.declared.lists.Direction.TheVariants.{ToNames}
use Rattle.object_groups.specs.declared.lists.ListNodes.{ListNodes}
use Rattle.object_groups.specs.ListEdges.{edges_at, IsEdge, LeadOver, nodes_at}
use Rattle.object_groups.specs.NodeLaws.{edge-from, edge-to}
use Rattle.object_groups.specs.claims.Objects.{names_in, objects_in}
use Rattle.object_groups.specs.ReachLaws.{list-edge, of-list}
use Rattle.object_periods.specs.claims.Loops.{ExcludesNumber}
use Rattle.object_periods.specs.Loops.{AreExclusions, rule_edge}
use Rattle.object_inheritance.specs.Columns.{Column}
use Rattle.object_periods.specs.claims.Periods.{excluded_at}
use Rattle.object_periods.specs.Periods.{column_of}
use Rattle.object_periods.proofs.ExcludeLemmas.{excluded-within}
use Rattle.object_reader.specs.declared.block.Block.{Block}
use Rattle.object_reader.specs.declared.block.BlockKind.TheVariants.{TimePeriod}

module _ (blocks : List Block) (n : ℕ) (count : n ≡ length (objects_in blocks TimePeriod)) where
  abbrev places : List ℕ
  places = objects_in blocks TimePeriod

  -- the nodes of periods, and of their lists
  abbrev pub list_nodes : ListNodes
  list_nodes = record { direction = ToNames; node = n; first = 0; all = None; count = n + n }

  -- what the list of a period names
  abbrev named : ℕ → List ℕ
  named = nodes_at (names_in blocks TimePeriod) blocks (codes "exclude") places list_nodes

  -- the edges from lists to what they name
  abbrev pub whole : List Edge
  whole = edges_at (names_in blocks TimePeriod) blocks (codes "exclude") places list_nodes

  -- the edges that are made are these
  pub lead-whole : (old edges : List Edge) (names : List (List ℕ)) (column : Column) (ps : List ℕ) (next : ℕ) → old ≡ [] → names ≡ names_in blocks TimePeriod
      → column ≡ column_of blocks (codes "exclude") → ps ≡ places → LeadOver (n + n) (old ++ edges_at names column.blocks column.directive ps list_nodes) next edges
      → LeadOver (n + n) whole next edges
  lead-whole old edges names column ps next none named_so is are lead = subst (λ (es : List Edge). LeadOver (n + n) es next edges)
      (ap (λ (es : List Edge). es ++ edges_at names column.blocks column.directive ps list_nodes) none
      ∙ ap (λ (ns : List (List ℕ)). edges_at ns column.blocks column.directive ps list_nodes) named_so
      ∙ ap (λ (x : Column). edges_at (names_in blocks TimePeriod) x.blocks x.directive ps list_nodes) is
      ∙ ap (λ (xs : List ℕ). edges_at (names_in blocks TimePeriod) blocks (codes "exclude") xs list_nodes) are)
      lead

  named-excludes : (k m : ℕ) → k < n → Contains (named k) m → ExcludesNumber blocks k m
  named-excludes k m few at =
      let place = get_or places k 0 in
      let from = Contains-from_map (λ number. 0 + number) (excluded_at blocks place) m at in
      let is = from.2 in
      let same : from.0 ≡ m = omega (arith, is) in (
        place,
        slice_get-get_or places k 0 (omega (arith, count, few)),
        subst (λ (x : ℕ). Contains (excluded_at blocks place) x) same from.1,
      )

  excludes-named : (k m : ℕ) → ExcludesNumber blocks k m → Contains (named k) m
  excludes-named k m (place, here, on) =
      let is : place ≡ get_or places k 0 = sym (get_or_from_slice_get places k place 0 here) in
      let at : Contains (excluded_at blocks (get_or places k 0)) m = subst (λ (p : ℕ). Contains (excluded_at blocks p) m) is on in
      let same : 0 + m ≡ m = omega arith in
      subst (λ (x : ℕ). Contains (named k) x) same (Contains-map (λ number. 0 + number) (excluded_at blocks (get_or places k 0)) m at)

  excludes-few : (k m : ℕ) → ExcludesNumber blocks k m → (k < n) × (m < n)
  excludes-few k m (place, here, on) =
      let low = slice_get_within places k place here in
      let within = All-contains (λ q. q < length places) (excluded_at blocks place) m (excluded-within blocks place) on in
      (omega (arith, count, low), omega (arith, count, within))

  -- an edge leads from a list to a period
  whole-edge : (p q : ℕ) → IsEdge whole p q → (k : ℕ) × (k < n) × (p ≡ n + k) × Contains (named k) q
  whole-edge p q at =
      let from = list-edge ToNames n (length places) named p q at in
      let few = from.1 in (from.0, omega (arith, count, few), from.2, from.3)

  edge-whole : (k q : ℕ) → k < n → Contains (named k) q → IsEdge whole (n + k) q
  edge-whole k q few at = of-list ToNames n (length places) named k q (omega (arith, count, few)) at

  -- nothing leads on from a period
  stays : (p q : ℕ) → p < n → Reaches (IsEdge whole) p q → p ≡ q
  stays p q low (zero, chain) = chain
  stays p q low (suc steps, (middle, leads, chain)) =
      let from = whole-edge p middle leads in
      let is = from.2 in absurd (omega (arith, low, is))

  leads-on : (k m : ℕ) → k < n → m < n → Reaches (IsEdge whole) (n + k) m → Contains (named k) m
  leads-on k m few low (zero, chain) = absurd (omega (arith, chain, low))
  leads-on k m few low (suc steps, (middle, leads, chain)) =
      let from = whole-edge (n + k) middle leads in
      let is = from.2 in
      let same : from.0 ≡ k = omega (arith, is) in
      let at : Contains (named k) middle = subst (λ (x : ℕ). Contains (named x) middle) same from.3 in
      let within = (excludes-few k middle (named-excludes k middle few at)).1 in
      subst (λ (x : ℕ). Contains (named k) x) (stays middle m within (steps, chain)) at

  -- rules over the nodes of lists
  pub record AreMade (rules : Rules) : Type 0 where
    pub long : rules.count ≡ n
    pub objects : rules.objects.items ≡ range_with_len 0 n
    pub dependents : rules.dependents.items ≡ map (rule_edge 0) (range_with_len 0 n)
    pub masters : rules.masters.items ≡ map (rule_edge n) (range_with_len 0 n)
    pub members : LeadOver (n + n) whole rules.nodes rules.members.items

  own-is : (o own : ℕ) → slice_get (range_with_len 0 n) o ≡ Some own → (o < n) × (own ≡ o)
  own-is o own at =
      let within = slice_get_within (range_with_len 0 n) o own at in
      let long = length-range_with_len 0 n in
      let low : o < n = omega (arith, within, long) in
      let one = get_or_from_slice_get (range_with_len 0 n) o own 0 at in
      let other = get_or-range_with_len 0 n o 0 low in
      (low, omega (arith, one, other))

  is-own : (o : ℕ) → o < n → slice_get (range_with_len 0 n) o ≡ Some o
  is-own o low =
      let long = length-range_with_len 0 n in
      let at = slice_get-get_or (range_with_len 0 n) o 0 (omega (arith, long, low)) in
      let is = get_or-range_with_len 0 n o 0 low in
      let same : get_or (range_with_len 0 n) o 0 ≡ o = omega (arith, is) in at ∙ ap Some same

  -- an edge of a rule
  of-rule : (first : ℕ) (edges : List Edge) (rule node : ℕ) → edges ≡ map (rule_edge first) (range_with_len 0 n) → Contains edges (edge rule node) → (rule < n) × (node ≡ first + rule)
  of-rule first edges rule node are at =
      let from = Contains-from_map (rule_edge first) (range_with_len 0 n) (edge rule node) (subst (λ (es : List Edge). Contains es (edge rule node)) are at) in
      let low = Contains-from_range n from.0 from.1 in
      let one = edge-from from.0 (first + from.0) rule node from.2 in
      let other = edge-to from.0 (first + from.0) rule node from.2 in
      (omega (arith, low, one), omega (arith, one, other))

  has-rule : (first : ℕ) (edges : List Edge) (rule : ℕ) → edges ≡ map (rule_edge first) (range_with_len 0 n) → rule < n → Contains edges (edge rule (first + rule))
  has-rule first edges rule are low =
      subst (λ (es : List Edge). Contains es (edge rule (first + rule))) (sym are) (Contains-map (rule_edge first) (range_with_len 0 n) rule (Contains-range n rule low))

  module _ (rules : Rules) (made : AreMade rules) where
    dependent-is : (rule o : ℕ) → HasDependent rules rule o → (rule ≡ o) × (o < n)
    dependent-is rule o (node, at, (own, has, reaches)) =
        let of = of-rule 0 rules.dependents.items rule node made.dependents at in
        let low = of.0 in
        let there = of.1 in
        let mine = own-is o own (ap (λ (xs : List ℕ). slice_get xs o) (sym made.objects) ∙ has) in
        let few = mine.0 in
        let same = mine.1 in
        let is = stays node own (omega (arith, low, there)) ((made.members.same node own (omega (arith, low, there)) (omega (arith, few, same))).0 reaches) in
        (omega (arith, is, there, same), few)

    master-is : (rule o : ℕ) → HasMaster rules rule o → ExcludesNumber blocks rule o
    master-is rule o (node, at, (own, has, reaches)) =
        let of = of-rule n rules.masters.items rule node made.masters at in
        let low = of.0 in
        let there = of.1 in
        let mine = own-is o own (ap (λ (xs : List ℕ). slice_get xs o) (sym made.objects) ∙ has) in
        let few = mine.0 in
        let same = mine.1 in
        let leads = (made.members.same node own (omega (arith, low, there)) (omega (arith, few, same))).0 reaches in
        let over : Reaches (IsEdge whole) (n + rule) o = subst (λ (x : ℕ). Reaches (IsEdge whole) (n + rule) x) same (subst (λ (x : ℕ). Reaches (IsEdge whole) x own) there leads) in
        named-excludes rule o low (leads-on rule o low few over)

    is-dependent : (rule : ℕ) → rule < n → HasDependent rules rule rule
    is-dependent rule low = (
      0 + rule,
      has-rule 0 rules.dependents.items rule made.dependents low,
      (rule, ap (λ (xs : List ℕ). slice_get xs rule) made.objects ∙ is-own rule low, (0, omega arith)),
    )

    is-master : (rule o : ℕ) → ExcludesNumber blocks rule o → HasMaster rules rule o
    is-master rule o excludes =
        let both = excludes-few rule o excludes in
        let low = both.0 in
        let few = both.1 in (
          n + rule,
          has-rule n rules.masters.items rule made.masters low,
          (
            o,
            ap (λ (xs : List ℕ). slice_get xs o) made.objects ∙ is-own o few,
            (made.members.same (n + rule) o (omega (arith, low)) (omega (arith, few))).1 (1, (o, edge-whole rule o low (excludes-named rule o excludes), refl)),
          ),
        )

    within-rules : (first : ℕ) (edges : List Edge) → edges ≡ map (rule_edge first) (range_with_len 0 n) → first + n ≤ n + n → All (IsOfRule rules.count rules.nodes) edges
    within-rules first edges are fits =
        let more = made.members.more in
        let long = made.long in
        subst (λ (es : List Edge). All (IsOfRule rules.count rules.nodes) es) (sym are)
        (All-map (IsOfRule rules.count rules.nodes) (rule_edge first) (range_with_len 0 n)
        (All-weaker (λ k. k < n) (λ k. IsOfRule rules.count rules.nodes (rule_edge first k))
        (λ k low. record { rule = omega (arith, low, long); node = omega (arith, low, fits, more) })
        (range_with_len 0 n) (range_below n)))

    rules-within : AreWithin rules
    rules-within = let more = made.members.more in record {
      objects = subst (λ (xs : List ℕ). All (λ node. node < rules.nodes) xs) (sym made.objects)
          (All-weaker (λ k. k < n) (λ k. k < rules.nodes) (λ k low. omega (arith, low, more)) (range_with_len 0 n) (range_below n));
      members = made.members.within;
      dependents = within-rules 0 rules.dependents.items made.dependents (omega arith);
      masters = within-rules n rules.masters.items made.masters (omega arith);
    }

    pub are-exclusions : AreExclusions blocks rules
    are-exclusions = record {
      within = rules-within;
      count = made.long ∙ count;
      excludes = λ rule dependent master. (
        (λ (by : DependsBy rules rule dependent master).
            let is = (dependent-is rule dependent by.0).0 in
            (is, subst (λ (k : ℕ). ExcludesNumber blocks k master) is (master-is rule master by.1))),
        (λ both. let is = both.0 in
            let few = (excludes-few dependent master both.1).0 in
            subst (λ (k : ℕ). DependsBy rules k dependent master) (sym is) (is-dependent dependent few, is-master dependent master both.1)),
      );
    }
