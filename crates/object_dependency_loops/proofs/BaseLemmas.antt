-- The graph with which all begins: what its nodes lead to.
use Rattle.std.proofs.Common.{◌≡◌, ℕ, Bool, true, zero, suc, ◌+◌, ◌<◌, ◌≤◌, List, [], ◌∷◌, ◌++◌, length, get_or, refl, sym, ap, subst, ◌∙◌, ◌⊎◌, inl, inr, ⊎_elim, arith}
use Rattle.std.specs.Prelude.{All, Contains, ◌↔◌}
use Rattle.std.proofs.lemmas.Bool.{cases_lt}
use Rattle.std.proofs.lemmas.List.{get_or_past}
use Rattle.std.proofs.lemmas.List.Elements.{All-from_get_or, Contains-append_cases, Contains-append_left, Contains-append_right, Contains-get_or}
use Rattle.graph.specs.declared.edges.Edge.{Edge}
use Rattle.graph.specs.claims.Chains.{Chain, Reaches}
use Rattle.graph.specs.claims.Edges.{Leads}
use Rattle.graph.specs.Edges.{IsWithin}
use Rattle.lemmas.proofs.Chains.{Reaches-join}
use Rattle.lemmas.proofs.Elements.{Contains-cases, Contains-from_map, Contains-here, Contains-map, Contains-none}
use Rattle.object_dependencies.specs.Pairs.{BlocksOf}
use Rattle.object_dependency_loops.specs.declared.base.Firsts.{Firsts}
use Rattle.object_dependency_loops.specs.Base.{AreServiceNodes, base_edges, graph_edges, host_count, IsBase, moved_ends, service_count, turn_edges}
use Rattle.object_dependency_loops.proofs.ReachLemmas.{reaches-step}
use Rattle.object_groups.specs.declared.groups.GroupKind.TheVariants.{HostGroups}
use Rattle.object_groups.specs.declared.lists.Direction.TheVariants.{ToNames}
use Rattle.object_groups.specs.claims.Groups.{grouping}
use Rattle.object_groups.specs.ListEdges.{edge, IsEdge, LeadOver}
use Rattle.object_groups.specs.claims.Members.{IsMember}
use Rattle.object_groups.specs.Nodes.{LeadsToMembers}
use Rattle.object_groups.specs.claims.Objects.{names_in}
use Rattle.object_groups.specs.ReachLaws.{list-edge, of-list}
use Rattle.object_reader.specs.declared.block.BlockKind.TheVariants.{HostGroup, ServiceGroup}
use Rattle.object_service_groups.specs.claims.Groups.{grouping as service_grouping}
use Rattle.object_service_groups.specs.Groups.{LeadsToMembers as LeadsToServices}
use Rattle.object_service_groups.specs.Nodes.{first_group}
use Rattle.object_service_groups.specs.claims.Members.{IsMember as IsServiceMember}

-- ---- the edges of a graph whose nodes are moved

leads-within : (graph : List (List ℕ)) (p q : ℕ) → Leads graph p q → p < length graph
leads-within graph p q led = ⊎_elim
    (λ (low : p < length graph). low)
    (λ (past : length graph ≤ p). absurd (Contains-none q (subst (λ (ends : List ℕ). Contains ends q) (get_or_past graph p [] past) led)))
    (cases_lt p (length graph))

graph-edge : (by : ℕ) (graph : List (List ℕ)) (from to : ℕ) → IsEdge (graph_edges by graph) from to → (p : ℕ) × (q : ℕ) × Leads graph p q × (p < length graph) × (from ≡ by + p) × (to ≡ by + q)
graph-edge by graph from to at =
    let on = list-edge ToNames by (length graph) (moved_ends by graph) from to at in
    let end = Contains-from_map (λ end. by + end) (get_or graph on.0 []) to on.3 in
    (on.0, end.0, end.1, on.1, on.2, sym end.2)

edge-graph : (by : ℕ) (graph : List (List ℕ)) (p q : ℕ) → Leads graph p q → IsEdge (graph_edges by graph) (by + p) (by + q)
edge-graph by graph p q led =
    of-list ToNames by (length graph) (moved_ends by graph) p (by + q) (leads-within graph p q led) (Contains-map (λ end. by + end) (get_or graph p []) q led)

turn-edge : (start end count from to : ℕ) → IsEdge (turn_edges start end count) from to → (k : ℕ) × (k < count) × (from ≡ start + k) × (to ≡ end + k)
turn-edge start end count from to at =
    let on = list-edge ToNames start count (λ k. (end + k) ∷ []) from to at in
    (on.0, on.1, on.2, ⊎_elim (λ (here : end + on.0 ≡ to). sym here) (λ (later : Contains [] to). absurd (Contains-none to later)) (Contains-cases (end + on.0) to [] on.3))

edge-turn : (start end count k : ℕ) → k < count → IsEdge (turn_edges start end count) (start + k) (end + k)
edge-turn start end count k few = of-list ToNames start count (λ j. (end + j) ∷ []) k (end + k) few (Contains-here (end + k) [])

-- ---- all edges

module _ (hosts services turned : ℕ) (hg sg : List (List ℕ)) (host_few : hosts ≤ length hg) (turned_few : turned ≤ services) (service_few : turned ≤ length sg)
    (host_closed : (p q : ℕ) → Leads hg p q → q < length hg) (service_closed : (p q : ℕ) → Leads sg p q → q < length sg) where
  abbrev first : ℕ
  first = hosts + services

  abbrev second : ℕ
  second = hosts + services + length hg

  abbrev last : ℕ
  last = hosts + services + length hg + length sg

  abbrev edges : List Edge
  edges = base_edges hosts services turned hg sg

  abbrev one : List Edge
  one = graph_edges first hg

  abbrev two : List Edge
  two = turn_edges first 0 hosts

  abbrev three : List Edge
  three = graph_edges second sg

  abbrev four : List Edge
  four = turn_edges second hosts turned

  -- what an edge is
  abbrev Link : ℕ → ℕ → Type 0
  Link from to = ((p : ℕ) × (q : ℕ) × Leads hg p q × (p < length hg) × (from ≡ first + p) × (to ≡ first + q))
      ⊎ (((k : ℕ) × (k < hosts) × (from ≡ first + k) × (to ≡ 0 + k))
      ⊎ (((p : ℕ) × (q : ℕ) × Leads sg p q × (p < length sg) × (from ≡ second + p) × (to ≡ second + q))
      ⊎ ((k : ℕ) × (k < turned) × (from ≡ second + k) × (to ≡ hosts + k))))

  link : (from to : ℕ) → IsEdge edges from to → Link from to
  link from to at = ⊎_elim
      (λ (before : IsEdge ((one ++ two) ++ three) from to). ⊎_elim
      (λ (start : IsEdge (one ++ two) from to). ⊎_elim
      (λ (on : IsEdge one from to). inl (graph-edge first hg from to on))
      (λ (on : IsEdge two from to). inr (inl (turn-edge first 0 hosts from to on)))
      (Contains-append_cases one two (edge from to) start))
      (λ (on : IsEdge three from to). inr (inr (inl (graph-edge second sg from to on))))
      (Contains-append_cases (one ++ two) three (edge from to) before))
      (λ (on : IsEdge four from to). inr (inr (inr (turn-edge second hosts turned from to on))))
      (Contains-append_cases ((one ++ two) ++ three) four (edge from to) at)

  of-one : (from to : ℕ) → IsEdge one from to → IsEdge edges from to
  of-one from to at = Contains-append_left ((one ++ two) ++ three) four (edge from to) (Contains-append_left (one ++ two) three (edge from to) (Contains-append_left one two (edge from to) at))

  of-two : (from to : ℕ) → IsEdge two from to → IsEdge edges from to
  of-two from to at = Contains-append_left ((one ++ two) ++ three) four (edge from to) (Contains-append_left (one ++ two) three (edge from to) (Contains-append_right one two (edge from to) at))

  of-three : (from to : ℕ) → IsEdge three from to → IsEdge edges from to
  of-three from to at = Contains-append_left ((one ++ two) ++ three) four (edge from to) (Contains-append_right (one ++ two) three (edge from to) at)

  of-four : (from to : ℕ) → IsEdge four from to → IsEdge edges from to
  of-four from to at = Contains-append_right ((one ++ two) ++ three) four (edge from to) at

  edge-within : (e : Edge) → Contains edges e → IsWithin last e
  edge-within e at = by_link (link e.from e.to at)
    where
      by_link : Link e.from e.to → IsWithin last e
      by_link (inl (p, q, led, low, from, to)) = let end = host_closed p q led in record { from = omega (arith, low, from); to = omega (arith, end, to) }
      by_link (inr (inl (k, low, from, to))) = record { from = omega (arith, low, from, host_few); to = omega (arith, low, to) }
      by_link (inr (inr (inl (p, q, led, low, from, to)))) = let end = service_closed p q led in record { from = omega (arith, low, from); to = omega (arith, end, to) }
      by_link (inr (inr (inr (k, low, from, to)))) = record { from = omega (arith, low, from, service_few); to = omega (arith, low, to, turned_few) }

  pub base-within : All (IsWithin last) edges
  base-within = All-from_get_or (IsWithin last) edges (edge 0 0) (λ i low. edge-within (get_or edges i (edge 0 0)) (Contains-get_or edges i (edge 0 0) low))

  module _ (object : ℕ) (there : object < first) where
    abbrev AtHost : ℕ → Type 0
    AtHost p = (object < hosts) × Reaches (Leads hg) p object

    abbrev AtService : ℕ → Type 0
    AtService p = (s : ℕ) × (s < turned) × (object ≡ hosts + s) × Reaches (Leads sg) p s

    -- what it means that a node leads to the object
    record Means (node : ℕ) : Type 0 where
      pub at_object : node < first → node ≡ object
      pub at_host : (p : ℕ) → p < length hg → node ≡ first + p → AtHost p
      pub at_service : (p : ℕ) → p < length sg → node ≡ second + p → AtService p

    means_itself : Means object
    means_itself = record {
      at_object = λ low. refl;
      at_host = λ p low is. absurd (omega (arith, there, is));
      at_service = λ p low is. absurd (omega (arith, there, is));
    }

    means_host : (node p : ℕ) → p < length hg → node ≡ first + p → AtHost p → Means node
    means_host node p low is means = record {
      at_object = λ below. absurd (omega (arith, below, is));
      at_host = λ q few same. let alike : p ≡ q = omega (arith, is, same) in subst AtHost alike means;
      at_service = λ q few same. absurd (omega (arith, low, is, same));
    }

    means_service : (node p : ℕ) → p < length sg → node ≡ second + p → AtService p → Means node
    means_service node p low is means = record {
      at_object = λ below. absurd (omega (arith, below, is));
      at_host = λ q few same. absurd (omega (arith, few, is, same));
      at_service = λ q few same. let alike : p ≡ q = omega (arith, is, same) in subst AtService alike means;
    }

    means_step : (from to : ℕ) → Link from to → Means to → Means from
    means_step from to (inl (p, q, led, low, is, at)) means =
        let end = means.at_host q (host_closed p q led) at in
        means_host from p low is (end.0, reaches-step (Leads hg) p q object led end.1)
    means_step from to (inr (inl (k, low, is, at))) means =
        let same : to ≡ object = means.at_object (omega (arith, low, at)) in
        let alike : k ≡ object = omega (arith, same, at) in
        means_host from k (omega (arith, low, host_few)) is (omega (arith, low, alike), (0, alike))
    means_step from to (inr (inr (inl (p, q, led, low, is, at)))) means =
        let end = means.at_service q (service_closed p q led) at in
        means_service from p low is (end.0, end.1, end.2, reaches-step (Leads sg) p q end.0 led end.3)
    means_step from to (inr (inr (inr (k, low, is, at)))) means =
        let same : to ≡ object = means.at_object (omega (arith, low, at, turned_few)) in
        means_service from k (omega (arith, low, service_few)) is (k, low, omega (arith, same, at), (0, refl))

    means_chain : (steps node : ℕ) → Chain (IsEdge edges) steps node object → Means node
    means_chain zero node chain = subst Means (sym chain) means_itself
    means_chain (suc steps) node (middle, leads, chain) = means_step node middle (link node middle leads) (means_chain steps middle chain)

    lift_host : (steps p q : ℕ) → Chain (Leads hg) steps p q → Reaches (IsEdge edges) (first + p) (first + q)
    lift_host zero p q chain = (0, ap (λ (n : ℕ). first + n) chain)
    lift_host (suc steps) p q (middle, leads, chain) =
        reaches-step (IsEdge edges) (first + p) (first + middle) (first + q) (of-one (first + p) (first + middle) (edge-graph first hg p middle leads)) (lift_host steps middle q chain)

    lift_service : (steps p q : ℕ) → Chain (Leads sg) steps p q → Reaches (IsEdge edges) (second + p) (second + q)
    lift_service zero p q chain = (0, ap (λ (n : ℕ). second + n) chain)
    lift_service (suc steps) p q (middle, leads, chain) =
        reaches-step (IsEdge edges) (second + p) (second + middle) (second + q) (of-three (second + p) (second + middle) (edge-graph second sg p middle leads)) (lift_service steps middle q chain)

    pub object-reach : (p : ℕ) → p < first → Reaches (IsEdge edges) p object → p ≡ object
    object-reach p low reaches = (means_chain reaches.0 p reaches.1).at_object low

    pub host-reach : (p : ℕ) → p < length hg → Reaches (IsEdge edges) (first + p) object ↔ AtHost p
    host-reach p low = (
      (λ reaches. (means_chain reaches.0 (first + p) reaches.1).at_host p low refl),
      (λ at. Reaches-join (IsEdge edges) (first + p) (first + object) object (lift_host at.1.0 p object at.1.1)
          (1, (object, subst (λ (n : ℕ). IsEdge edges (first + object) n) (omega arith) (of-two (first + object) (0 + object) (edge-turn first 0 hosts object at.0)), refl))),
    )

    pub service-reach : (p : ℕ) → p < length sg → Reaches (IsEdge edges) (second + p) object ↔ AtService p
    service-reach p low = (
      (λ reaches. (means_chain reaches.0 (second + p) reaches.1).at_service p low refl),
      (λ at. Reaches-join (IsEdge edges) (second + p) (second + at.0) object (lift_service at.3.0 p at.0 at.3.1)
          (1, (object, subst (λ (n : ℕ). IsEdge edges (second + at.0) n) (sym at.2) (of-four (second + at.0) (hosts + at.0) (edge-turn second hosts turned at.0 at.1)), refl))),
    )

-- ---- the base

module _ (b : BlocksOf) (has : Bool) (turned begin : ℕ) (hg sg : List (List ℕ)) (host_closed : (p q : ℕ) → Leads hg p q → q < length hg) (service_closed : (p q : ℕ) → Leads sg p q → q < length sg)
    (host_leads : LeadsToMembers (grouping b.blocks HostGroups) hg) (service_nodes : AreServiceNodes b has sg turned begin) where
  abbrev h : ℕ
  h = host_count b

  abbrev s : ℕ
  s = service_count b

  abbrev g : ℕ
  g = length (names_in b.blocks HostGroup)

  turned_few : turned ≤ s
  turned_few = service_nodes.few

  service_less : turned ≤ length sg
  service_less = service_nodes.services_within

  abbrev es : List Edge
  es = base_edges h s turned hg sg

  host_all : h + g + 3 ≤ length hg
  host_all = host_leads.count

  host_less : h ≤ length hg
  host_less = let all = host_all in omega (arith, all)

  service_all : has ≡ true → begin + length (names_in b.blocks ServiceGroup) ≤ length sg
  service_all is = let all = (service_nodes.leads is).count in let begins = service_nodes.first_is is in omega (arith, all, begins)

  from_first : (object p : ℕ) → object < h + s → p < length hg → (node : ℕ) → node ≡ h + s + p → Reaches (IsEdge es) node object ↔ ((object < h) × Reaches (Leads hg) p object)
  from_first object p there low node is =
      subst (λ (n : ℕ). Reaches (IsEdge es) n object ↔ ((object < h) × Reaches (Leads hg) p object)) (sym is)
      (host-reach h s turned hg sg host_less turned_few service_less host_closed service_closed object there p low)

  from_second : (object p : ℕ) → object < h + s → p < length sg → (node : ℕ) → node ≡ h + s + length hg + p
      → Reaches (IsEdge es) node object ↔ ((k : ℕ) × (k < turned) × (object ≡ h + k) × Reaches (Leads sg) p k)
  from_second object p there low node is =
      subst (λ (n : ℕ). Reaches (IsEdge es) n object ↔ ((k : ℕ) × (k < turned) × (object ≡ h + k) × Reaches (Leads sg) p k)) (sym is)
      (service-reach h s turned hg sg host_less turned_few service_less host_closed service_closed object there p low)

  pub base-is : (firsts : Firsts) (count : ℕ) (made : List Edge) → firsts.objects ≡ h + s → firsts.hosts ≡ h + s → firsts.all_hosts ≡ h + s + h + g → firsts.host_groups ≡ h + s + h
      → firsts.all_groups ≡ h + s + h + g + 1 → firsts.has_groups ≡ has → firsts.service_groups ≡ h + s + length hg + begin → count ≡ h + s + length hg + length sg → made ≡ es → IsBase b firsts count made
  base-is firsts count made objects_is hosts_is all_hosts_is groups_is all_groups_is has_is service_groups_is count_is made_is =
      let all_hosts = host_all in
      let less = host_less in
      subst (λ (edges : List Edge). IsBase b firsts count edges) (sym made_is) (record {
        objects_are = objects_is;
        few = omega (arith, objects_is, count_is);
        hosts_few = omega (arith, hosts_is, count_is, less);
        all_hosts_few = omega (arith, all_hosts_is, count_is, all_hosts);
        groups_few = omega (arith, groups_is, count_is, all_hosts);
        all_groups_few = omega (arith, all_groups_is, count_is, all_hosts);
        service_groups_few = λ given. let here = sym has_is ∙ given in let all_services = service_all here in omega (arith, service_groups_is, count_is, all_services);
        within = subst (λ (n : ℕ). All (IsWithin n) es) (sym count_is) (base-within h s turned hg sg host_less turned_few service_less host_closed service_closed);
        object = λ p object low there reaches. object-reach h s turned hg sg host_less turned_few service_less host_closed service_closed object (omega (arith, there, objects_is)) p (omega (arith, low, objects_is)) reaches;
        host = λ k object low there.
            let at = from_first object k (omega (arith, there, objects_is)) (omega (arith, low, less)) (firsts.hosts + k) (omega (arith, hosts_is)) in (
              (λ (reaches : Reaches (IsEdge es) (firsts.hosts + k) object). let on = at.0 reaches in host_leads.objects k object low on.0 on.1),
              (λ (same : k ≡ object). at.1 (omega (arith, same, low), (0, same))),
            );
        all_hosts = λ object there.
            let at = from_first object (h + g) (omega (arith, there, objects_is)) (omega (arith, all_hosts)) firsts.all_hosts (omega (arith, all_hosts_is)) in (
              (λ (reaches : Reaches (IsEdge es) firsts.all_hosts object). (at.0 reaches).0),
              (λ (low : object < h). at.1 (low, host_leads.every object low)),
            );
        host_group = λ group object low there.
            let at = from_first object (h + group) (omega (arith, there, objects_is)) (omega (arith, low, all_hosts)) (firsts.host_groups + group) (omega (arith, groups_is)) in (
              (λ (reaches : Reaches (IsEdge es) (firsts.host_groups + group) object). let on = at.0 reaches in (on.0, (host_leads.groups group object low on.0).0 on.1)),
              (λ (both : (object < h) × IsMember (grouping b.blocks HostGroups) group object). at.1 (both.0, (host_leads.groups group object low both.0).1 both.1)),
            );
        all_groups = λ object there.
            let at = from_first object (h + g + 1) (omega (arith, there, objects_is)) (omega (arith, all_hosts)) firsts.all_groups (omega (arith, all_groups_is)) in (
              (λ (reaches : Reaches (IsEdge es) firsts.all_groups object). let on = at.0 reaches in (on.0, (host_leads.some object on.0).0 on.1)),
              (λ (both : (object < h) × ((group : ℕ) × (group < g) × IsMember (grouping b.blocks HostGroups) group object)). at.1 (both.0, (host_leads.some object both.0).1 both.1)),
            );
        service_group = λ given group object low there.
            let here = sym has_is ∙ given in
            let all_services = service_all here in
            let turns : turned ≡ s = service_nodes.all here in
            let begins : begin ≡ first_group (service_grouping b.blocks b.lists) = service_nodes.first_is here in
            let leads : LeadsToServices b.blocks b.lists sg = service_nodes.leads here in
            let at = from_second object (first_group (service_grouping b.blocks b.lists) + group) (omega (arith, there, objects_is)) (omega (arith, low, all_services, begins)) (firsts.service_groups + group) (omega (arith, service_groups_is, begins)) in (
              (λ (reaches : Reaches (IsEdge es) (firsts.service_groups + group) object). let on = at.0 reaches in let few = on.1 in let less : on.0 < s = omega (arith, few, turns) in (on.0, less, on.2, (leads.groups group on.0 low less).0 on.3)),
              (λ (some : (service : ℕ) × (service < s) × (object ≡ h + service) × IsServiceMember (service_grouping b.blocks b.lists) group service).
                  let few = some.1 in
                  at.1 (some.0, omega (arith, few, turns), some.2, (leads.groups group some.0 low some.1).1 some.3)),
            );
      })

-- edges over which those of the base lead are a base too
pub base-over : (b : BlocksOf) (firsts : Firsts) (count next : ℕ) (old new : List Edge) → IsBase b firsts count old → LeadOver count old next new → IsBase b firsts next new
base-over b firsts count next old new base over =
    let more = over.more in
    let few = base.few in
    let hosts_few = base.hosts_few in
    let all_hosts_few = base.all_hosts_few in
    let groups_few = base.groups_few in
    let all_groups_few = base.all_groups_few in
    record {
      objects_are = base.objects_are;
      few = omega (arith, more, few);
      hosts_few = omega (arith, more, hosts_few);
      all_hosts_few = omega (arith, more, all_hosts_few);
      groups_few = omega (arith, more, groups_few);
      all_groups_few = omega (arith, more, all_groups_few);
      service_groups_few = λ has. let service_groups_few = base.service_groups_few has in omega (arith, more, service_groups_few);
      within = over.within;
      object = λ p object low there reaches. base.object p object low there ((over.same p object (omega (arith, low, few)) (omega (arith, there, few))).0 reaches);
      host = λ k object low there. through (firsts.hosts + k) object (k ≡ object) (omega (arith, low, hosts_few)) (omega (arith, there, few)) (base.host k object low there);
      all_hosts = λ object there. through firsts.all_hosts object _ all_hosts_few (omega (arith, there, few)) (base.all_hosts object there);
      host_group = λ group object low there. through (firsts.host_groups + group) object _ (omega (arith, low, groups_few)) (omega (arith, there, few)) (base.host_group group object low there);
      all_groups = λ object there. through firsts.all_groups object _ all_groups_few (omega (arith, there, few)) (base.all_groups object there);
      service_group = λ has group object low there.
          let service_groups_few = base.service_groups_few has in
          through (firsts.service_groups + group) object _ (omega (arith, low, service_groups_few)) (omega (arith, there, few)) (base.service_group has group object low there);
    }
  where
    through : (node object : ℕ) (Says : Type 0) → node < count → object < count → Reaches (IsEdge old) node object ↔ Says → Reaches (IsEdge new) node object ↔ Says
    through node object Says low there says =
        let same = over.same node object low there in
        ((λ reaches. says.0 (same.0 reaches)), (λ said. same.1 (says.1 said)))
