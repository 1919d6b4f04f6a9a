-- The objects of which blocks speak in a role.
use Rattle.std.proofs.Common.{◌≡◌, ℕ, zero, suc, ◌+◌, ◌<◌, ◌≤◌, Bool, true, false, cond, ◌&&◌, List, [], ◌∷◌, ◌++◌, length, get_or, Option, None, Some, is_some, refl, sym, ap, subst, ◌∙◌, ◌⊎◌, inl, inr, ⊎_elim, arith}
use Rattle.std.specs.Prelude.{All, codes, Contains, filter, slice_get, ◌↔◌}
use Rattle.std.specs.List.{range_with_len}
use Rattle.std.specs.Option.{option_map_or}
use Rattle.std.proofs.lemmas.Bool.{and_parts, cases_lt, false≢true}
use Rattle.std.proofs.lemmas.List.Elements.{All-contains, All-from_get_or, Contains-get_or, filter-append}
use Rattle.std.proofs.lemmas.Option.{slice_get_read}
use Rattle.due_model.specs.declared.state.StateSet.{StateSet}
use Rattle.graph.specs.declared.edges.Edge.{Edge}
use Rattle.graph.specs.claims.Chains.{Reaches}
use Rattle.graph_rules.specs.Rules.{IsOfRule}
use Rattle.graph.specs.Edges.{IsWithin}
use Rattle.lemmas.proofs.Numbers.{below_more}
use Rattle.lemmas.proofs.Elements.{Contains-filter, Contains-from_filter, Contains-from_map, Contains-map, Contains-none, Contains-range}
use Rattle.object_dependencies.specs.claims.Pairs.{IsKept, kept_states}
use Rattle.object_dependencies.specs.Pairs.{BlocksOf}
use Rattle.object_groups.specs.declared.groups.GroupKind.TheVariants.{HostGroups}
use Rattle.object_groups.specs.claims.Groups.{grouping}
use Rattle.object_groups.specs.ListEdges.{edge, IsEdge, LeadOver, nodes_of}
use Rattle.object_groups.specs.claims.Members.{IsMember}
use Rattle.object_groups.specs.claims.Names.{Lists, numbers_of}
use Rattle.object_groups.specs.NodeLaws.{from-node, FromNode, to-node}
use Rattle.object_groups.specs.ObjectLaws.{listed-within, numbers-within, object-at}
use Rattle.object_groups.specs.claims.Objects.{is_object, is_object_at, list_at, names_in}
use Rattle.object_groups.specs.ReachLaws.{lead-none}
use Rattle.object_inheritance.specs.Columns.{Column}
use Rattle.object_listing.specs.Laws.{ListedAreObjects}
use Rattle.object_listing.specs.claims.Listing.{IsListed}
use Rattle.object_reached.specs.declared.roles.Role.{Role}
use Rattle.object_reached.specs.claims.Listed.{of_hosts, ServiceDirectives}
use Rattle.object_reached.specs.claims.Reached.{SpeaksOf}
use Rattle.object_reached.specs.claims.Roles.{directives_of, host_kind, service_kind}
use Rattle.object_reader.specs.declared.block.Block.{Block}
use Rattle.object_reader.specs.declared.block.BlockKind.{BlockKind}
use Rattle.object_reader.specs.declared.block.BlockKind.TheVariants.{Host, HostDependency, HostGroup, ServiceDependency, ServiceGroup}
use Rattle.object_listing.specs.claims.Readings.{own_states}
use Rattle.object_service_groups.specs.Laws.{MembersAreServices}
use Rattle.object_values.specs.declared.options.CriteriaKind.TheVariants.{OfHosts, OfServices}
use Rattle.object_dependency_loops.specs.declared.base.Firsts.{Firsts}
use Rattle.object_dependency_loops.specs.Base.{host_count, IsBase}
use Rattle.object_dependency_loops.specs.Described.{Describes, Gathers, ListsNoGroup}
use Rattle.object_dependency_loops.specs.Places.{kept_in, SpeakAs}
use Rattle.object_dependency_loops.specs.Speech.{AddsSpeech, AreLinked, ByList, Speaks}
use Rattle.object_dependency_loops.proofs.BaseLemmas.{base-over}
use Rattle.object_dependency_loops.proofs.ReachLemmas.{over-on}
use Rattle.object_dependency_loops.proofs.SpeechLemmas.{adds-both, adds-same, speaks-over, still-linked}

-- ---- what the nodes of lists lead to

module _ (b : BlocksOf) (firsts : Firsts) (count : ℕ) (edges : List Edge) (base : IsBase b firsts count edges) (directives : ServiceDirectives) (place object : ℕ) (there : object < firsts.objects) where
  abbrev hosts : List (List ℕ)
  hosts = names_in b.blocks Host

  abbrev host_entries : List (List ℕ)
  host_entries = list_at b.blocks directives.hosts place

  abbrev groups : List (List ℕ)
  groups = names_in b.blocks HostGroup

  abbrev group_entries : List (List ℕ)
  group_entries = list_at b.blocks directives.host_groups place

  hosts_to : (x : ℕ) → FromNode hosts host_entries firsts.hosts firsts.all_hosts x → Reaches (IsEdge edges) x object → Lists hosts host_entries object
  hosts_to x (inl (is, every)) reaches = inl (every, (base.all_hosts object there).0 (subst (λ (n : ℕ). Reaches (IsEdge edges) n object) is reaches))
  hosts_to x (inr (k, low, is, on)) reaches =
      let same = (base.host k object low there).0 (subst (λ (n : ℕ). Reaches (IsEdge edges) n object) is reaches) in
      inr (subst (λ (n : ℕ). Contains (numbers_of hosts host_entries) n) same on)

  pub hosts-say : ByList hosts b.blocks directives.hosts firsts.hosts (Some firsts.all_hosts) edges place object ↔ Lists hosts host_entries object
  hosts-say = (
    (λ by. hosts_to by.0 (from-node hosts host_entries firsts.hosts firsts.all_hosts by.0 by.1) by.2),
    (λ lists.
        let low = listed-within hosts host_entries object lists in
        ⊎_elim
        (λ (every : Contains (nodes_of hosts host_entries firsts.hosts (Some firsts.all_hosts)) firsts.all_hosts). (firsts.all_hosts, every, (base.all_hosts object there).1 low))
        (λ (named : Contains (nodes_of hosts host_entries firsts.hosts (Some firsts.all_hosts)) (firsts.hosts + object)).
        (firsts.hosts + object, named, (base.host object object low there).1 refl))
        (to-node hosts host_entries firsts.hosts firsts.all_hosts object lists)),
  )

  abbrev InGroup : Type 0
  InGroup = (group : ℕ) × Lists groups group_entries group × IsMember (grouping b.blocks HostGroups) group object

  groups_to : (x : ℕ) → FromNode groups group_entries firsts.host_groups firsts.all_groups x → Reaches (IsEdge edges) x object → (object < host_count b) × InGroup
  groups_to x (inl (is, every)) reaches =
      let on = (base.all_groups object there).0 (subst (λ (n : ℕ). Reaches (IsEdge edges) n object) is reaches) in
      (on.0, (on.1.0, inl (every, on.1.1), on.1.2))
  groups_to x (inr (k, low, is, at)) reaches =
      let on = (base.host_group k object low there).0 (subst (λ (n : ℕ). Reaches (IsEdge edges) n object) is reaches) in
      (on.0, (k, inr at, on.1))

  pub groups-say : ByList groups b.blocks directives.host_groups firsts.host_groups (Some firsts.all_groups) edges place object ↔ ((object < host_count b) × InGroup)
  groups-say = (
    (λ by. groups_to by.0 (from-node groups group_entries firsts.host_groups firsts.all_groups by.0 by.1) by.2),
    (λ both.
        let group = both.1.0 in
        let low = listed-within groups group_entries group both.1.1 in
        ⊎_elim
        (λ (every : Contains (nodes_of groups group_entries firsts.host_groups (Some firsts.all_groups)) firsts.all_groups).
        (firsts.all_groups, every, (base.all_groups object there).1 (both.0, (group, low, both.1.2))))
        (λ (named : Contains (nodes_of groups group_entries firsts.host_groups (Some firsts.all_groups)) (firsts.host_groups + group)).
        (firsts.host_groups + group, named, (base.host_group group object low there).1 (both.0, both.1.2)))
        (to-node groups group_entries firsts.host_groups firsts.all_groups group both.1.1)),
  )

  abbrev service_groups : List (List ℕ)
  service_groups = names_in b.blocks ServiceGroup

  abbrev service_entries : List (List ℕ)
  service_entries = list_at b.blocks directives.groups place

  pub gathers-say : MembersAreServices → firsts.has_groups ≡ true → ByList service_groups b.blocks directives.groups firsts.service_groups None edges place object ↔ Gathers b directives place object
  gathers-say members has = (
    (λ by.
        let at = Contains-from_map (λ number. firsts.service_groups + number) (numbers_of service_groups service_entries) by.0 by.1 in
        let low = numbers-within service_groups service_entries at.0 at.1 in
        let on = (base.service_group has at.0 object low there).0 (subst (λ (n : ℕ). Reaches (IsEdge edges) n object) (sym at.2) by.2) in
        (on.0, on.2, (at.0, at.1, on.3))),
    (λ gathers.
        let group = gathers.2.0 in
        let low = numbers-within service_groups service_entries group gathers.2.1 in (
          firsts.service_groups + group,
          Contains-map (λ number. firsts.service_groups + number) (numbers_of service_groups service_entries) group gathers.2.1,
          (base.service_group has group object low there).1 (gathers.0, members b.blocks b.lists group gathers.0 gathers.2.2, gathers.1, gathers.2.2),
        )),
  )

-- ---- hosts, and services of groups

pub adds-hosts : ListedAreObjects → (b : BlocksOf) (firsts : Firsts) (count middle next : ℕ) (old between new links some more : List Edge) (places : List ℕ) (directives : ServiceDirectives) → IsBase b firsts count old
    → AddsSpeech (length b.blocks) firsts.objects count middle old between links some places
    (ByList (names_in b.blocks Host) b.blocks directives.hosts firsts.hosts (Some firsts.all_hosts) old)
    → AddsSpeech (length b.blocks) firsts.objects middle next between new some more places
    (ByList (names_in b.blocks HostGroup) b.blocks directives.host_groups firsts.host_groups (Some firsts.all_groups) between)
    → AddsSpeech (length b.blocks) firsts.objects count next old new links more places (IsListed b.blocks (of_hosts directives))
adds-hosts objects b firsts count middle next old between new links some more places directives base one other =
    adds-both (length b.blocks) firsts.objects count middle next old between new links some more places
    (ByList (names_in b.blocks Host) b.blocks directives.hosts firsts.hosts (Some firsts.all_hosts) old)
    (ByList (names_in b.blocks HostGroup) b.blocks directives.host_groups firsts.host_groups (Some firsts.all_groups) between)
    (IsListed b.blocks (of_hosts directives)) one other
    (λ place object there.
    let by_hosts = hosts-say b firsts count old base directives place object there in
    let by_groups = groups-say b firsts middle between (base-over b firsts count middle old between base one.over) directives place object there in (
      (λ either. ⊎_elim
          (λ (by : ByList (names_in b.blocks Host) b.blocks directives.hosts firsts.hosts (Some firsts.all_hosts) old place object). inl (by_hosts.0 by))
          (λ (by : ByList (names_in b.blocks HostGroup) b.blocks directives.host_groups firsts.host_groups (Some firsts.all_groups) between place object). inr (by_groups.0 by).1)
          either),
      (λ listed. back place object (objects b.blocks (of_hosts directives) place object listed) by_hosts by_groups listed),
    ))
  where
    back : (place object : ℕ) → object < host_count b
        → ByList (names_in b.blocks Host) b.blocks directives.hosts firsts.hosts (Some firsts.all_hosts) old place object ↔ Lists (names_in b.blocks Host) (list_at b.blocks directives.hosts place) object
        → ByList (names_in b.blocks HostGroup) b.blocks directives.host_groups firsts.host_groups (Some firsts.all_groups) between place object
        ↔ ((object < host_count b) × ((group : ℕ) × Lists (names_in b.blocks HostGroup) (list_at b.blocks directives.host_groups place) group × IsMember (grouping b.blocks HostGroups) group object))
        → IsListed b.blocks (of_hosts directives) place object
        → ByList (names_in b.blocks Host) b.blocks directives.hosts firsts.hosts (Some firsts.all_hosts) old place object
        ⊎ ByList (names_in b.blocks HostGroup) b.blocks directives.host_groups firsts.host_groups (Some firsts.all_groups) between place object
    back place object low by_hosts by_groups (inl lists) = inl (by_hosts.1 lists)
    back place object low by_hosts by_groups (inr some_group) = inr (by_groups.1 (low, some_group))

pub adds-grouped : MembersAreServices → (b : BlocksOf) (firsts : Firsts) (count next : ℕ) (old new links more : List Edge) (places : List ℕ) (directives : ServiceDirectives) → IsBase b firsts count old → firsts.has_groups ≡ true
    → AddsSpeech (length b.blocks) firsts.objects count next old new links more places
    (ByList (names_in b.blocks ServiceGroup) b.blocks directives.groups firsts.service_groups None old)
    → AddsSpeech (length b.blocks) firsts.objects count next old new links more places (Gathers b directives)
adds-grouped members b firsts count next old new links more places directives base has one =
    adds-same (length b.blocks) firsts.objects count next old new links more places (ByList (names_in b.blocks ServiceGroup) b.blocks directives.groups firsts.service_groups None old) (Gathers b directives) one
    (λ place object there. gathers-say b firsts count old base directives place object there members has)

-- what one list more says, whichever blocks and objects there are
abbrev Listed : (count next : ℕ) → (old new links more : List Edge) → (places : List ℕ) → (names : List (List ℕ)) → Column → (first : ℕ) → Option ℕ → Type 0
Listed count next old new links more places names column first all = (blocks objects : ℕ) → AreLinked blocks objects count old links → All (λ place. place < blocks) places
    → AddsSpeech blocks objects count next old new links more places (ByList names column.blocks column.directive first all old)

listed-by : (b : BlocksOf) (objects count next : ℕ) (old new links more : List Edge) (places : List ℕ) (given names : List (List ℕ)) (column : Column) (directive : List ℕ) (first : ℕ) (all : Option ℕ)
    → given ≡ names → column ≡ record { blocks = b.blocks; directive = directive } → AreLinked (length b.blocks) objects count old links → All (λ place. place < length b.blocks) places
    → Listed count next old new links more places given column first all
    → AddsSpeech (length b.blocks) objects count next old new links more places (ByList names b.blocks directive first all old)
listed-by b objects count next old new links more places given names column directive first all names_are column_is are within listed =
    subst (λ (ns : List (List ℕ)). AddsSpeech (length b.blocks) objects count next old new links more places (ByList ns b.blocks directive first all old)) names_are
    (subst (λ (c : Column). AddsSpeech (length b.blocks) objects count next old new links more places (ByList given c.blocks c.directive first all old)) column_is
    (listed (length b.blocks) objects are within))

pub hosts-pushed : ListedAreObjects → (b : BlocksOf) (firsts : Firsts) (count middle next : ℕ) (old between new links some more : List Edge) (places : List ℕ) (directives : ServiceDirectives)
    (hosts groups : List (List ℕ)) (by_hosts by_groups : Column) → IsBase b firsts count old → AreLinked (length b.blocks) firsts.objects count old links → All (λ place. place < length b.blocks) places
    → hosts ≡ names_in b.blocks Host → groups ≡ names_in b.blocks HostGroup
    → by_hosts ≡ record { blocks = b.blocks; directive = directives.hosts } → by_groups ≡ record { blocks = b.blocks; directive = directives.host_groups }
    → Listed count middle old between links some places hosts by_hosts firsts.hosts (Some firsts.all_hosts)
    → Listed middle next between new some more places groups by_groups firsts.host_groups (Some firsts.all_groups)
    → AddsSpeech (length b.blocks) firsts.objects count next old new links more places (IsListed b.blocks (of_hosts directives))
hosts-pushed objects b firsts count middle next old between new links some more places directives hosts groups by_hosts by_groups base are within hosts_are groups_are hosts_by groups_by one other =
    let first = listed-by b firsts.objects count middle old between links some places hosts (names_in b.blocks Host) by_hosts directives.hosts firsts.hosts (Some firsts.all_hosts) hosts_are hosts_by are within one in
    let linked = still-linked (length b.blocks) firsts.objects count middle old between links some places (ByList (names_in b.blocks Host) b.blocks directives.hosts firsts.hosts (Some firsts.all_hosts) old) are first in
    adds-hosts objects b firsts count middle next old between new links some more places directives base first
    (listed-by b firsts.objects middle next between new some more places groups (names_in b.blocks HostGroup) by_groups directives.host_groups firsts.host_groups (Some firsts.all_groups) groups_are groups_by linked within other)

-- the nodes and the edges of a step are within its bound
pub step-within : (b : BlocksOf) (objects count next bound : ℕ) (old new links more : List Edge) (places : List ℕ) (names : List (List ℕ)) (column : Column) (first : ℕ) (all : Option ℕ)
    → AreLinked (length b.blocks) objects count old links → All (λ place. place < length b.blocks) places → Listed count next old new links more places names column first all
    → bound ≤ count → All (IsWithin next) new × (bound ≤ next)
step-within b objects count next bound old new links more places names column first all are within listed few =
    let over = (listed (length b.blocks) objects are within).over in
    let less = over.more in
    (over.within, omega (arith, few, less))

pub grouped-pushed : MembersAreServices → (b : BlocksOf) (firsts : Firsts) (count next : ℕ) (old new links more : List Edge) (places : List ℕ) (directives : ServiceDirectives) (groups : List (List ℕ)) (by_groups : Column)
    → IsBase b firsts count old → firsts.has_groups ≡ true → AreLinked (length b.blocks) firsts.objects count old links → All (λ place. place < length b.blocks) places → groups ≡ names_in b.blocks ServiceGroup
    → by_groups ≡ record { blocks = b.blocks; directive = directives.groups } → Listed count next old new links more places groups by_groups firsts.service_groups None
    → AddsSpeech (length b.blocks) firsts.objects count next old new links more places (Gathers b directives)
grouped-pushed members b firsts count next old new links more places directives groups by_groups base has are within groups_are groups_by one =
    adds-grouped members b firsts count next old new links more places directives base has
    (listed-by b firsts.objects count next old new links more places groups (names_in b.blocks ServiceGroup) by_groups directives.groups firsts.service_groups None groups_are groups_by are within one)

-- where none of the blocks lists a service group
pub none-grouped : (b : BlocksOf) (objects count : ℕ) (edges links : List Edge) (places : List ℕ) (directives : ServiceDirectives) → AreLinked (length b.blocks) objects count edges links
    → All (ListsNoGroup b.blocks directives) places → AddsSpeech (length b.blocks) objects count count edges edges links links places (Gathers b directives)
none-grouped b objects count edges links places directives are none = record {
  over = lead-none count edges are.within;
  linked = are.linked;
  exactly = λ place object low. (
    (λ speaks. inl speaks),
    (λ either. ⊎_elim (λ (before : Speaks links edges place object). before) (λ (at : Contains places place × Gathers b directives place object). absurd (nothing place object at.0 at.1)) either),
  );
}
  where
    nothing : (place object : ℕ) → Contains places place → Gathers b directives place object → ⊥
    nothing place object at gathers =
        Contains-none gathers.2.0 (subst (λ (entries : List (List ℕ)). Contains (numbers_of (names_in b.blocks ServiceGroup) entries) gathers.2.0)
        (All-contains (ListsNoGroup b.blocks directives) places place none at) gathers.2.1)

pub few-places : (blocks limit : ℕ) (places : List ℕ) → All (λ place. place < blocks) places → blocks < limit → All (λ place. place < limit) places
few-places blocks limit places within few = All-from_get_or (λ place. place < limit) places 0
    (λ i low. let less = All-contains (λ place. place < blocks) places (get_or places i 0) within (Contains-get_or places i 0 low) in omega (arith, less, few))

-- ---- the places of notification dependencies

abbrev keeps : List Block → BlockKind → ℕ → Bool
keeps blocks kind place = is_some (kept_states blocks place) && is_object_at blocks kind place

pub kept-more : (blocks : List Block) (kind : BlockKind) (i : ℕ) (block : Block) (kept object given : Bool) (old new : List ℕ) → i < length blocks → block ≡ get_or blocks i block
    → kept ≡ is_some (kept_states blocks i) → object ≡ is_object kind block → given ≡ kept && object → old ≡ kept_in blocks kind i → new ≡ old ++ cond given (i ∷ []) []
    → new ≡ kept_in blocks kind (i + 1)
kept-more blocks kind i block kept object given old new low at kept_is object_is given_is before more =
    let here : slice_get blocks i ≡ Some block = slice_get_read blocks (length blocks) i block refl low at in
    let is : given ≡ is_some (kept_states blocks i) && is_object_at blocks kind i =
    given_is ∙ ap (λ (k : Bool). k && object) kept_is ∙ ap (λ (o : Bool). is_some (kept_states blocks i) && o) (sym (object-at blocks kind i block object here object_is)) in
    more ∙ ap (λ (ns : List ℕ). ns ++ cond given (i ∷ []) []) before ∙ ap (λ (b : Bool). kept_in blocks kind i ++ cond b (i ∷ []) []) is
    ∙ sym (ap (filter (keeps blocks kind)) (below_more i) ∙ filter-append (keeps blocks kind) (range_with_len 0 i) (i ∷ []))

past-none : (blocks : List Block) (place : ℕ) → length blocks ≤ place → slice_get blocks place ≡ None
past-none [] place past = refl
past-none (x ∷ blocks) zero past = absurd (omega (arith, past))
past-none (x ∷ blocks) (suc place) past = past-none blocks place (omega (arith, past))

abbrev host_states : List Block → ℕ → Option StateSet
host_states blocks place = own_states blocks (codes "notification_failure_criteria") OfHosts place

abbrev service_states : List Block → ℕ → Option StateSet
service_states blocks place = own_states blocks (codes "notification_failure_criteria") OfServices place

pub kept-within : (blocks : List Block) (place : ℕ) → IsKept blocks place → place < length blocks
kept-within blocks place kept = ⊎_elim (λ (low : place < length blocks). low) (λ (past : length blocks ≤ place). absurd (false≢true (sym (ap is_some (none past)) ∙ kept))) (cases_lt place (length blocks))
  where
    no-object : (kind : BlockKind) → length blocks ≤ place → is_object_at blocks kind place ≡ false
    no-object kind past = ap (λ (found : Option Block). option_map_or (is_object kind) found false) (past-none blocks place past)

    none : length blocks ≤ place → kept_states blocks place ≡ None
    none past = ap (λ b. cond b (host_states blocks place) (cond (is_object_at blocks ServiceDependency place) (service_states blocks place) None)) (no-object HostDependency past)
        ∙ ap (λ b. cond b (service_states blocks place) None) (no-object ServiceDependency past)

pub place-kept : (blocks : List Block) (kind : BlockKind) (place : ℕ) → Contains (kept_in blocks kind (length blocks)) place ↔ (IsKept blocks place × (is_object_at blocks kind place ≡ true))
place-kept blocks kind place = (
  (λ at.
      let on = Contains-from_filter (λ p. is_some (kept_states blocks p) && is_object_at blocks kind p) (range_with_len 0 (length blocks)) place at in
      and_parts (is_some (kept_states blocks place)) (is_object_at blocks kind place) on.1),
  (λ both. Contains-filter (λ p. is_some (kept_states blocks p) && is_object_at blocks kind p) (range_with_len 0 (length blocks)) place
      (Contains-range (length blocks) place (kept-within blocks place both.0))
      (ap (λ c. c && is_object_at blocks kind place) both.0 ∙ both.1)),
)

pub places-within : (blocks : List Block) (kind : BlockKind) (places : List ℕ) → places ≡ kept_in blocks kind (length blocks) → All (λ place. place < length blocks) places
places-within blocks kind places are = All-from_get_or (λ place. place < length blocks) places 0
    (λ i low. kept-within blocks (get_or places i 0) ((place-kept blocks kind (get_or places i 0)).0 (subst (λ (ps : List ℕ). Contains ps (get_or places i 0)) are (Contains-get_or places i 0 low))).0)

-- ---- one role

module _ (b : BlocksOf) (role : Role) (objects node one two three : ℕ) (start first second third : List Edge) (none hosts grouped all : List Edge) (host_places service_places : List ℕ)
    (empty : none ≡ []) (host_are : host_places ≡ kept_in b.blocks (host_kind role) (length b.blocks)) (service_are : service_places ≡ kept_in b.blocks (service_kind role) (length b.blocks))
    (by_hosts : AddsSpeech (length b.blocks) objects node one start first none hosts host_places (IsListed b.blocks (of_hosts (directives_of role))))
    (by_groups : AddsSpeech (length b.blocks) objects one two first second hosts grouped service_places (Gathers b (directives_of role)))
    (by_names : AddsSpeech (length b.blocks) objects two three second third grouped all service_places (Describes b (directives_of role))) where
  pub role-over : LeadOver node start three third
  role-over = over-on node two three start second third (over-on node one two start first second by_hosts.over by_groups.over) by_names.over

  host_at : (place : ℕ) → Contains host_places place ↔ (IsKept b.blocks place × (is_object_at b.blocks (host_kind role) place ≡ true))
  host_at place = subst (λ (ps : List ℕ). Contains ps place ↔ (IsKept b.blocks place × (is_object_at b.blocks (host_kind role) place ≡ true))) (sym host_are) (place-kept b.blocks (host_kind role) place)

  service_at : (place : ℕ) → Contains service_places place ↔ (IsKept b.blocks place × (is_object_at b.blocks (service_kind role) place ≡ true))
  service_at place = subst (λ (ps : List ℕ). Contains ps place ↔ (IsKept b.blocks place × (is_object_at b.blocks (service_kind role) place ≡ true))) (sym service_are) (place-kept b.blocks (service_kind role) place)

  module _ (place object : ℕ) (low : object < objects) where
    abbrev Cases : Type 0
    Cases = (Contains service_places place × Describes b (directives_of role) place object) ⊎ ((Contains service_places place × Gathers b (directives_of role) place object)
        ⊎ (Contains host_places place × IsListed b.blocks (of_hosts (directives_of role)) place object))

    speaks_cases : Speaks all third place object → Cases
    speaks_cases speaks = ⊎_elim
        (λ (before : Speaks grouped second place object). ⊎_elim
        (λ (early : Speaks hosts first place object). ⊎_elim
        (λ (nothing : Speaks none start place object). absurd (Contains-none (edge place nothing.0) (subst (λ (es : List Edge). Contains es (edge place nothing.0)) empty nothing.1)))
        (λ (here : Contains host_places place × IsListed b.blocks (of_hosts (directives_of role)) place object). inr (inr here))
        ((by_hosts.exactly place object low).0 early))
        (λ (here : Contains service_places place × Gathers b (directives_of role) place object). inr (inl here))
        ((by_groups.exactly place object low).0 before))
        (λ (here : Contains service_places place × Describes b (directives_of role) place object). inl here)
        ((by_names.exactly place object low).0 speaks)

    cases_to : Cases → IsKept b.blocks place × SpeaksOf b.blocks b.lists role place object
    cases_to (inl (at, (service, is, described))) = let kept = (service_at place).0 at in (kept.0, inr (kept.1, (service, is, inl described)))
    cases_to (inr (inl (at, (service, is, gathered)))) = let kept = (service_at place).0 at in (kept.0, inr (kept.1, (service, is, inr gathered)))
    cases_to (inr (inr (at, listed))) = let kept = (host_at place).0 at in (kept.0, inl (kept.1, listed))

    spoken_from : IsKept b.blocks place → SpeaksOf b.blocks b.lists role place object → Speaks all third place object
    spoken_from kept (inl (of, listed)) =
        (by_names.exactly place object low).1 (inl ((by_groups.exactly place object low).1 (inl ((by_hosts.exactly place object low).1 (inr ((host_at place).1 (kept, of), listed))))))
    spoken_from kept (inr (of, (service, is, inl described))) = (by_names.exactly place object low).1 (inr ((service_at place).1 (kept, of), (service, is, described)))
    spoken_from kept (inr (of, (service, is, inr gathered))) = (by_names.exactly place object low).1 (inl ((by_groups.exactly place object low).1 (inr ((service_at place).1 (kept, of), (service, is, gathered)))))

  pub role-speaks : SpeakAs b role objects all third
  role-speaks place object low = ((λ speaks. cases_to place object low (speaks_cases place object low speaks)), (λ both. spoken_from place object low both.0 both.1))

-- what the base and no links are
pub base-linked : (b : BlocksOf) (firsts : Firsts) (count : ℕ) (edges links : List Edge) → IsBase b firsts count edges → links ≡ [] → AreLinked (length b.blocks) firsts.objects count edges links
base-linked b firsts count edges links base none = record {
  few = base.few;
  within = base.within;
  apart = base.object;
  linked = subst (λ (es : List Edge). All (IsOfRule (length b.blocks) count) es) (sym none) (All-from_get_or (IsOfRule (length b.blocks) count) [] (record { from = 0; to = 0 }) (λ i low. absurd (omega (arith, low))));
}

-- ---- over more edges

pub speak-over : (b : BlocksOf) (firsts : Firsts) (role : Role) (count next : ℕ) (old new links : List Edge) → IsBase b firsts count old → All (IsOfRule (length b.blocks) count) links → LeadOver count old next new
    → SpeakAs b role firsts.objects links old → SpeakAs b role firsts.objects links new
speak-over b firsts role count next old new links base linked over speak place object low =
    let same = speaks-over (length b.blocks) firsts.objects count next old new links (record { few = base.few; within = base.within; apart = base.object; linked = linked }) over place object low in
    let said = speak place object low in
    ((λ speaks. said.0 (same.0 speaks)), (λ both. same.1 (said.1 both)))

pub rules-over : (blocks count next : ℕ) (old new links : List Edge) → LeadOver count old next new → All (IsOfRule blocks count) links → All (IsOfRule blocks next) links
rules-over blocks count next old new links over linked = All-from_get_or (IsOfRule blocks next) links (record { from = 0; to = 0 })
    (λ i low. more (get_or links i (record { from = 0; to = 0 })) (All-contains (IsOfRule blocks count) links (get_or links i (record { from = 0; to = 0 })) linked (Contains-get_or links i (record { from = 0; to = 0 }) low)))
  where
    more : (one : Edge) → IsOfRule blocks count one → IsOfRule blocks next one
    more one of = let node = of.node in let less = over.more in record { rule = of.rule; node = omega (arith, node, less) }

-- the places in the role that a listing is of
pub places-are : (blocks : List Block) (kind other : BlockKind) (places : List ℕ) → places ≡ kept_in blocks kind (length blocks) → kind ≡ other → places ≡ kept_in blocks other (length blocks)
places-are blocks kind other places are same = are ∙ ap (λ (k : BlockKind). kept_in blocks k (length blocks)) same
