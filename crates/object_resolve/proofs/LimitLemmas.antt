-- The first block that passes a limit.
use Rattle.std.proofs.Common.{◌≡◌, ℕ, ◌<◌, ◌≤◌, Bool, true, false, cond, List, [], ◌∷◌, length, get_or, Option, Some, None, refl, sym, ap, subst, ◌∙◌, ◌⊎◌, inl, inr, ⊎_elim, arith}
use Rattle.std.specs.Prelude.{Contains, slice_get, sum_by, IfNone, IfSome}
use Rattle.std.specs.Option.{option_and_then}
use Rattle.std.specs.Str.{bytes_eq}
use Rattle.std.proofs.lemmas.Bool.{cases_lt}
use Rattle.std.proofs.lemmas.List.Elements.{Contains-get_or}
use Rattle.std.proofs.lemmas.List.Kept.{AllPairs-from_increasing}
use Rattle.std.proofs.lemmas.Option.{get_or_from_slice_get, none-some, slice_get-get_or, slice_get_within}
use Rattle.due_model.specs.claims.Limits.{max_contacts, max_dependencies, max_escalations, max_lanes, max_periods}
use Rattle.lemmas.proofs.Searches.{position-within}
use Rattle.lemmas.proofs.Rising.{rising-one}
use Rattle.object_contacts.specs.claims.Lanes.{AreLanes, IsLane, IsUsed}
use Rattle.object_services.specs.HostLaws.{hosts-one}
use Rattle.object_dependencies.specs.claims.Limits as dependent_claims
use Rattle.object_dependencies.specs.Limits as dependent
use Rattle.object_dependencies.specs.claims.Limits.{GiveDependencies}
use Rattle.object_dependencies.specs.Loops.{HasNoDependencyLoop, IsFirstLooped}
use Rattle.object_dependencies.specs.claims.Loops as dependencies
use Rattle.object_dependencies.specs.claims.Pairs.{ArePairsBelow, Pair}
use Rattle.object_escalations.specs.claims.Escalated as escalated_claims
use Rattle.object_escalations.specs.Escalated as escalated
use Rattle.object_escalations.specs.claims.Escalated.{AreEscalated, GiveEscalations}
use Rattle.object_escalations.specs.Laws as escalations
use Rattle.object_groups.specs.claims.Objects.{names_in, objects_in}
use Rattle.object_groups.specs.claims.First.{IsFirst}
use Rattle.object_groups.specs.First.{lower}
use Rattle.object_reader.specs.declared.block.Block.{Block}
use Rattle.object_reader.specs.declared.block.BlockKind.{BlockKind}
use Rattle.object_reader.specs.declared.block.BlockKind.TheVariants.{Command, Contact, Service, TimePeriod}
use Rattle.object_resolve.specs.Fault.{IsAmong, IsOfPlace}
use Rattle.object_resolve.specs.claims.First.{IsNowhere}
use Rattle.object_resolve.specs.claims.Limits.{AreFewDependencies, AreFewEscalations, AreFewOthers, AreWithin, IsOneOver, IsOver, PassesDependencies, PassesEscalations, PassesLanes, PassesOther, PassesRest}
use Rattle.object_resolve.specs.claims.Resolve.{IsDependencyLooped, IsFirstDependencyLooped, IsFirstOver, IsLoopedOrOver}
use Rattle.object_faults.specs.declared.load_fault.BlockFault.TheVariants.{DependencyLoop, TooMany}
use Rattle.object_faults.specs.declared.load_fault.LoadFault.{LoadFault}
use Rattle.object_faults.specs.declared.load_fault.LoadFault.TheVariants as load
use Rattle.object_resolve.proofs.CountLemmas.{one-passes, within-nowhere}
use Rattle.object_resolve.proofs.NameLemmas.{either-first}
use Rattle.object_groups.specs.ObjectLaws.{names-long}
use Rattle.object_resolve.proofs.PlaceLemmas.{line-of_first, object-within, only-first}
use Rattle.object_services.specs.Laws.{OnePlacePasses, WithinPassesNowhere}
use Rattle.object_services.specs.Limits as counted
use Rattle.object_services.specs.claims.Limits.{AreHostLists, AreWithinLimit, PassesLimit}
use Rattle.object_services.specs.Limits.{PassesNowhere}
use Rattle.object_services.specs.declared.services.LimitFault.{LimitFault}
use Rattle.object_services.specs.declared.services.LimitFault.TheVariants as counts

-- ---- two lists of the same numbers that rise are one

pub lanes-one : (P : ℕ → Type 0) (xs ys : List ℕ) → AreLanes P xs → AreLanes P ys → xs ≡ ys
lanes-one P xs ys one other =
    rising-one xs ys (AllPairs-from_increasing xs one.rising) (AllPairs-from_increasing ys other.rising)
    (λ k. ((λ at. (other.exactly k).1 ((one.exactly k).0 at)), (λ at. (one.exactly k).1 ((other.exactly k).0 at))))

-- ---- lanes are commands

used-within : (blocks : List Block) (directive : List ℕ) (command : ℕ) → IsUsed blocks directive command → command < length (names_in blocks Command)
used-within blocks directive command (place, at, (entry, listed, named)) =
    subst (λ (found : Option ℕ). IfSome found (λ k. k < length (names_in blocks Command))) named (position-within (bytes_eq _) (names_in blocks Command))

pub lane-within : (blocks : List Block) (command : ℕ) → IsLane blocks command → command < length (names_in blocks Command)
lane-within blocks command (inl used) = used-within blocks _ command used
lane-within blocks command (inr used) = used-within blocks _ command used

lane-place : (blocks : List Block) (lanes : List ℕ) (k command : ℕ) → AreLanes (IsLane blocks) lanes → slice_get lanes k ≡ Some command
    → slice_get (objects_in blocks Command) command ≡ Some (get_or (objects_in blocks Command) command 0)
lane-place blocks lanes k command are here =
    let at = Contains-get_or lanes k command (slice_get_within lanes k command here) in
    let is : get_or lanes k command ≡ command = get_or_from_slice_get lanes k command command here in
    let within = lane-within blocks command ((are.exactly command).0 (subst (λ (n : ℕ). Contains lanes n) is at)) in
    let long = names-long blocks Command in
    slice_get-get_or (objects_in blocks Command) command 0 (omega (arith, within, long))

-- ---- the first with which there are too many of one type

pub one-over : (blocks : List Block) (kind : BlockKind) (limit : ℕ) (found : Option ℕ) → found ≡ slice_get (objects_in blocks kind) limit
    → IsFirst (IsOneOver blocks kind limit) found
one-over blocks kind limit found is = only-first (IsOneOver blocks kind limit) found (λ place said. is ∙ said) (λ place some. sym is ∙ some)

few-none : {X : Type 0} (xs : List X) (limit : ℕ) → slice_get xs limit ≡ None → length xs ≤ limit
few-none xs limit none = ⊎_elim
    (λ (over : limit < length xs). by_some xs over none)
    (λ (few : length xs ≤ limit). few)
    (cases_lt limit (length xs))
  where
    by_some : {Y : Type 0} (ys : List Y) → limit < length ys → slice_get ys limit ≡ None → length ys ≤ limit
    by_some [] low is = absurd (omega (arith, low))
    by_some (y ∷ ys) low is = absurd (none-some (get_or (y ∷ ys) limit y) (sym is ∙ slice_get-get_or (y ∷ ys) limit y low))

-- ---- lanes

module _ (blocks : List Block) (lanes : List ℕ) (found : Option ℕ) (are : AreLanes (IsLane blocks) lanes)
    (is : found ≡ option_and_then (slice_get (objects_in blocks Command)) (slice_get lanes max_lanes)) where
  over-all : (place : ℕ) → PassesLanes blocks place → found ≡ Some place
  over-all place (others, are_others, (command, here, there)) =
      let same : others ≡ lanes = lanes-one (IsLane blocks) others lanes are_others are in
      is ∙ ap (λ (given : List ℕ). option_and_then (slice_get (objects_in blocks Command)) (slice_get given max_lanes)) (sym same)
      ∙ ap (option_and_then (slice_get (objects_in blocks Command))) here ∙ there

  over-one : (place : ℕ) → found ≡ Some place → PassesLanes blocks place
  over-one place some = by_command (slice_get lanes max_lanes) refl (sym is ∙ some)
    where
      by_command : (given : Option ℕ) → slice_get lanes max_lanes ≡ given → option_and_then (slice_get (objects_in blocks Command)) given ≡ Some place → PassesLanes blocks place
      by_command None here there = absurd (none-some place there)
      by_command (Some command) here there = (lanes, are, (command, here, there))

  lane-over : IsFirst (PassesLanes blocks) found
  lane-over = only-first (PassesLanes blocks) found over-all over-one

  lane-few : found ≡ None → length lanes ≤ max_lanes
  lane-few none = few-none lanes max_lanes (by_command (slice_get lanes max_lanes) refl)
    where
      by_command : (given : Option ℕ) → slice_get lanes max_lanes ≡ given → slice_get lanes max_lanes ≡ None
      by_command None here = here
      by_command (Some command) here = absurd (none-some (get_or (objects_in blocks Command) command 0)
          (sym none ∙ is ∙ ap (option_and_then (slice_get (objects_in blocks Command))) here ∙ lane-place blocks lanes max_lanes command are here))

-- ---- contacts, time periods and lanes together

lower-none : (one other : Option ℕ) → lower one other ≡ None → (one ≡ None) × (other ≡ None)
lower-none None other is = (refl, is)
lower-none (Some a) None is = absurd (none-some a (sym is))
lower-none (Some a) (Some b) is = absurd (by_order _ is)
  where
    by_order : (c : Bool) → cond c (Some a) (Some b) ≡ None → ⊥
    by_order true same = none-some a (sym same)
    by_order false same = none-some b (sym same)

module _ (blocks : List Block) (lanes : List ℕ) (contact period lane : Option ℕ) (are : AreLanes (IsLane blocks) lanes)
    (contact_is : contact ≡ slice_get (objects_in blocks Contact) max_contacts) (period_is : period ≡ slice_get (objects_in blocks TimePeriod) max_periods)
    (lane_is : lane ≡ option_and_then (slice_get (objects_in blocks Command)) (slice_get lanes max_lanes)) where
  pub first-other : (found : Option ℕ) → found ≡ lower contact (lower period lane) → IsFirst (PassesOther blocks) found
  first-other found is = subst (λ (f : Option ℕ). IsFirst (PassesOther blocks) f) (sym is)
      (either-first (IsOneOver blocks Contact max_contacts) (λ n. IsOneOver blocks TimePeriod max_periods n ⊎ PassesLanes blocks n) contact (lower period lane)
      (one-over blocks Contact max_contacts contact contact_is)
      (either-first (IsOneOver blocks TimePeriod max_periods) (PassesLanes blocks) period lane
      (one-over blocks TimePeriod max_periods period period_is) (lane-over blocks lanes lane are lane_is)))

  few-others : lower contact (lower period lane) ≡ None → AreFewOthers blocks
  few-others none =
      let outer = lower-none contact (lower period lane) none in
      let inner = lower-none period lane outer.1 in
      record {
        contacts = few-none (objects_in blocks Contact) max_contacts (sym contact_is ∙ outer.0);
        lanes = λ others are_others. let same = ap length (lanes-one (IsLane blocks) others lanes are_others are) in
            let few = lane-few blocks lanes lane are lane_is inner.1 in omega (arith, same, few);
        periods = few-none (objects_in blocks TimePeriod) max_periods (sym period_is ∙ inner.0);
      }

  pub few-if_none : (found : Option ℕ) → found ≡ lower contact (lower period lane) → IfNone found (AreFewOthers blocks)
  few-if_none None is = few-others (sym is)
  few-if_none (Some place) is = tt

-- ---- escalations

-- blocks that keep within their limit pass it nowhere
few-pass : escalations.WithinPassesNowhere → (blocks : List Block) → AreFewEscalations blocks → (place : ℕ) → PassesEscalations blocks place → ⊥
few-pass law blocks (hosts, are, (count, given, few)) place (keeps, (others, others_are, passes)) =
    law blocks others count place
    (subst (λ (lists : List (List ℕ)). GiveEscalations blocks lists (length blocks) count) (hosts-one blocks (objects_in blocks Service) hosts others are others_are) given) few passes

pub no-escalations : escalations.WithinPassesNowhere → (blocks : List Block) → AreFewEscalations blocks → IsFirst (PassesEscalations blocks) None
no-escalations law blocks few = λ place passes. few-pass law blocks few place passes

-- nor do those that give too many objects, as there none are counted
pub uncounted : WithinPassesNowhere → (blocks : List Block) (place : ℕ) → PassesLimit blocks place → IsFirst (PassesEscalations blocks) None
uncounted law blocks place passes = λ k said. law blocks said.0 place passes

pub few-escalations : (blocks : List Block) (hosts spoken : List (List ℕ)) → AreHostLists blocks (objects_in blocks Service) hosts → AreEscalated blocks hosts (length blocks) spoken
    → sum_by length spoken ≤ max_escalations → AreFewEscalations blocks
few-escalations blocks hosts spoken are speak few = (hosts, are, (sum_by length spoken, (spoken, speak, refl), few))

few-dependencies : (blocks : List Block) (hosts : List (List ℕ)) (parts : List (List Pair)) → AreHostLists blocks (objects_in blocks Service) hosts
    → ArePairsBelow blocks hosts (length blocks) parts → sum_by length parts ≤ max_dependencies → AreFewDependencies blocks
few-dependencies blocks hosts parts are depend few = (hosts, are, (sum_by length parts, (parts, depend, refl), few))

-- nothing is passed where all keep within
pub all-within : (blocks : List Block) (hosts spoken : List (List ℕ)) (parts : List (List Pair)) → AreWithinLimit blocks → AreHostLists blocks (objects_in blocks Service) hosts
    → AreEscalated blocks hosts (length blocks) spoken → sum_by length spoken ≤ max_escalations → ArePairsBelow blocks hosts (length blocks) parts → sum_by length parts ≤ max_dependencies
    → AreFewOthers blocks → AreWithin blocks
all-within blocks hosts spoken parts keeps are speak few depend low others = record {
  objects = keeps;
  escalations = few-escalations blocks hosts spoken are speak few;
  dependencies = few-dependencies blocks hosts parts are depend low;
  others = others;
}

-- a refusal for too many escalations is at the first place that passes their limit
pub escalations-first : escalations.OnePlacePasses → (blocks : List Block) (hosts : List (List ℕ)) (place line : ℕ) (fault : LimitFault) → AreWithinLimit blocks
    → AreHostLists blocks (objects_in blocks Service) hosts → fault ≡ counts.TooMany place line → escalated.IsRefusal blocks hosts fault → IsFirst (PassesEscalations blocks) (Some place)
escalations-first law blocks hosts place line fault keeps are is refused =
    ((keeps, (hosts, are, passes)), (λ k early said. earlier k early said))
  where
    passes : escalated_claims.PassesLimit blocks hosts place
    passes = (subst (λ (f : LimitFault). escalated.IsRefusal blocks hosts f) is refused).passes

    earlier : (k : ℕ) → k < place → PassesEscalations blocks k → ⊥
    earlier k early (within, (others, others_are, other)) =
        let same : place ≡ k = law blocks hosts place k passes
        (subst (λ (lists : List (List ℕ)). escalated_claims.PassesLimit blocks lists k) (hosts-one blocks (objects_in blocks Service) others hosts others_are are) other) in
        omega (arith, early, same)

-- ---- dependencies

-- blocks that keep within their limit pass it nowhere
few-depend : (blocks : List Block) → AreFewDependencies blocks → (place : ℕ) → PassesDependencies blocks place → ⊥
few-depend blocks (hosts, are, (count, given, few)) place (keeps, (others, others_are, passes)) =
    within-nowhere blocks others count place
    (subst (λ (lists : List (List ℕ)). GiveDependencies blocks lists (length blocks) count) (hosts-one blocks (objects_in blocks Service) hosts others are others_are) given) few passes

pub no-dependencies : (blocks : List Block) (hosts : List (List ℕ)) (parts : List (List Pair)) → AreHostLists blocks (objects_in blocks Service) hosts
    → ArePairsBelow blocks hosts (length blocks) parts → sum_by length parts ≤ max_dependencies → IsFirst (PassesDependencies blocks) None
no-dependencies blocks hosts parts are depend few = λ place passes. few-depend blocks (few-dependencies blocks hosts parts are depend few) place passes

-- nor do those that give too many objects, as there none are counted
pub unpaired : WithinPassesNowhere → (blocks : List Block) (place : ℕ) → PassesLimit blocks place → IsFirst (PassesDependencies blocks) None
unpaired law blocks place passes = λ k said. law blocks said.0 place passes

-- a refusal for too many dependencies is at the first place that passes their limit
pub dependencies-first : (blocks : List Block) (hosts : List (List ℕ)) (place line : ℕ) (fault : LimitFault) → AreWithinLimit blocks
    → AreHostLists blocks (objects_in blocks Service) hosts → fault ≡ counts.TooMany place line → dependent.IsRefusal blocks hosts fault → IsFirst (PassesDependencies blocks) (Some place)
dependencies-first blocks hosts place line fault keeps are is refused =
    ((keeps, (hosts, are, passes)), (λ k early said. earlier k early said))
  where
    passes : dependent_claims.PassesLimit blocks hosts place
    passes = (subst (λ (f : LimitFault). dependent.IsRefusal blocks hosts f) is refused).passes

    earlier : (k : ℕ) → k < place → PassesDependencies blocks k → ⊥
    earlier k early (within, (others, others_are, other)) =
        let same : place ≡ k = one-passes blocks hosts place k passes
        (subst (λ (lists : List (List ℕ)). dependent_claims.PassesLimit blocks lists k) (hosts-one blocks (objects_in blocks Service) others hosts others_are are) other) in
        omega (arith, early, same)

-- the first with which there are too many dependencies or others
pub rest-first : (blocks : List Block) (dependency other found : Option ℕ) → IsFirst (PassesDependencies blocks) dependency → IsFirst (PassesOther blocks) other
    → found ≡ lower dependency other → IsFirst (PassesRest blocks) found
rest-first blocks dependency other found dependencies others is =
    subst (λ (f : Option ℕ). IsFirst (PassesRest blocks) f) (sym is) (either-first (PassesDependencies blocks) (PassesOther blocks) dependency other dependencies others)

-- ---- loops of dependencies

-- where there are too many objects, no loop is looked for
pub unlooked : WithinPassesNowhere → (blocks : List Block) (place : ℕ) → PassesLimit blocks place → IsNowhere (IsDependencyLooped blocks)
unlooked law blocks place passes = λ k said. law blocks said.0 place passes

pub looped-none : (blocks : List Block) (hosts : List (List ℕ)) → AreHostLists blocks (objects_in blocks Service) hosts → HasNoDependencyLoop blocks hosts
    → IsNowhere (IsDependencyLooped blocks)
looped-none blocks hosts are none = λ place said.
    none place (subst (λ (lists : List (List ℕ)). dependencies.IsLoopedAt blocks lists place)
    (hosts-one blocks (objects_in blocks Service) said.1.0 hosts said.1.1 are) said.1.2)

pub looped-first : (blocks : List Block) (hosts : List (List ℕ)) (place : ℕ) → AreWithinLimit blocks → AreHostLists blocks (objects_in blocks Service) hosts
    → IsFirstLooped blocks hosts place → IsFirst (IsDependencyLooped blocks) (Some place)
looped-first blocks hosts place keeps are first = (
  (keeps, (hosts, are, first.looped)),
  (λ k early said. first.first k early
      (subst (λ (lists : List (List ℕ)). dependencies.IsLoopedAt blocks lists k) (hosts-one blocks (objects_in blocks Service) said.1.0 hosts said.1.1 are) said.1.2)),
)

pub looped-refused : (blocks : List Block) (place : ℕ) (found : LoadFault) → IsFirst (IsDependencyLooped blocks) (Some place) → IsOfPlace blocks place DependencyLoop found
    → IsAmong (IsFirstDependencyLooped blocks) found
looped-refused blocks place found first of =
    subst (λ (f : LoadFault). IsAmong (IsFirstDependencyLooped blocks) f) (sym of.is) (refl, line-of_first (IsDependencyLooped blocks) blocks place of.block of.here first)

-- where no loop is left, a refusal is the first of limits
pub over-of_both : (blocks : List Block) (found : LoadFault) → IsNowhere (IsDependencyLooped blocks) → IsAmong (IsFirstOver blocks) found → IsAmong (IsLoopedOrOver blocks) found
over-of_both blocks (load.Block line fault) none said = inr (none, said)
over-of_both blocks load.NoMemory none said = said
over-of_both blocks (load.Line line fault) none said = absurd said
over-of_both blocks load.TooLarge none said = absurd said

-- ---- all limits together

-- blocks that keep within the limits pass none
pub over-nowhere : WithinPassesNowhere → escalations.WithinPassesNowhere → (blocks : List Block) → AreWithin blocks → IsNowhere (IsOver blocks)
over-nowhere law escalation_law blocks within = λ place over. by_kind place over
  where
    by_kind : (place : ℕ) → IsOver blocks place → ⊥
    by_kind place (inl passes) = law blocks within.objects place passes
    by_kind place (inr (inl passes)) = few-pass escalation_law blocks within.escalations place passes
    by_kind place (inr (inr (inl depend))) = few-depend blocks within.dependencies place depend
    by_kind place (inr (inr (inr (inl contact)))) =
        let low = slice_get_within (objects_in blocks Contact) max_contacts place contact in let few = within.others.contacts in omega (arith, low, few)
    by_kind place (inr (inr (inr (inr (inl period))))) =
        let low = slice_get_within (objects_in blocks TimePeriod) max_periods place period in let few = within.others.periods in omega (arith, low, few)
    by_kind place (inr (inr (inr (inr (inr (lanes, are, (command, here, there))))))) =
        let low = slice_get_within lanes max_lanes command here in let few = within.others.lanes lanes are in omega (arith, low, few)

-- the first with which there are too many objects
pub passes-first : OnePlacePasses → (blocks : List Block) (place : ℕ) → PassesLimit blocks place → IsFirst (PassesLimit blocks) (Some place)
passes-first law blocks place passes = (passes, (λ k early said. let same : place ≡ k = law blocks place k passes said in omega (arith, early, same)))

pub over-first : (blocks : List Block) (one escalation other : Option ℕ) (place : ℕ) → IsFirst (PassesLimit blocks) one → IsFirst (PassesEscalations blocks) escalation
    → IsFirst (PassesRest blocks) other → Some place ≡ lower one (lower escalation other) → IsFirst (IsOver blocks) (Some place)
over-first blocks one escalation other place passes escalations others is =
    subst (λ (f : Option ℕ). IsFirst (IsOver blocks) f) (sym is)
    (either-first (PassesLimit blocks) (λ n. PassesEscalations blocks n ⊎ PassesRest blocks n) one (lower escalation other) passes
    (either-first (PassesEscalations blocks) (PassesRest blocks) escalation other escalations others))

pub over-within : (blocks : List Block) (place : ℕ) → IsOver blocks place → place < length blocks
over-within blocks place (inl passes) = passes.within
over-within blocks place (inr (inl (keeps, (hosts, are, passes)))) = passes.within
over-within blocks place (inr (inr (inl (keeps, (hosts, are, passes))))) = passes.within
over-within blocks place (inr (inr (inr (inl contact)))) = object-within blocks Contact max_contacts place contact
over-within blocks place (inr (inr (inr (inr (inl period))))) = object-within blocks TimePeriod max_periods place period
over-within blocks place (inr (inr (inr (inr (inr (lanes, are, (command, here, there))))))) = object-within blocks Command command place there

pub over-refused : (blocks : List Block) (place : ℕ) (found : LoadFault) → IsFirst (IsOver blocks) (Some place) → IsOfPlace blocks place TooMany found
    → IsAmong (IsFirstOver blocks) found
over-refused blocks place found first of =
    subst (λ (f : LoadFault). IsAmong (IsFirstOver blocks) f) (sym of.is) (refl, line-of_first (IsOver blocks) blocks place of.block of.here first)

-- ---- as the code has them

-- a refusal for too many objects is at the first place that passes their limit
pub counted-first : OnePlacePasses → (blocks own : List Block) (place line : ℕ) (fault : LimitFault) → own ≡ blocks → fault ≡ counts.TooMany place line
    → counted.IsRefusal own fault → IsFirst (PassesLimit blocks) (Some place)
counted-first law blocks own place line fault same is refused =
    passes-first law blocks place (subst (λ (bs : List Block). PassesLimit bs place) same (refused_passes fault is refused))
  where
    refused_passes : (f : LimitFault) → f ≡ counts.TooMany place line → counted.IsRefusal own f → PassesLimit own place
    refused_passes f equal said = (subst (λ (g : LimitFault). counted.IsRefusal own g) equal said).passes

pub counted-none : (blocks own : List Block) → own ≡ blocks → PassesNowhere own → IsFirst (PassesLimit blocks) None
counted-none blocks own same none = subst PassesNowhere same none
