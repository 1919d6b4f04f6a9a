-- The faults of the tables are those of the columns.
use Rattle.std.proofs.Common.{◌≡◌, ℕ, Bool, true, false, cond, List, [], ◌∷◌, ◌++◌, length, map, Option, Some, None, refl, sym, ap, ◌∙◌}
use Rattle.std.specs.Prelude.{◌&&◌, ◌||◌, slice_get}
use Rattle.std.specs.List.{list_any}
use Rattle.std.specs.Option.{option_and_then, option_or}
use Rattle.object_reader.specs.declared.block.Block.{Block}
use Rattle.object_reader.specs.declared.block.BlockKind.{BlockKind}
use Rattle.object_reader.specs.declared.block.BlockKind.TheVariants.{Host, HostGroup, Service, ServiceGroup, Contact, ContactGroup, TimePeriod, Command, HostEscalation, ServiceEscalation, HostDependency, ServiceDependency, HostExtInfo, ServiceExtInfo}
use Rattle.object_faults.specs.declared.column.Check.{Check}
use Rattle.object_faults.specs.declared.column.Check.TheVariants.{Given, Number, Ranges, Zero, Names}
use Rattle.object_faults.specs.declared.fault.ValueFault.{ValueFault}
use Rattle.object_faults.specs.declared.fault.ValueFault.TheVariants.{MissingDirective, BadNumber, BadOption, BadRange, Volatile, Exclusion}
use Rattle.object_faults.specs.declared.first.Found.{Found}
use Rattle.std.proofs.lemmas.Option.{slice_get_within}
use Rattle.object_faults.specs.declared.needs.Side.TheVariants.{Masters, Dependents}
use Rattle.object_faults.specs.Columns.{any_at, column_fault, date_at, date_by, date_fault, first_of, IsFirst, lower_fault, name_columns, plain_fault, registered_fault, side_fault, value_columns, whole_at}
use Rattle.object_faults.specs.claims.Dated.{has_bad_line, has_other_line}
use Rattle.object_faults.specs.claims.Faults.{AreFree, fault_by, fault_of, is_broken, is_lacking, is_registered, IsFirstFault, lacks, value_fault}
use Rattle.object_inheritance.specs.claims.Kinds.{is_period}
use Rattle.object_faults.proofs.RankLemmas.{merged}
use Rattle.object_faults.specs.claims.Tables.{name_lists, names, numbers, option_lists, range_lines, zeros}

-- faults that are all one, before others
group : {X : Type 0} (fault : ValueFault) (broken : X → Bool) (xs : List X) (others : List (Option ValueFault))
    → first_of (map (λ x. cond (broken x) (Some fault) None) xs ++ others) ≡ cond (list_any broken xs) (Some fault) (first_of others)
group fault broken [] others = refl
group fault broken (x ∷ xs) others =
    elim (broken x) as (λ b. option_or (cond b (Some fault) None) (first_of (map (λ y. cond (broken y) (Some fault) None) xs ++ others))
    ≡ cond (b || list_any broken xs) (Some fault) (first_of others)) [ true ↦ refl | false ↦ group fault broken xs others ]

-- the same alone
alone : {X : Type 0} (fault : ValueFault) (broken : X → Bool) (xs : List X)
    → first_of (map (λ x. cond (broken x) (Some fault) None) xs) ≡ cond (list_any broken xs) (Some fault) None
alone fault broken [] = refl
alone fault broken (x ∷ xs) =
    elim (broken x) as (λ b. option_or (cond b (Some fault) None) (first_of (map (λ y. cond (broken y) (Some fault) None) xs))
    ≡ cond (b || list_any broken xs) (Some fault) None) [ true ↦ refl | false ↦ alone fault broken xs ]

-- what is missing, before others
lacking : (unnamed masters dependents : Bool) (others : Option ValueFault)
    → option_or (option_or (cond unnamed (Some MissingDirective) None)
    (option_or (cond masters (Some MissingDirective) None) (cond dependents (Some MissingDirective) None))) others
    ≡ cond (unnamed || masters || dependents) (Some MissingDirective) others
lacking true masters dependents others = refl
lacking false true dependents others = refl
lacking false false true others = refl
lacking false false false others = refl

module _ (blocks : List Block) (place : ℕ) where
  -- the first fault of the values
  abbrev value_of : List (List ℕ) → List (Check × List ℕ) → (rs zs ls : List (List ℕ)) → Option ValueFault
  value_of ns os rs zs ls = first_of (map (λ d. cond (is_broken blocks place Number d) (Some BadNumber) None) ns
      ++ (map (λ row. cond (is_broken blocks place row.0 row.1) (Some BadOption) None) os
      ++ (map (λ d. cond (is_broken blocks place Ranges d) (Some BadRange) None) rs
      ++ (map (λ d. cond (is_broken blocks place Zero d) (Some Volatile) None) zs
      ++ (map (λ d. cond (is_broken blocks place Names d) (Some Exclusion) None) ls ++ [])))))

  values : (ns : List (List ℕ)) (os : List (Check × List ℕ)) (rs zs ls : List (List ℕ)) → value_of ns os rs zs ls
      ≡ fault_by false (list_any (is_broken blocks place Number) ns) (list_any (λ row. is_broken blocks place row.0 row.1) os)
      (list_any (is_broken blocks place Ranges) rs) (list_any (is_broken blocks place Zero) zs) (list_any (is_broken blocks place Names) ls) false
  values ns os rs zs ls =
      group BadNumber (is_broken blocks place Number) ns _
      ∙ ap (λ rest. cond (list_any (is_broken blocks place Number) ns) (Some BadNumber) rest)
      (group BadOption (λ row. is_broken blocks place row.0 row.1) os _
      ∙ ap (λ rest. cond (list_any (λ row. is_broken blocks place row.0 row.1) os) (Some BadOption) rest)
      (group BadRange (is_broken blocks place Ranges) rs _
      ∙ ap (λ rest. cond (list_any (is_broken blocks place Ranges) rs) (Some BadRange) rest)
      (group Volatile (is_broken blocks place Zero) zs _
      ∙ ap (λ rest. cond (list_any (is_broken blocks place Zero) zs) (Some Volatile) rest) (group Exclusion (is_broken blocks place Names) ls []))))

  groups : (gs : List (List ℕ)) (masters dependents : Bool) (ns : List (List ℕ)) (os : List (Check × List ℕ)) (rs zs ls : List (List ℕ))
      → option_or (option_or (first_of (map (λ d. cond (is_broken blocks place Given d) (Some MissingDirective) None) gs))
      (option_or (cond masters (Some MissingDirective) None) (cond dependents (Some MissingDirective) None))) (value_of ns os rs zs ls)
      ≡ fault_by (list_any (is_broken blocks place Given) gs || masters || dependents)
      (list_any (is_broken blocks place Number) ns) (list_any (λ row. is_broken blocks place row.0 row.1) os)
      (list_any (is_broken blocks place Ranges) rs) (list_any (is_broken blocks place Zero) zs) (list_any (is_broken blocks place Names) ls) false
  groups gs masters dependents ns os rs zs ls =
      ap (λ missing. option_or (option_or missing (option_or (cond masters (Some MissingDirective) None) (cond dependents (Some MissingDirective) None))) (value_of ns os rs zs ls))
      (alone MissingDirective (is_broken blocks place Given) gs)
      ∙ lacking (list_any (is_broken blocks place Given) gs) masters dependents (value_of ns os rs zs ls)
      ∙ ap (λ rest. cond (list_any (is_broken blocks place Given) gs || masters || dependents) (Some MissingDirective) rest) (values ns os rs zs ls)

  -- the first fault of a block of the type, column by column
  abbrev found_of : BlockKind → Option ValueFault
  found_of kind = option_or (option_or (first_of (map (column_fault blocks place kind) name_columns))
      (option_or (cond (lacks blocks place kind Masters) (Some MissingDirective) None) (cond (lacks blocks place kind Dependents) (Some MissingDirective) None)))
      (first_of (map (column_fault blocks place kind) value_columns))

  by_kind : (kind : BlockKind) → found_of kind ≡ plain_fault blocks place kind
  by_kind Host = groups (names Host) (lacks blocks place Host Masters) (lacks blocks place Host Dependents)
      (numbers Host) (option_lists Host) (range_lines Host) (zeros Host) (name_lists Host)
  by_kind HostGroup = groups (names HostGroup) (lacks blocks place HostGroup Masters) (lacks blocks place HostGroup Dependents)
      (numbers HostGroup) (option_lists HostGroup) (range_lines HostGroup) (zeros HostGroup) (name_lists HostGroup)
  by_kind Service = groups (names Service) (lacks blocks place Service Masters) (lacks blocks place Service Dependents)
      (numbers Service) (option_lists Service) (range_lines Service) (zeros Service) (name_lists Service)
  by_kind ServiceGroup = groups (names ServiceGroup) (lacks blocks place ServiceGroup Masters) (lacks blocks place ServiceGroup Dependents)
      (numbers ServiceGroup) (option_lists ServiceGroup) (range_lines ServiceGroup) (zeros ServiceGroup) (name_lists ServiceGroup)
  by_kind Contact = groups (names Contact) (lacks blocks place Contact Masters) (lacks blocks place Contact Dependents)
      (numbers Contact) (option_lists Contact) (range_lines Contact) (zeros Contact) (name_lists Contact)
  by_kind ContactGroup = groups (names ContactGroup) (lacks blocks place ContactGroup Masters) (lacks blocks place ContactGroup Dependents)
      (numbers ContactGroup) (option_lists ContactGroup) (range_lines ContactGroup) (zeros ContactGroup) (name_lists ContactGroup)
  by_kind TimePeriod = groups (names TimePeriod) (lacks blocks place TimePeriod Masters) (lacks blocks place TimePeriod Dependents)
      (numbers TimePeriod) (option_lists TimePeriod) (range_lines TimePeriod) (zeros TimePeriod) (name_lists TimePeriod)
  by_kind Command = groups (names Command) (lacks blocks place Command Masters) (lacks blocks place Command Dependents)
      (numbers Command) (option_lists Command) (range_lines Command) (zeros Command) (name_lists Command)
  by_kind HostEscalation = groups (names HostEscalation) (lacks blocks place HostEscalation Masters) (lacks blocks place HostEscalation Dependents)
      (numbers HostEscalation) (option_lists HostEscalation) (range_lines HostEscalation) (zeros HostEscalation) (name_lists HostEscalation)
  by_kind ServiceEscalation = groups (names ServiceEscalation) (lacks blocks place ServiceEscalation Masters) (lacks blocks place ServiceEscalation Dependents)
      (numbers ServiceEscalation) (option_lists ServiceEscalation) (range_lines ServiceEscalation) (zeros ServiceEscalation) (name_lists ServiceEscalation)
  by_kind HostDependency = groups (names HostDependency) (lacks blocks place HostDependency Masters) (lacks blocks place HostDependency Dependents)
      (numbers HostDependency) (option_lists HostDependency) (range_lines HostDependency) (zeros HostDependency) (name_lists HostDependency)
  by_kind ServiceDependency = groups (names ServiceDependency) (lacks blocks place ServiceDependency Masters) (lacks blocks place ServiceDependency Dependents)
      (numbers ServiceDependency) (option_lists ServiceDependency) (range_lines ServiceDependency) (zeros ServiceDependency) (name_lists ServiceDependency)
  by_kind HostExtInfo = groups (names HostExtInfo) (lacks blocks place HostExtInfo Masters) (lacks blocks place HostExtInfo Dependents)
      (numbers HostExtInfo) (option_lists HostExtInfo) (range_lines HostExtInfo) (zeros HostExtInfo) (name_lists HostExtInfo)
  by_kind ServiceExtInfo = groups (names ServiceExtInfo) (lacks blocks place ServiceExtInfo Masters) (lacks blocks place ServiceExtInfo Dependents)
      (numbers ServiceExtInfo) (option_lists ServiceExtInfo) (range_lines ServiceExtInfo) (zeros ServiceExtInfo) (name_lists ServiceExtInfo)

  -- the first fault of the directives is that of the tables
  plain-is : (block : Block) → slice_get blocks place ≡ Some block → any_at blocks place ≡ cond (is_registered block) (plain_fault blocks place block.kind) None
  plain-is block here =
      ap (λ found. option_or (option_or (first_of (map (λ column. option_and_then (registered_fault blocks place column) found) name_columns))
      (option_or (option_and_then (side_fault blocks place Masters) found) (option_and_then (side_fault blocks place Dependents) found)))
      (first_of (map (λ column. option_and_then (registered_fault blocks place column) found) value_columns))) here
      ∙ elim (is_registered block) as (λ b. option_or (option_or (first_of (map (λ column. cond b (column_fault blocks place block.kind column) None) name_columns))
      (option_or (cond (b && lacks blocks place block.kind Masters) (Some MissingDirective) None) (cond (b && lacks blocks place block.kind Dependents) (Some MissingDirective) None)))
      (first_of (map (λ column. cond b (column_fault blocks place block.kind column) None) value_columns)) ≡ cond b (plain_fault blocks place block.kind) None) [
        | true ↦ by_kind block.kind
        | false ↦ refl
      ]

  -- the first fault that is found is that of the block
  pub first-is : (block : Block) → slice_get blocks place ≡ Some block → whole_at blocks place ≡ fault_of blocks place block
  first-is block here =
      let kind = block.kind in
      ap (λ plain. lower_fault plain (date_at blocks place)) (plain-is block here)
      ∙ ap (λ found. lower_fault (cond (is_registered block) (plain_fault blocks place kind) None) (option_and_then (date_fault blocks place) found)) here
      ∙ elim (is_registered block) as (λ b. lower_fault (cond b (plain_fault blocks place kind) None) (cond (b && is_period kind) (date_by (has_bad_line blocks place) (has_other_line blocks place)) None)
      ≡ cond b (value_fault blocks place kind) None) [
        | true ↦ merged (is_lacking blocks place kind) (list_any (is_broken blocks place Number) (numbers kind)) (list_any (λ row. is_broken blocks place row.0 row.1) (option_lists kind))
            (list_any (is_broken blocks place Ranges) (range_lines kind)) (list_any (is_broken blocks place Zero) (zeros kind)) (list_any (is_broken blocks place Names) (name_lists kind))
            (is_period kind) (has_bad_line blocks place) (has_other_line blocks place)
        | false ↦ refl
      ]

-- ---- the first block with a fault

-- where none is found no block has a fault
pub free-none : (blocks : List Block) → IsFirst (length blocks) (whole_at blocks) None → AreFree blocks
free-none blocks none k block here = sym (first-is blocks k block here) ∙ none k (slice_get_within blocks k block here)

-- the block that is found has the first fault
pub first-fault : (blocks : List Block) (found : Found) (block : Block) → slice_get blocks found.place ≡ Some block
    → IsFirst (length blocks) (whole_at blocks) (Some found) → IsFirstFault blocks block.line found.fault
first-fault blocks found block here is = record {
  place = found.place;
  block = block;
  here = here;
  at = refl;
  refused = sym (first-is blocks found.place block here) ∙ is.1;
  before = λ k earlier early at. sym (first-is blocks k earlier at) ∙ is.2 k early;
}
