-- The first of all faults is the one that loading answers.
use Rattle.std.proofs.Common.{◌≡◌, ℕ, zero, suc, ◌+◌, ◌<◌, ◌≤◌, Bool, true, false, cond, ◌&&◌, ◌||◌, List, [], ◌∷◌, ◌++◌, length, map, filter, Option, Some, None, refl, sym, ap, subst, ⊎_elim, ◌∙◌, arith}
use Rattle.std.specs.Prelude.{is_some, not, slice_get, ◌==◌}
use Rattle.std.specs.List.{flat_map, list_any, range_with_len}
use Rattle.std.specs.Option.{option_map_or, option_or}
use Rattle.std.proofs.lemmas.Bool.{cases_lt, false≢true}
use Rattle.std.proofs.lemmas.Option.{slice_get_within}
use Rattle.lemmas.proofs.Lists.{at-within, some_at}
use Rattle.object_check.specs.Answered.{AreAnswered, AreAnsweredNames, fault_by, IsAnswered}
use Rattle.object_check.specs.Marks.{block_breaks, breaks, breaks_at, breaks_row, name_misfits, value_misfits}
use Rattle.object_check.specs.Misfits.{misfits_at}
use Rattle.object_check.specs.Rows.{Asked, name_rows, value_rows}
use Rattle.object_check.specs.declared.misfits.Misfit.{Misfit}
use Rattle.object_faults.specs.Columns.{first_of}
use Rattle.object_faults.specs.claims.Dated.{has_bad_line, has_other_line}
use Rattle.object_faults.specs.claims.Faults as faults
use Rattle.object_faults.specs.claims.Faults.{fault_of, is_broken, is_registered, lacks, value_fault}
use Rattle.object_faults.specs.claims.Tables.{name_lists, names, numbers, option_lists, range_lines, zeros}
use Rattle.object_faults.specs.declared.column.Check.{Check}
use Rattle.object_faults.specs.declared.column.Check.TheVariants.{Given, Number, Ranges, Zero, Names}
use Rattle.object_faults.specs.declared.fault.ValueFault.{ValueFault}
use Rattle.object_faults.specs.declared.fault.ValueFault.TheVariants.{MissingDirective, BadNumber, BadOption, BadRange, Volatile, Exclusion, DatedException}
use Rattle.object_faults.specs.declared.needs.Side.TheVariants.{Masters, Dependents}
use Rattle.object_inheritance.specs.claims.Kinds.{is_period, means_nothing}
use Rattle.object_inheritance.specs.claims.Templates.{kind_number}
use Rattle.object_names.specs.claims.References.{references}
use Rattle.object_names.specs.claims.Unknown as unknown
use Rattle.object_reader.specs.declared.block.Block.{Block}
use Rattle.object_reader.specs.declared.block.BlockKind.{BlockKind}
use Rattle.object_reader.specs.declared.block.BlockKind.TheVariants.{Host, HostGroup, Service, ServiceGroup, Contact, ContactGroup, TimePeriod, Command, HostEscalation, ServiceEscalation, HostDependency, ServiceDependency, HostExtInfo, ServiceExtInfo}
use Rattle.object_names.specs.claims.Unknown.{HasUnknown}
use Rattle.object_groups.specs.claims.First.{IsFirst}

no-cons : {X : Type 0} (x : X) (xs : List X) → [] ≡ x ∷ xs → ⊥
no-cons x xs is = let lengths = ap length is in omega (arith, lengths)

-- ---- the first number that passes

pub record IsHead (p : ℕ → Bool) (from end at : ℕ) : Type 0 where
  pub low : from ≤ at
  pub high : at < end
  pub is : p at ≡ true
  pub before : (k : ℕ) → from ≤ k → k < at → p k ≡ false

range-head : (p : ℕ → Bool) (from count at : ℕ) (rest : List ℕ) → filter p (range_with_len from count) ≡ at ∷ rest → IsHead p from (from + count) at
range-head p from zero at rest is = absurd (no-cons at rest is)
range-head p from (suc count) at rest is = by_test (p from) refl is (range-head p (from + 1) count at rest)
  where
    by_test : (b : Bool) → p from ≡ b → cond b (from ∷ filter p (range_with_len (from + 1) count)) (filter p (range_with_len (from + 1) count)) ≡ at ∷ rest
        → (filter p (range_with_len (from + 1) count) ≡ at ∷ rest → IsHead p (from + 1) (from + 1 + count) at) → IsHead p from (from + suc count) at
    by_test true passes here next = let same : from ≡ at = cc in record {
      low = omega (arith, same);
      high = omega (arith, same);
      is = ap p (sym same) ∙ passes;
      before = λ k low early. absurd (omega (arith, same, low, early));
    }
    by_test false fails later next = let more = next later in record {
      low = let l = more.low in omega (arith, l);
      high = let h = more.high in omega (arith, h);
      is = more.is;
      before = λ k low early. ⊎_elim
          (λ (at_first : k < from + 1). let same : k ≡ from = omega (arith, low, at_first) in ap p same ∙ fails)
          (λ (late : from + 1 ≤ k). more.before k late early)
          (cases_lt k (from + 1));
    }

range-none : (p : ℕ → Bool) (from count : ℕ) → filter p (range_with_len from count) ≡ [] → (k : ℕ) → from ≤ k → k < from + count → p k ≡ false
range-none p from zero none k low high = absurd (omega (arith, low, high))
range-none p from (suc count) none k low high = by_test (p from) refl none (λ empty late. range-none p (from + 1) count empty k late (omega (arith, high)))
  where
    by_test : (b : Bool) → p from ≡ b → cond b (from ∷ filter p (range_with_len (from + 1) count)) (filter p (range_with_len (from + 1) count)) ≡ []
        → (filter p (range_with_len (from + 1) count) ≡ [] → from + 1 ≤ k → p k ≡ false) → p k ≡ false
    by_test true passes some next = absurd (no-cons from _ (sym some))
    by_test false fails more next = ⊎_elim
        (λ (at_first : k < from + 1). let same : k ≡ from = omega (arith, low, at_first) in ap p same ∙ fails)
        (λ (late : from + 1 ≤ k). next more late)
        (cases_lt k (from + 1))

-- ---- the first of the blocks

pub record IsHeadOf (f : ℕ → List Misfit) (from end : ℕ) (misfit : Misfit) : Type 0 where
  pub at : ℕ
  pub low : from ≤ at
  pub high : at < end
  pub others : List Misfit
  pub is : f at ≡ misfit ∷ others
  pub before : (k : ℕ) → from ≤ k → k < at → f k ≡ []

blocks-head : (f : ℕ → List Misfit) (from count : ℕ) (misfit : Misfit) (rest : List Misfit) → flat_map f (range_with_len from count) ≡ misfit ∷ rest → IsHeadOf f from (from + count) misfit
blocks-head f from zero misfit rest is = absurd (no-cons misfit rest is)
blocks-head f from (suc count) misfit rest is = by_list (f from) refl is (blocks-head f (from + 1) count misfit rest)
  where
    by_list : (found : List Misfit) → f from ≡ found → found ++ flat_map f (range_with_len (from + 1) count) ≡ misfit ∷ rest
        → (flat_map f (range_with_len (from + 1) count) ≡ misfit ∷ rest → IsHeadOf f (from + 1) (from + 1 + count) misfit) → IsHeadOf f from (from + suc count) misfit
    by_list (one ∷ others) are here next = let same : one ≡ misfit = cc in record {
      at = from;
      low = omega arith;
      high = omega arith;
      others = others;
      is = are ∙ ap (λ (m : Misfit). m ∷ others) same;
      before = λ k low early. absurd (omega (arith, low, early));
    }
    by_list [] none later next = let more = next later in record {
      at = more.at;
      low = let l = more.low in omega (arith, l);
      high = let h = more.high in omega (arith, h);
      others = more.others;
      is = more.is;
      before = λ k low early. ⊎_elim
          (λ (at_first : k < from + 1). let same : k ≡ from = omega (arith, low, at_first) in ap f same ∙ none)
          (λ (late : from + 1 ≤ k). more.before k late early)
          (cases_lt k (from + 1));
    }

blocks-none : (f : ℕ → List Misfit) (from count : ℕ) → flat_map f (range_with_len from count) ≡ [] → (k : ℕ) → from ≤ k → k < from + count → f k ≡ []
blocks-none f from zero none k low high = absurd (omega (arith, low, high))
blocks-none f from (suc count) none k low high = by_list (f from) refl none (λ empty late. blocks-none f (from + 1) count empty k late (omega (arith, high)))
  where
    by_list : (found : List Misfit) → f from ≡ found → found ++ flat_map f (range_with_len (from + 1) count) ≡ []
        → (flat_map f (range_with_len (from + 1) count) ≡ [] → from + 1 ≤ k → f k ≡ []) → f k ≡ []
    by_list (one ∷ others) are some next = absurd (no-cons one _ (sym some))
    by_list [] is more next = ⊎_elim
        (λ (at_first : k < from + 1). let same : k ≡ from = omega (arith, low, at_first) in ap f same ∙ is)
        (λ (late : from + 1 ≤ k). next more late)
        (cases_lt k (from + 1))

-- ---- the first of the rows

module _ (b : Asked → Bool) (f : Asked → ValueFault) where
  abbrev one : Asked → Option ValueFault
  one row = cond (b row) (Some (f row)) None

  abbrev has : List Asked → ℕ → Bool
  has rows k = option_map_or b (slice_get rows k) false

  first-none : (rows : List Asked) → ((k : ℕ) → k < length rows → has rows k ≡ false) → first_of (map one rows) ≡ None
  first-none [] none = refl
  first-none (row ∷ rows) none =
      ap (λ (flag : Bool). option_or (cond flag (Some (f row)) None) (first_of (map one rows))) (none 0 (omega arith))
      ∙ first-none rows (λ k low. none (suc k) (omega (arith, low)))

  first-at : (rows : List Asked) (at : ℕ) (row : Asked) → slice_get rows at ≡ Some row → b row ≡ true → ((k : ℕ) → k < at → has rows k ≡ false) → first_of (map one rows) ≡ Some (f row)
  first-at [] at row here is before = absurd (false≢true (ap is_some here))
  first-at (x ∷ rows) zero row here is before = let same : x ≡ row = cc in
      ap (λ (r : Asked). option_or (cond (b r) (Some (f r)) None) (first_of (map one rows))) same
      ∙ ap (λ (flag : Bool). option_or (cond flag (Some (f row)) None) (first_of (map one rows))) is
  first-at (x ∷ rows) (suc at) row here is before =
      ap (λ (flag : Bool). option_or (cond flag (Some (f x)) None) (first_of (map one rows))) (before 0 (omega arith))
      ∙ first-at rows at row here is (λ k low. before (suc k) (omega (arith, low)))

some-row : (b : Asked → Bool) (rows : List Asked) (at : ℕ) → option_map_or b (slice_get rows at) false ≡ true → (row : Asked) × (slice_get rows at ≡ Some row) × (b row ≡ true)
some-row b rows at is = by_found (slice_get rows at) refl is
  where
    by_found : (found : Option Asked) → slice_get rows at ≡ found → option_map_or b found false ≡ true → (row : Asked) × (slice_get rows at ≡ Some row) × (b row ≡ true)
    by_found None here fails = absurd (false≢true fails)
    by_found (Some row) here passes = (row, here, passes)

-- ---- the faults of a block, by the tables

group : {X : Type 0} (fault : ValueFault) (broken : X → Bool) (xs : List X) (others : List (Option ValueFault))
    → first_of (map (λ x. cond (broken x) (Some fault) None) xs ++ others) ≡ cond (list_any broken xs) (Some fault) (first_of others)
group fault broken [] others = refl
group fault broken (x ∷ xs) others =
    elim (broken x) as (λ b. option_or (cond b (Some fault) None) (first_of (map (λ y. cond (broken y) (Some fault) None) xs ++ others))
    ≡ cond (b || list_any broken xs) (Some fault) (first_of others)) [ true ↦ refl | false ↦ group fault broken xs others ]

single : (fault : ValueFault) (b : Bool) (rest : Option ValueFault) → option_or (cond b (Some fault) None) rest ≡ cond b (Some fault) rest
single fault true rest = refl
single fault false rest = refl

three : (a b c : Bool) (x y : Option ValueFault) → cond a x (cond b x (cond c x y)) ≡ cond (a || b || c) x y
three true b c x y = refl
three false true c x y = refl
three false false true x y = refl
three false false false x y = refl

two : (a b : Bool) (x y : Option ValueFault) → cond a x (cond b x y) ≡ cond (a || b) x y
two true b x y = refl
two false true x y = refl
two false false x y = refl

module _ (blocks : List Block) (place : ℕ) where
  abbrev flags : ValueFault → (List ℕ → Bool) → List (List ℕ) → List (Option ValueFault)
  flags fault broken ds = map (λ d. cond (broken d) (Some fault) None) ds

  abbrev of_lists : List (List ℕ) → Bool → List (Option ValueFault)
  of_lists ls other = flags Exclusion (is_broken blocks place Names) ls ++ cond other (Some DatedException) None ∷ []

  abbrev of_ranges : (rs : List (List ℕ)) (bad : Bool) (zs ls : List (List ℕ)) (other : Bool) → List (Option ValueFault)
  of_ranges rs bad zs ls other = flags BadRange (is_broken blocks place Ranges) rs ++ (cond bad (Some BadRange) None
      ∷ (flags Volatile (is_broken blocks place Zero) zs ++ of_lists ls other))

  abbrev of_options : (os : List (Check × List ℕ)) (rs : List (List ℕ)) (bad : Bool) (zs ls : List (List ℕ)) (other : Bool) → List (Option ValueFault)
  of_options os rs bad zs ls other = map (λ row. cond (is_broken blocks place row.0 row.1) (Some BadOption) None) os ++ of_ranges rs bad zs ls other

  abbrev of_all : (gs : List (List ℕ)) (m d : Bool) (ns : List (List ℕ)) (os : List (Check × List ℕ)) (rs : List (List ℕ)) (bad : Bool) (zs ls : List (List ℕ)) (other : Bool) → List (Option ValueFault)
  of_all gs m d ns os rs bad zs ls other = flags MissingDirective (is_broken blocks place Given) gs ++ (cond m (Some MissingDirective) None ∷ (cond d (Some MissingDirective) None
      ∷ (flags BadNumber (is_broken blocks place Number) ns ++ of_options os rs bad zs ls other)))

  lists-are : (ls : List (List ℕ)) (other : Bool) → first_of (of_lists ls other) ≡ faults.fault_by false false false false false (list_any (is_broken blocks place Names) ls) other
  lists-are ls other =
      group Exclusion (is_broken blocks place Names) ls (cond other (Some DatedException) None ∷ [])
      ∙ ap (cond (list_any (is_broken blocks place Names) ls) (Some Exclusion)) (single DatedException other None)

  ranges-are : (rs : List (List ℕ)) (bad : Bool) (zs ls : List (List ℕ)) (other : Bool) → first_of (of_ranges rs bad zs ls other)
      ≡ faults.fault_by false false false (list_any (is_broken blocks place Ranges) rs || bad) (list_any (is_broken blocks place Zero) zs) (list_any (is_broken blocks place Names) ls) other
  ranges-are rs bad zs ls other =
      group BadRange (is_broken blocks place Ranges) rs (cond bad (Some BadRange) None ∷ (flags Volatile (is_broken blocks place Zero) zs ++ of_lists ls other))
      ∙ ap (cond (list_any (is_broken blocks place Ranges) rs) (Some BadRange)) (single BadRange bad _ ∙ ap (cond bad (Some BadRange))
      (group Volatile (is_broken blocks place Zero) zs (of_lists ls other) ∙ ap (cond (list_any (is_broken blocks place Zero) zs) (Some Volatile)) (lists-are ls other)))
      ∙ two (list_any (is_broken blocks place Ranges) rs) bad (Some BadRange) _

  all-are : (gs : List (List ℕ)) (m d : Bool) (ns : List (List ℕ)) (os : List (Check × List ℕ)) (rs : List (List ℕ)) (bad : Bool) (zs ls : List (List ℕ)) (other : Bool)
      → first_of (of_all gs m d ns os rs bad zs ls other)
      ≡ faults.fault_by (list_any (is_broken blocks place Given) gs || m || d) (list_any (is_broken blocks place Number) ns) (list_any (λ row. is_broken blocks place row.0 row.1) os)
      (list_any (is_broken blocks place Ranges) rs || bad) (list_any (is_broken blocks place Zero) zs) (list_any (is_broken blocks place Names) ls) other
  all-are gs m d ns os rs bad zs ls other =
      group MissingDirective (is_broken blocks place Given) gs _
      ∙ ap (cond (list_any (is_broken blocks place Given) gs) (Some MissingDirective)) (single MissingDirective m _ ∙ ap (cond m (Some MissingDirective)) (single MissingDirective d _
      ∙ ap (cond d (Some MissingDirective)) (group BadNumber (is_broken blocks place Number) ns (of_options os rs bad zs ls other)
      ∙ ap (cond (list_any (is_broken blocks place Number) ns) (Some BadNumber)) (group BadOption (λ row. is_broken blocks place row.0 row.1) os (of_ranges rs bad zs ls other)
      ∙ ap (cond (list_any (λ row. is_broken blocks place row.0 row.1) os) (Some BadOption)) (ranges-are rs bad zs ls other)))))
      ∙ three (list_any (is_broken blocks place Given) gs) m d (Some MissingDirective) _

  -- whether a block of the type breaks the row
  abbrev kind_breaks : BlockKind → Asked → Bool
  kind_breaks kind row = (kind_number kind == kind_number row.kind && true) && breaks blocks place row.kind row.must row.directive

  abbrev first_fault : BlockKind → Option ValueFault
  first_fault kind = first_of (map (λ row. cond (kind_breaks kind row) (Some (fault_by row.must)) None) value_rows)

  abbrev from_tables : (kind : BlockKind) → first_of (of_all (names kind) (lacks blocks place kind Masters) (lacks blocks place kind Dependents) (numbers kind) (option_lists kind)
      (range_lines kind) (is_period kind && has_bad_line blocks place) (zeros kind) (name_lists kind) (is_period kind && has_other_line blocks place)) ≡ value_fault blocks place kind
  from_tables kind = all-are (names kind) (lacks blocks place kind Masters) (lacks blocks place kind Dependents) (numbers kind) (option_lists kind)
      (range_lines kind) (is_period kind && has_bad_line blocks place) (zeros kind) (name_lists kind) (is_period kind && has_other_line blocks place)

  by_kind : (kind : BlockKind) → first_fault kind ≡ value_fault blocks place kind
  by_kind Host = from_tables Host
  by_kind HostGroup = from_tables HostGroup
  by_kind Service = from_tables Service
  by_kind ServiceGroup = from_tables ServiceGroup
  by_kind Contact = from_tables Contact
  by_kind ContactGroup = from_tables ContactGroup
  by_kind TimePeriod = from_tables TimePeriod
  by_kind Command = from_tables Command
  by_kind HostEscalation = from_tables HostEscalation
  by_kind ServiceEscalation = from_tables ServiceEscalation
  by_kind HostDependency = from_tables HostDependency
  by_kind ServiceDependency = from_tables ServiceDependency
  by_kind HostExtInfo = from_tables HostExtInfo
  by_kind ServiceExtInfo = from_tables ServiceExtInfo

-- a block of which nothing is so
all-none : (b : Asked → Bool) (f : Asked → ValueFault) (rows : List Asked) → ((row : Asked) → b row ≡ false) → first_of (map (λ row. cond (b row) (Some (f row)) None) rows) ≡ None
all-none b f [] none = refl
all-none b f (row ∷ rows) none =
    ap (λ (flag : Bool). option_or (cond flag (Some (f row)) None) (first_of (map (λ r. cond (b r) (Some (f r)) None) rows))) (none row) ∙ all-none b f rows none

none-left : (a b : Bool) → ((a && false) && b) ≡ false
none-left true b = refl
none-left false b = refl

module _ (blocks : List Block) (place : ℕ) (block : Block) (here : slice_get blocks place ≡ Some block) where
  abbrev fault_where : Bool → Option ValueFault
  fault_where registered = first_of (map (λ row. cond ((kind_number block.kind == kind_number row.kind && registered) && breaks blocks place row.kind row.must row.directive)
      (Some (fault_by row.must)) None) value_rows)

  where-registered : (registered : Bool) → fault_where registered ≡ cond registered (value_fault blocks place block.kind) None
  where-registered true = by_kind blocks place block.kind
  where-registered false = all-none (λ row. (kind_number block.kind == kind_number row.kind && false) && breaks blocks place row.kind row.must row.directive)
      (λ row. fault_by row.must) value_rows (λ row. none-left (kind_number block.kind == kind_number row.kind) (breaks blocks place row.kind row.must row.directive))

  -- the first fault by the rows is that of the block
  rows-are : first_of (map (λ row. cond (breaks_at blocks row place) (Some (fault_by row.must)) None) value_rows) ≡ fault_of blocks place block
  rows-are =
      ap (λ (found : Option Block). first_of (map (λ row. cond (option_map_or (block_breaks blocks place row) found false) (Some (fault_by row.must)) None) value_rows)) here
      ∙ where-registered (is_registered block)

-- ---- lists that are maps

map-none : {X Y : Type 0} (f : X → Y) (xs : List X) → map f xs ≡ [] → xs ≡ []
map-none f [] is = refl
map-none f (x ∷ xs) is = absurd (no-cons (f x) (map f xs) (sym is))

pub record IsMapped {X Y : Type 0} (f : X → Y) (xs : List X) (y : Y) : Type 0 where
  pub first : X
  pub rest : List X
  pub are : xs ≡ first ∷ rest
  pub same : f first ≡ y

map-some : {X Y : Type 0} (f : X → Y) (xs : List X) (y : Y) (ys : List Y) → map f xs ≡ y ∷ ys → IsMapped f xs y
map-some f [] y ys is = absurd (no-cons y ys is)
map-some f (x ∷ xs) y ys is = record { first = x; rest = xs; are = refl; same = cc }

-- ---- the values

module _ (blocks : List Block) where
  abbrev of_block : ℕ → List Misfit
  of_block = misfits_at (breaks_row blocks value_rows) (length value_rows)

  free-at : (k : ℕ) (block : Block) → of_block k ≡ [] → slice_get blocks k ≡ Some block → fault_of blocks k block ≡ None
  free-at k block none here =
      let empty = map-none (λ (row : ℕ). record { place = k; row = row }) (filter (λ row. breaks_row blocks value_rows row k) (range_with_len 0 (length value_rows))) none in
      sym (rows-are blocks k block here)
      ∙ first-none (λ row. breaks_at blocks row k) (λ row. fault_by row.must) value_rows
      (λ r low. range-none (λ row. breaks_row blocks value_rows row k) 0 (length value_rows) empty r (omega arith) (omega (arith, low)))

  answered-one : (misfit : Misfit) (rest : List Misfit) → value_misfits blocks ≡ misfit ∷ rest → IsAnswered blocks misfit
  answered-one misfit rest is =
      let head = blocks-head of_block 0 (length blocks) misfit rest is in
      let mapped = map-some (λ (row : ℕ). record { place = head.at; row = row }) (filter (λ row. breaks_row blocks value_rows row head.at) (range_with_len 0 (length value_rows)))
      misfit head.others head.is in
      let first = range-head (λ row. breaks_row blocks value_rows row head.at) 0 (length value_rows) mapped.first mapped.rest mapped.are in
      let row = some-row (λ asked. breaks_at blocks asked head.at) value_rows mapped.first first.is in
      let here = some_at blocks head.at (let h = head.high in omega (arith, h)) in
      let at_row : misfit.row ≡ mapped.first = sym (ap (λ (m : Misfit). m.row) mapped.same) in
      let at_place : misfit.place ≡ head.at = sym (ap (λ (m : Misfit). m.place) mapped.same) in
      record {
        row = row.0;
        listed = ap (slice_get value_rows) at_row ∙ row.1;
        block = here.0;
        here = ap (slice_get blocks) at_place ∙ here.1;
        first = record {
          place = head.at;
          block = here.0;
          here = here.1;
          at = refl;
          refused = sym (rows-are blocks head.at here.0 here.1)
              ∙ first-at (λ asked. breaks_at blocks asked head.at) (λ asked. fault_by asked.must) value_rows mapped.first row.0 row.1 row.2
              (λ k low. first.before k (omega arith) low);
          before = λ k earlier low at. free-at k earlier (head.before k (omega arith) low) at;
        };
      }

  -- The first is the one that the pass of values answers.
  pub answered : (found : List Misfit) → found ≡ value_misfits blocks → AreAnswered blocks found
  answered [] is = λ k block here.
      let low = slice_get_within blocks k block here in
      free-at k block (blocks-none of_block 0 (length blocks) (sym is) k (omega arith) (omega (arith, low))) here
  answered (misfit ∷ rest) is = answered-one misfit rest (sym is)

-- ---- names

module _ (blocks : List Block) (place : ℕ) where
  abbrev any_where : Bool → BlockKind → Bool
  any_where registered kind = list_any (λ row. (kind_number kind == kind_number row.kind
      && (not (means_nothing kind) && registered)) && breaks blocks place row.kind row.must row.directive) name_rows

  names-by_kind : (registered : Bool) (kind : BlockKind) → any_where registered kind ≡ (registered && list_any (unknown.is_unknown_by blocks place) (references kind))
  names-by_kind true Host = refl
  names-by_kind true HostGroup = refl
  names-by_kind true Service = refl
  names-by_kind true ServiceGroup = refl
  names-by_kind true Contact = refl
  names-by_kind true ContactGroup = refl
  names-by_kind true TimePeriod = refl
  names-by_kind true Command = refl
  names-by_kind true HostEscalation = refl
  names-by_kind true ServiceEscalation = refl
  names-by_kind true HostDependency = refl
  names-by_kind true ServiceDependency = refl
  names-by_kind true HostExtInfo = refl
  names-by_kind true ServiceExtInfo = refl
  names-by_kind false Host = refl
  names-by_kind false HostGroup = refl
  names-by_kind false Service = refl
  names-by_kind false ServiceGroup = refl
  names-by_kind false Contact = refl
  names-by_kind false ContactGroup = refl
  names-by_kind false TimePeriod = refl
  names-by_kind false Command = refl
  names-by_kind false HostEscalation = refl
  names-by_kind false ServiceEscalation = refl
  names-by_kind false HostDependency = refl
  names-by_kind false ServiceDependency = refl
  names-by_kind false HostExtInfo = refl
  names-by_kind false ServiceExtInfo = refl

  names-by_block : (found : Option Block) → list_any (λ row. option_map_or (block_breaks blocks place row) found false) name_rows
      ≡ option_map_or (unknown.names_unknown blocks place) found false
  names-by_block None = refl
  names-by_block (Some block) = names-by_kind (unknown.is_registered block) block.kind

  -- some row of names is broken exactly where the block names something unknown
  any-unknown : list_any (λ row. breaks_at blocks row place) name_rows ≡ option_map_or (unknown.names_unknown blocks place) (slice_get blocks place) false
  any-unknown = names-by_block (slice_get blocks place)

any-none : (b : Asked → Bool) (rows : List Asked) → ((k : ℕ) → k < length rows → option_map_or b (slice_get rows k) false ≡ false) → list_any b rows ≡ false
any-none b [] none = refl
any-none b (row ∷ rows) none = ap (λ (flag : Bool). flag || list_any b rows) (none 0 (omega arith)) ∙ any-none b rows (λ k low. none (suc k) (omega (arith, low)))

or-true : (a b : Bool) → b ≡ true → (a || b) ≡ true
or-true true b is = refl
or-true false b is = is

any-at : (b : Asked → Bool) (rows : List Asked) (at : ℕ) (row : Asked) → slice_get rows at ≡ Some row → b row ≡ true → list_any b rows ≡ true
any-at b [] at row here is = absurd (false≢true (ap is_some here))
any-at b (x ∷ rows) zero row here is = let same : x ≡ row = cc in ap (λ (r : Asked). b r || list_any b rows) same ∙ ap (λ (flag : Bool). flag || list_any b rows) is
any-at b (x ∷ rows) (suc at) row here is = or-true (b x) (list_any b rows) (any-at b rows at row here is)

module _ (blocks : List Block) where
  abbrev names_of_block : ℕ → List Misfit
  names_of_block = misfits_at (breaks_row blocks name_rows) (length name_rows)

  named-at : (k : ℕ) → names_of_block k ≡ [] → HasUnknown blocks k → ⊥
  named-at k none is =
      let empty = map-none (λ (row : ℕ). record { place = k; row = row }) (filter (λ row. breaks_row blocks name_rows row k) (range_with_len 0 (length name_rows))) none in
      let nothing = any-none (λ row. breaks_at blocks row k) name_rows
      (λ r low. range-none (λ row. breaks_row blocks name_rows row k) 0 (length name_rows) empty r (omega arith) (omega (arith, low))) in
      false≢true (sym nothing ∙ any-unknown blocks k ∙ is)

  past-none : (k : ℕ) → length blocks ≤ k → HasUnknown blocks k → ⊥
  past-none k high is = let low = at-within (unknown.names_unknown blocks k) blocks k is in omega (arith, low, high)

  -- The first is of the first block that names something unknown.
  pub answered-names : (found : List Misfit) → found ≡ name_misfits blocks → AreAnsweredNames blocks found
  answered-names [] is = λ k. λ unknown_here. ⊎_elim
      (λ (low : k < length blocks). named-at k (blocks-none names_of_block 0 (length blocks) (sym is) k (omega arith) (omega (arith, low))) unknown_here)
      (λ (high : length blocks ≤ k). past-none k high unknown_here)
      (cases_lt k (length blocks))
  answered-names (misfit ∷ rest) is =
      let head = blocks-head names_of_block 0 (length blocks) misfit rest (sym is) in
      let mapped = map-some (λ (row : ℕ). record { place = head.at; row = row }) (filter (λ row. breaks_row blocks name_rows row head.at) (range_with_len 0 (length name_rows)))
      misfit head.others head.is in
      let first = range-head (λ row. breaks_row blocks name_rows row head.at) 0 (length name_rows) mapped.first mapped.rest mapped.are in
      let row = some-row (λ asked. breaks_at blocks asked head.at) name_rows mapped.first first.is in
      let at_place : misfit.place ≡ head.at = sym (ap (λ (m : Misfit). m.place) mapped.same) in
      let has : HasUnknown blocks head.at = sym (any-unknown blocks head.at) ∙ any-at (λ asked. breaks_at blocks asked head.at) name_rows mapped.first row.0 row.1 row.2 in
      subst (λ (at : ℕ). IsFirst (HasUnknown blocks) (Some at)) (sym at_place) (has, (λ k low. named-at k (head.before k (omega arith) low)))
