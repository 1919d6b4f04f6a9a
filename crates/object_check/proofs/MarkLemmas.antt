-- The blocks that have the fault of a row.
use Rattle.std.proofs.Common.{◌≡◌, ℕ, zero, suc, ◌+◌, ◌<◌, ◌≤◌, Bool, true, false, cond, ◌&&◌, List, [], ◌∷◌, ◌++◌, length, map, replicate, set, take, get_or, Option, Some, None, refl, sym, ap, ap₂, subst, eqb, eqb-true, ⊎_elim, ◌∙◌, arith, Bor}
use Rattle.std.specs.Prelude.{◌||◌, IfSome, slice_get, unwrap_or, is_none, ◌==◌}
use Rattle.std.specs.List.{list_any, range_with_len}
use Rattle.std.specs.Option.{option_map, option_map_or}
use Rattle.std.proofs.lemmas.Bool.{cases_lt, false≢true}
use Rattle.std.proofs.lemmas.List.{get_or-map, length-append, length-map, map-append, take_more}
use Rattle.std.proofs.lemmas.List.FromFn.{get_or-map-range_with_len, length-map-range_with_len, map-range_with_len_more}
use Rattle.std.proofs.lemmas.Option.{slice_get_read}
use Rattle.lemmas.proofs.Writes.{at_set}
use Rattle.object_check.specs.Marks.{AreColumns, AreFound, block_breaks, breaks, breaks_at, breaks_row, IsColumn, is_of_value}
use Rattle.object_check.specs.Misfits.{is_marked_in, misfits_in}
use Rattle.object_check.specs.declared.misfits.Misfit.{Misfit}
use Rattle.object_check.specs.Rows.{Asked, said_by}
use Rattle.object_check.proofs.MisfitLemmas.{misfits-same}
use Rattle.object_check.specs.declared.rows.Must.{Must}
use Rattle.object_check.specs.declared.rows.Must.TheVariants.{Be, Name, HaveWholeLines, HaveDayLines}
use Rattle.object_check.specs.declared.rows.Must.TheVariants as musts
use Rattle.object_faults.specs.declared.column.Check.{Check}
use Rattle.object_faults.specs.declared.column.Check.TheVariants.{Given, Number, Options, Criteria, Ranges, Zero, Names}
use Rattle.object_faults.specs.claims.Faults as faults
use Rattle.object_groups.specs.claims.Names.{has_unknown, is_exclusion, lacks_any}
use Rattle.object_groups.specs.claims.Objects.{names_in}
use Rattle.object_inheritance.specs.Columns.{Column}
use Rattle.object_inheritance.specs.claims.Inherited.{given, list_given, name_of}
use Rattle.object_inheritance.specs.claims.Templates.{kind_number}
use Rattle.object_names.specs.claims.Named.{block_kind}
use Rattle.object_names.specs.declared.named.NamedKind.{NamedKind}
use Rattle.object_names.specs.declared.references.Reading.{Reading}
use Rattle.object_names.specs.declared.references.Reading.TheVariants as reading
use Rattle.object_names.specs.claims.Unknown.{lacks_period}
use Rattle.object_reader.specs.declared.block.Block.{Block}
use Rattle.object_reader.specs.declared.block.BlockKind.{BlockKind}
use Rattle.object_values.specs.claims.Values.{command_name}

-- ---- what was found of a block

-- blocks to which the same is given are broken the same
broken-same : (blocks : List Block) (check : Check) (directive : List ℕ) (one other : ℕ) → given blocks directive one ≡ given blocks directive other
    → faults.is_broken blocks one check directive ≡ faults.is_broken blocks other check directive
broken-same blocks Given directive one other same = ap (λ (texts : List (List ℕ)). is_none (slice_get texts 0)) same
broken-same blocks Names directive one other same = ap (λ (texts : List (List ℕ)). list_any is_exclusion (unwrap_or (list_given texts) [])) same
broken-same blocks Number directive one other same = ap (λ (texts : List (List ℕ)). option_map_or (faults.breaks Number) (slice_get texts 0) false) same
broken-same blocks (Options kind) directive one other same = ap (λ (texts : List (List ℕ)). option_map_or (faults.breaks (Options kind)) (slice_get texts 0) false) same
broken-same blocks (Criteria kind) directive one other same = ap (λ (texts : List (List ℕ)). option_map_or (faults.breaks (Criteria kind)) (slice_get texts 0) false) same
broken-same blocks Ranges directive one other same = ap (λ (texts : List (List ℕ)). option_map_or (faults.breaks Ranges) (slice_get texts 0) false) same
broken-same blocks Zero directive one other same = ap (λ (texts : List (List ℕ)). option_map_or (faults.breaks Zero) (slice_get texts 0) false) same

unknown-same : (blocks : List Block) (named : NamedKind) (read : Reading) (directive : List ℕ) (kind : BlockKind) (one other : ℕ) → given blocks directive one ≡ given blocks directive other
    → breaks blocks one kind (Name named read) directive ≡ breaks blocks other kind (Name named read) directive
unknown-same blocks named reading.NamesOrAll directive kind one other same = ap (λ (texts : List (List ℕ)). has_unknown (names_in blocks (block_kind named)) (unwrap_or (list_given texts) [])) same
unknown-same blocks named reading.Names directive kind one other same = ap (λ (texts : List (List ℕ)). lacks_any (names_in blocks (block_kind named)) (unwrap_or (list_given texts) [])) same
unknown-same blocks named reading.Period directive kind one other same = ap (λ (texts : List (List ℕ)). lacks_period (names_in blocks (block_kind named)) (option_map name_of (slice_get texts 0))) same
unknown-same blocks named reading.Commands directive kind one other same =
    ap (λ (texts : List (List ℕ)). lacks_any (names_in blocks (block_kind named)) (map command_name (unwrap_or (list_given texts) []))) same

pub breaks-same : (blocks : List Block) (asked : Must) (directive : List ℕ) (kind : BlockKind) (one other : ℕ) → is_of_value asked ≡ true → given blocks directive one ≡ given blocks directive other
    → breaks blocks one kind asked directive ≡ breaks blocks other kind asked directive
breaks-same blocks (Be check) directive kind one other of same = broken-same blocks check directive one other same
breaks-same blocks (Name named read) directive kind one other of same = unknown-same blocks named read directive kind one other same
breaks-same blocks (musts.List side) directive kind one other of same = absurd (false≢true of)
breaks-same blocks HaveWholeLines directive kind one other of same = absurd (false≢true of)
breaks-same blocks HaveDayLines directive kind one other of same = absurd (false≢true of)

module _ (asked : Must) (values : Column) (found : List (Option Bool)) (origin place : ℕ) (unfit : Bool) (of : is_of_value asked ≡ true)
    (same : given values.blocks values.directive origin ≡ given values.blocks values.directive place) (are : AreFound asked values found) where
  -- what was found of the block that gives it
  pub found-before : Some unfit ≡ get_or found origin None → (kind : BlockKind) → unfit ≡ breaks values.blocks place kind asked values.directive
  found-before is kind =
      subst (λ (kept : Option Bool). IfSome kept (λ u. (k : BlockKind) → u ≡ breaks values.blocks origin k asked values.directive)) (sym is) (are.each origin) kind
      ∙ breaks-same values.blocks asked values.directive kind origin place of same

  -- and what is found of it now
  pub found-now : origin < length found → ((kind : BlockKind) → unfit ≡ breaks values.blocks place kind asked values.directive) → AreFound asked values (set found origin (Some unfit))
  found-now within is = record {
    each = λ at. subst (λ (kept : Option Bool). IfSome kept (λ u. (k : BlockKind) → u ≡ breaks values.blocks at k asked values.directive))
        (sym (at_set found origin at (Some unfit) None within)) (kept-at at (eqb origin at) refl);
  }
    where
      kept-at : (at : ℕ) (b : Bool) → eqb origin at ≡ b → IfSome (cond b (Some unfit) (get_or found at None)) (λ u. (k : BlockKind) → u ≡ breaks values.blocks at k asked values.directive)
      kept-at at true equal = λ k. is k ∙ sym (breaks-same values.blocks asked values.directive k origin place of same)
          ∙ ap (λ (n : ℕ). breaks values.blocks n k asked values.directive) (eqb-true origin at equal)
      kept-at at false other = are.each at

all-same : {X : Type 0} (count at : ℕ) (x : X) → get_or (replicate count x) at x ≡ x
all-same zero at x = refl
all-same (suc count) zero x = refl
all-same (suc count) (suc at) x = all-same count at x

-- nothing was found yet
pub none-found : (asked : Must) (values : Column) (found : List (Option Bool)) (count : ℕ) → found ≡ replicate count None → AreFound asked values found
none-found asked values found count is = record {
  each = λ at. subst (λ (kept : Option Bool). IfSome kept (λ u. (k : BlockKind) → u ≡ breaks values.blocks at k asked values.directive))
      (sym (ap (λ (xs : List (Option Bool)). get_or xs at None) is ∙ all-same count at None)) tt;
}

-- ---- a column

-- what is said of a place, by its block
pub at-place : (blocks : List Block) (row : Asked) (i : ℕ) (x : Block) (unfit : Bool) → slice_get blocks i ≡ Some x → unfit ≡ block_breaks blocks i row x → breaks_at blocks row i ≡ unfit
at-place blocks row i x unfit here is = ap (λ (found : Option Block). option_map_or (block_breaks blocks i row) found false) here ∙ sym is

-- one block more
pub column-more : (f : ℕ → Bool) (old new : List Bool) (i : ℕ) (unfit : Bool) → old ≡ map f (range_with_len 0 i) → new ≡ old ++ unfit ∷ [] → f i ≡ unfit → new ≡ map f (range_with_len 0 (i + 1))
column-more f old new i unfit before more is =
    more ∙ ap (λ (xs : List Bool). xs ++ unfit ∷ []) before ∙ ap (λ (b : Bool). map f (range_with_len 0 i) ++ b ∷ []) (sym is)
    ∙ sym (map-range_with_len_more f 0 i i (omega arith))

past : {X : Type 0} (xs : List X) (i : ℕ) (d : X) → length xs ≤ i → get_or xs i d ≡ d
past [] i d long = refl
past (x ∷ xs) zero d long = absurd (omega (arith, long))
past (x ∷ xs) (suc i) d long = past xs i d (omega (arith, long))

past-get : {X : Type 0} (xs : List X) (i : ℕ) → length xs ≤ i → slice_get xs i ≡ None
past-get [] i long = refl
past-get (x ∷ xs) zero long = absurd (omega (arith, long))
past-get (x ∷ xs) (suc i) long = past-get xs i (omega (arith, long))

-- the column of all blocks
pub column-is : (blocks : List Block) (row : Asked) (column : List Bool) (count : ℕ) → length blocks ≡ count → column ≡ map (breaks_at blocks row) (range_with_len 0 count)
    → IsColumn blocks row column
column-is blocks row column count long is = λ place. ap (λ (xs : List Bool). get_or xs place false) is ∙ ⊎_elim
    (λ (low : place < count). get_or-map-range_with_len (breaks_at blocks row) 0 count place place false low (omega arith))
    (λ (high : count ≤ place). past (map (breaks_at blocks row) (range_with_len 0 count)) place false
    (let n = length-map-range_with_len (breaks_at blocks row) 0 count in omega (arith, n, high))
    ∙ sym (ap (λ (found : Option Block). option_map_or (block_breaks blocks place row) found false) (past-get blocks place (omega (arith, long, high)))))
    (cases_lt place count)

-- ---- a list of commands

-- some entry's command is missing where some of the commands is
pub any-of_each : (p : List ℕ → Bool) (f : List ℕ → List ℕ) (xs : List (List ℕ)) → list_any (λ x. p (f x)) xs ≡ list_any p (map f xs)
any-of_each p f [] = refl
any-of_each p f (x ∷ xs) = ap (λ (rest : Bool). p (f x) || rest) (any-of_each p f xs)

-- ---- the block at a place

marked-at : (blocks : List Block) (registered : List Bool) (i : ℕ) (x : Block) → registered ≡ map faults.is_registered blocks → i < length blocks → x ≡ get_or blocks i x
    → get_or registered i false ≡ faults.is_registered x
marked-at blocks registered i x are within is =
    ap (λ (marks : List Bool). get_or marks i false) are ∙ get_or-map faults.is_registered blocks i x false within ∙ ap faults.is_registered (sym is)

-- what is said of it, where it is asked as its type and its mark say
pub unfit-at : (blocks : List Block) (registered : List Bool) (row : Asked) (i : ℕ) (x : Block) (asked unfit : Bool) → registered ≡ map faults.is_registered blocks
    → i < length blocks → x ≡ get_or blocks i x → asked ≡ ((kind_number x.kind == kind_number row.kind) && get_or registered i false)
    → unfit ≡ (asked && breaks blocks i row.kind row.must row.directive) → breaks_at blocks row i ≡ unfit
unfit-at blocks registered row i x asked unfit are within is asked_is unfit_is =
    at-place blocks row i x unfit (slice_get_read blocks (length blocks) i x refl within is)
    (unfit_is ∙ ap (λ (a : Bool). a && breaks blocks i row.kind row.must row.directive)
    (asked_is ∙ ap (λ (r : Bool). (kind_number x.kind == kind_number row.kind) && r) (marked-at blocks registered i x are within is)))

-- ---- the rows of a table

-- one column more
each-more : (blocks : List Block) (rows : List Asked) (columns : List (List Bool)) (column : List Bool) (row : Asked) → length columns ≡ length rows
    → ((k place : ℕ) → get_or (get_or columns k []) place false ≡ breaks_row blocks rows k place) → IsColumn blocks row column
    → (k place : ℕ) → get_or (get_or (columns ++ column ∷ []) k []) place false ≡ breaks_row blocks (rows ++ row ∷ []) k place
each-more blocks [] [] column row long each is zero place = is place
each-more blocks [] [] column row long each is (suc k) place = refl
each-more blocks [] (c ∷ columns) column row long each is k place = absurd (omega (arith, long))
each-more blocks (r ∷ rows) [] column row long each is k place = absurd (omega (arith, long))
each-more blocks (r ∷ rows) (c ∷ columns) column row long each is zero place = each zero place
each-more blocks (r ∷ rows) (c ∷ columns) column row long each is (suc k) place =
    each-more blocks rows columns column row (omega (arith, long)) (λ n at. each (suc n) at) is k place

columns-more : (blocks : List Block) (rows : List Asked) (columns : List (List Bool)) (column : List Bool) (row : Asked) → AreColumns blocks rows columns → IsColumn blocks row column
    → AreColumns blocks (rows ++ row ∷ []) (columns ++ column ∷ [])
columns-more blocks rows columns column row are is = record {
  long = length-append columns (column ∷ []) ∙ ap (λ (n : ℕ). n + 1) are.long ∙ sym (length-append rows (row ∷ []));
  each = each-more blocks rows columns column row are.long are.each is;
}

pub no-columns : (blocks : List Block) → AreColumns blocks [] []
no-columns blocks = record { long = refl; each = λ row place. refl }

-- a column without its marks, where it has none
column-left : (blocks : List Block) (row : Asked) (column left : List Bool) → ((place : ℕ) → get_or left place false ≡ get_or column place false) → IsColumn blocks row column
    → IsColumn blocks row left
column-left blocks row column left same is = λ place. same place ∙ is place

-- the faults by the columns are those by the rows
pub by-columns : {C : Type 0} (blocks : List Block) (rows : List (BlockKind × Must × Bor (List ℕ))) (items : C → List Bool) (columns kept : List C) (count : ℕ)
    → AreColumns blocks (map said_by rows) (map items columns) → kept ≡ columns → length blocks ≡ count
    → misfits_in (λ row at. is_marked_in (map items kept) row at) (length kept) count ≡ misfits_in (breaks_row blocks (map said_by rows)) (length rows) (length blocks)
by-columns {C} blocks rows items columns kept count are same long =
    ap (λ (all : List C). misfits_in (λ row at. is_marked_in (map items all) row at) (length all) count) same
    ∙ misfits-same (λ row at. is_marked_in (map items columns) row at) (breaks_row blocks (map said_by rows)) (length columns) count (λ row place. are.each row place)
    ∙ ap₂ (λ (k l : ℕ). misfits_in (breaks_row blocks (map said_by rows)) k l) (sym (length-map columns items) ∙ are.long ∙ length-map rows said_by) (sym long)

-- one row more
pub columns-step : {C : Type 0} (blocks : List Block) (rows : List (BlockKind × Must × Bor (List ℕ))) (i : ℕ) (d : BlockKind × Must × Bor (List ℕ)) (items : C → List Bool)
    (old new : List C) (left : C) (column : List Bool) → i < length rows → AreColumns blocks (map said_by (take i rows)) (map items old) → new ≡ old ++ left ∷ []
    → ((place : ℕ) → get_or (items left) place false ≡ get_or column place false) → IsColumn blocks (said_by (get_or rows i d)) column
    → AreColumns blocks (map said_by (take (i + 1) rows)) (map items new)
columns-step {C} blocks rows i d items old new left column within before more same is =
    let asked : Asked = said_by (get_or rows i d) in
    let rows_more : map said_by (take (i + 1) rows) ≡ map said_by (take i rows) ++ asked ∷ [] =
    ap (map said_by) (take_more rows i d within) ∙ map-append said_by (take i rows) (get_or rows i d ∷ []) in
    let columns_more : map items new ≡ map items old ++ items left ∷ [] = ap (map items) more ∙ map-append items old (left ∷ []) in
    subst (λ (asked_rows : List Asked). AreColumns blocks asked_rows (map items new)) (sym rows_more)
    (subst (λ (all : List (List Bool)). AreColumns blocks (map said_by (take i rows) ++ asked ∷ []) all) (sym columns_more)
    (columns-more blocks (map said_by (take i rows)) (map items old) (items left) asked before (column-left blocks asked column (items left) same is)))

-- the faults by the rows of the program are those by the table
pub of-rows : (blocks : List Block) (rows : List (BlockKind × Must × Bor (List ℕ))) (table : List Asked) (found : List Misfit) → map said_by rows ≡ table
    → found ≡ misfits_in (breaks_row blocks (map said_by rows)) (length rows) (length blocks) → found ≡ misfits_in (breaks_row blocks table) (length table) (length blocks)
of-rows blocks rows table found is are =
    are ∙ ap₂ (λ (asked : List Asked) (n : ℕ). misfits_in (breaks_row blocks asked) n (length blocks)) is (sym (length-map rows said_by) ∙ ap length is)
