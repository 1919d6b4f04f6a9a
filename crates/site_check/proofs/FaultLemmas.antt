-- The first of what is told is the fault that loading answers.
use Rattle.std.proofs.Common.{◌≡◌, ℕ, zero, suc, ◌+◌, ◌<◌, ◌≤◌, Bool, Bor, true, false, List, [], ◌∷◌, ◌++◌, get_or, length, map, Option, Some, None, refl, sym, ap, subst, ⊎_elim, ◌∙◌, ◌⊎◌, inl, inr, arith}
use Rattle.std.specs.Prelude.{slice_get}
use Rattle.std.specs.Option.{option_map_or}
use Rattle.std.proofs.lemmas.Bool.{cases_lt}
use Rattle.std.proofs.lemmas.Option.{none-some}
use Rattle.object_check.specs.Answered.{AreAnswered, IsAnswered, fault_by}
use Rattle.object_check.specs.Marks.{name_misfits}
use Rattle.object_check.specs.Rows.{Asked, said_by, value_rows}
use Rattle.object_check.specs.declared.misfits.Misfit.{Misfit}
use Rattle.object_check.specs.declared.rows.Must.{Must}
use Rattle.object_faults.specs.claims.Faults as values
use Rattle.object_faults.specs.claims.LoadFaults.{of_value}
use Rattle.object_faults.specs.declared.fault.ValueFault.{ValueFault}
use Rattle.object_faults.specs.declared.load_fault.BlockFault.{BlockFault}
use Rattle.object_faults.specs.declared.load_fault.BlockFault.TheVariants.{MissingDirective}
use Rattle.object_faults.specs.declared.load_fault.LoadFault.{LoadFault}
use Rattle.object_faults.specs.declared.load_fault.LoadFault.TheVariants as load
use Rattle.object_inheritance.specs.claims.Faults as templates_claims
use Rattle.object_inheritance.specs.Faults as templates
use Rattle.object_inheritance.specs.declared.templates.InheritanceFault.{InheritanceFault}
use Rattle.object_inheritance.specs.declared.templates.InheritanceFault.TheVariants.{AtLine}
use Rattle.object_inheritance.specs.declared.templates.TemplateFault.{TemplateFault}
use Rattle.object_names.specs.Named.{all_kinds}
use Rattle.object_reader.specs.declared.block.Block.{Block}
use Rattle.object_reader.specs.declared.block.BlockKind.{BlockKind}
use Rattle.object_resolve.specs.claims.Resolve.{IsMisvalued, IsRefusal}
use Rattle.site_check.specs.Faults.{AreInOrder, AreNameFaults, AreTold, doubled_among, IsBegun, line_at, load_fault, name_found, value_fault, value_faults, value_found}
use Rattle.site_check.specs.declared.found.Found.{Found}

-- ---- the first block with a fault

-- templates without a fault have no first one
pub templated-none : (blocks : List Block) (line : ℕ) (fault : TemplateFault) → templates_claims.AreFree blocks → templates_claims.IsFirstFault blocks line fault → ⊥
templated-none blocks line own free first =
    let none = free first.place first.block first.here in
    none-some own (none.is ∙ ap (λ (looped : Bool). templates_claims.fault_by (templates_claims.uses_unknown blocks first.block) looped (templates_claims.is_doubled blocks first.place first.block))
    (same none.looped (first.refused).looped (λ on. ((first.refused).lies).1 ((none.lies).0 on)) (λ on. (none.lies).1 (((first.refused).lies).0 on)))
    ∙ sym (first.refused).is)
  where
    same : (a b : Bool) → (a ≡ true → b ≡ true) → (b ≡ true → a ≡ true) → a ≡ b
    same true b to from = sym (to refl)
    same false true to from = from refl
    same false false to from = refl

-- a refusal that isn't want of memory is the first fault
pub first-of : (blocks : List Block) (r : InheritanceFault) (line : ℕ) (own : TemplateFault) → r ≡ AtLine line own → templates.IsRefusal blocks r → templates_claims.IsFirstFault blocks line own
first-of blocks r line own is refused = subst (λ (f : InheritanceFault). templates.IsRefusal blocks f) is refused

-- the same of values
pub valued-none : (blocks : List Block) (line : ℕ) (fault : ValueFault) → values.AreFree blocks → values.IsFirstFault blocks line fault → ⊥
valued-none blocks line own free first = none-some own (sym (free first.place first.block first.here) ∙ first.refused)

-- a block with a fault doesn't stand before the first
not-before : (blocks : List Block) (l m : ℕ) (f g : ValueFault) (one : values.IsFirstFault blocks l f) (other : values.IsFirstFault blocks m g) → one.place < other.place → ⊥
not-before blocks l m f g one other early = none-some f (sym (other.before one.place one.block early one.here) ∙ one.refused)

some-same : {X : Type 0} (x y : X) → Some x ≡ Some y → x ≡ y
some-same x y is = ap (λ (o : Option _). option_map_or (λ z. z) o x) is

-- two that are first are one
pub valued-same : (blocks : List Block) (l m : ℕ) (f g : ValueFault) → values.IsFirstFault blocks l f → values.IsFirstFault blocks m g → (l ≡ m) × (f ≡ g)
valued-same blocks l m f g one other =
    let places : one.place ≡ other.place = ⊎_elim
    (λ (early : one.place < other.place). absurd (not-before blocks l m f g one other early))
    (λ (late : other.place ≤ one.place). ⊎_elim
    (λ (early : other.place < one.place). absurd (not-before blocks m l g f other one early))
    (λ (low : one.place ≤ other.place). omega (arith, late, low))
    (cases_lt other.place one.place))
    (cases_lt one.place other.place) in
    let block : one.block ≡ other.block = some-same one.block other.block (sym one.here ∙ ap (slice_get blocks) places ∙ other.here) in (
      sym one.at ∙ ap (λ (b : Block). b.line) block ∙ other.at,
      some-same f g (sym one.refused ∙ ap (λ (p : ℕ). values.fault_of blocks p one.block) places ∙ ap (values.fault_of blocks other.place) block ∙ other.refused),
    )

-- ---- values

-- the fault of values that loading answers
misvalued : (blocks : List Block) (line : ℕ) (fault : BlockFault) → templates_claims.AreFree blocks → IsRefusal blocks line fault → (values.AreFree blocks → ⊥) → IsMisvalued blocks line fault
misvalued blocks line fault free (inl templated) broken = absurd (templated-none blocks line templated.0 free templated.1)
misvalued blocks line fault free (inr (same, inl valued)) broken = valued
misvalued blocks line fault free (inr (same, inr (good, unfit))) broken = absurd (broken good)

-- where blocks have a fault of values, they aren't free of them
answered-broken : (blocks : List Block) (misfit : Misfit) → IsAnswered blocks misfit → values.AreFree blocks → ⊥
answered-broken blocks misfit answered free = valued-none blocks answered.block.line (fault_by answered.row.must) free answered.first

-- what is told of the first fault of values
first-told : (blocks : List Block) (misfit : Misfit) (answered : IsAnswered blocks misfit)
    → load_fault blocks (value_found misfit) ≡ load.Block answered.block.line (of_value (fault_by answered.row.must))
first-told blocks misfit answered =
    ap (λ (o : Option Block). load.Block (option_map_or (λ block. block.line) o 0) (value_fault misfit.row)) answered.here
    ∙ ap (λ (o : Option Asked). load.Block answered.block.line (option_map_or (λ asked. of_value (fault_by asked.must)) o MissingDirective)) answered.listed

-- It is the one that loading answers.
first-answered : (blocks : List Block) (line : ℕ) (fault : BlockFault) (misfit : Misfit) → templates_claims.AreFree blocks → IsRefusal blocks line fault → IsAnswered blocks misfit
    → load_fault blocks (value_found misfit) ≡ load.Block line fault
first-answered blocks line fault misfit free refused answered =
    let valued = misvalued blocks line fault free refused (answered-broken blocks misfit answered) in
    let same = valued-same blocks answered.block.line line (fault_by answered.row.must) valued.0 answered.first valued.1 in
    first-told blocks misfit answered
    ∙ ap (λ (l : ℕ). load.Block l (of_value (fault_by answered.row.must))) same.0
    ∙ ap (λ (f : ValueFault). load.Block line (of_value f)) same.1
    ∙ ap (load.Block line) (sym valued.2)

-- what is told where values have faults
pub values-told : (blocks : List Block) (line : ℕ) (fault : BlockFault) (misfits : List Misfit) (told : List LoadFault) → templates_claims.AreFree blocks → (misfits ≡ [] → ⊥)
    → map value_found misfits ≡ value_faults blocks → AreAnswered blocks misfits → told ≡ map (load_fault blocks) (map value_found misfits) → IsRefusal blocks line fault
    → AreTold blocks (load.Block line fault) told
values-told blocks line fault [] told free some are answered is refused = absurd (some refl)
values-told blocks line fault (misfit ∷ misfits) told free some are answered is refused = record {
  begins = ap (λ (xs : List LoadFault). slice_get xs 0) is ∙ ap Some (first-answered blocks line fault misfit free refused answered);
  of_values = λ again broken. is ∙ ap (map (load_fault blocks)) are;
  of_names = λ again good. absurd (answered-broken blocks misfit answered good);
}

-- what is told where they have none
pub names-told : (blocks : List Block) (line : ℕ) (fault : BlockFault) (misfits : List Misfit) (told : List LoadFault) → misfits ≡ [] → AreAnswered blocks misfits
    → slice_get told 0 ≡ Some (load.Block line fault) → AreNameFaults blocks (load.Block line fault) told → AreTold blocks (load.Block line fault) told
names-told blocks line fault [] told none answered first names = record {
  begins = first;
  of_values = λ free broken. absurd (broken answered);
  of_names = λ free good. names;
}
names-told blocks line fault (misfit ∷ misfits) told none answered first names = absurd (none-some misfit (ap (λ (xs : List Misfit). slice_get xs 0) (sym none)))

-- what is told where a template has a fault
pub templates-told : (blocks : List Block) (own : TemplateFault) (first : LoadFault) (told : List LoadFault) (m : ℕ) → templates_claims.IsFirstFault blocks m own
    → slice_get told 0 ≡ Some first → AreTold blocks first told
templates-told blocks own first told m faulty begins = record {
  begins = begins;
  of_values = λ free broken. absurd (templated-none blocks m own free faulty);
  of_names = λ free good. absurd (templated-none blocks m own free faulty);
}

-- ---- names

-- what is told of names
pub names-are : (blocks own given : List Block) (misfits ms : List Misfit) (found fs : List Found) (all told : List LoadFault) (first : LoadFault) → own ≡ blocks → misfits ≡ name_misfits blocks → ms ≡ misfits
    → AreInOrder (map name_found ms ++ doubled_among own all_kinds) found → given ≡ blocks → fs ≡ found → all ≡ map (load_fault given) fs → IsBegun first all told → AreNameFaults blocks first told
names-are blocks own given misfits ms found fs all told first objects are slice order lines others is begun = record {
  found = found;
  are = subst (λ (bs : List Block). AreInOrder (map name_found (name_misfits blocks) ++ doubled_among bs all_kinds) found) objects
      (subst (λ (xs : List Misfit). AreInOrder (map name_found xs ++ doubled_among own all_kinds) found) (slice ∙ are) order);
  begun = subst (λ (xs : List LoadFault). IsBegun first xs told)
      (is ∙ ap (λ (bs : List Block). map (load_fault bs) fs) lines ∙ ap (map (load_fault blocks)) others) begun;
}

-- ---- rows

-- the fault of a row that is listed
pub row-said : (rows : List (BlockKind × Must × Bor (List ℕ))) (row : ℕ) (d : BlockKind × Must × Bor (List ℕ)) (fault : BlockFault) → map said_by rows ≡ value_rows → row < length rows
    → fault ≡ of_value (fault_by (get_or rows row d).1) → fault ≡ value_fault row
row-said rows row d fault table within is =
    is ∙ sym (ap (λ (o : Option Asked). option_map_or (λ asked. of_value (fault_by asked.must)) o MissingDirective) (at rows row within))
    ∙ ap (λ (xs : List Asked). option_map_or (λ asked. of_value (fault_by asked.must)) (slice_get xs row) MissingDirective) table
  where
    at : (xs : List (BlockKind × Must × Bor (List ℕ))) (i : ℕ) → i < length xs → slice_get (map said_by xs) i ≡ Some (said_by (get_or xs i d))
    at [] i low = absurd (omega (arith, low))
    at (x ∷ xs) zero low = refl
    at (x ∷ xs) (suc i) low = at xs i (omega (arith, low))

-- that of one that isn't
pub row-unsaid : (rows : List (BlockKind × Must × Bor (List ℕ))) (row : ℕ) → map said_by rows ≡ value_rows → length rows ≤ row → MissingDirective ≡ value_fault row
row-unsaid rows row table past =
    sym (ap (λ (o : Option Asked). option_map_or (λ asked. of_value (fault_by asked.must)) o MissingDirective) (none rows row past))
    ∙ ap (λ (xs : List Asked). option_map_or (λ asked. of_value (fault_by asked.must)) (slice_get xs row) MissingDirective) table
  where
    none : (xs : List (BlockKind × Must × Bor (List ℕ))) (i : ℕ) → length xs ≤ i → slice_get (map said_by xs) i ≡ None
    none [] i past = refl
    none (x ∷ xs) zero past = absurd (omega (arith, past))
    none (x ∷ xs) (suc i) past = none xs i (omega (arith, past))
