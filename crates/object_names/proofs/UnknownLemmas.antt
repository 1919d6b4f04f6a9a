-- The first block that names something that isn't there, reference by reference.
use Rattle.std.proofs.Common.{◌≡◌, ℕ, zero, suc, ◌+◌, ◌<◌, ◌≤◌, Bool, true, false, ◌&&◌, ◌||◌, List, [], ◌∷◌, length, take, map, set, replicate, cond, get_or, Option, Some, None, refl, sym, ap, subst, eqb, eqb-true, ⊎_elim, ◌∙◌, ◌⊎◌, inl, inr, arith}
use Rattle.std.specs.Prelude.{IfSome, slice_get, unwrap_or}
use Rattle.std.specs.List.{list_any}
use Rattle.std.specs.Option.{option_map, option_map_or}
use Rattle.std.proofs.lemmas.Bool.{cases_lt, false≢true}
use Rattle.std.proofs.lemmas.List.{get_or-map, take_more}
use Rattle.std.proofs.lemmas.List.Folds.{list_any-append}
use Rattle.lemmas.proofs.Lists.{at-within}
use Rattle.lemmas.proofs.Writes.{at_set}
use Rattle.object_inheritance.specs.Columns.{Column}
use Rattle.object_inheritance.specs.claims.Inherited.{given, list_given, name_of}
use Rattle.object_reader.specs.declared.block.Block.{Block}
use Rattle.object_reader.specs.declared.block.BlockKind.{BlockKind}
use Rattle.object_reader.specs.declared.block.BlockKind.TheVariants.{Host, HostGroup, Service, ServiceGroup, Contact, ContactGroup, TimePeriod, Command, HostEscalation, ServiceEscalation, HostDependency, ServiceDependency, HostExtInfo, ServiceExtInfo}
use Rattle.object_values.specs.claims.Values.{command_name}
use Rattle.object_names.specs.declared.references.Reading.{Reading}
use Rattle.object_names.specs.declared.references.Reading.TheVariants.{NamesOrAll, Names, Period, Commands}
use Rattle.object_names.specs.declared.references.Reference.{Reference}
use Rattle.object_groups.specs.claims.Names.{has_unknown, lacks_any}
use Rattle.object_groups.specs.claims.First.{IsFirst}
use Rattle.object_groups.specs.First.{lower}
use Rattle.object_names.specs.claims.References.{references}
use Rattle.object_names.specs.References.{all_references, is_reference_of}
use Rattle.object_names.specs.claims.Unknown.{HasUnknown, is_registered, is_unknown, is_unknown_by, lacks_period, names_unknown}
use Rattle.object_names.specs.Unknown.{AreFound, has_unknown_by, HasUnknownAmong, names_unknown_by}
use Rattle.object_groups.specs.FirstLaws.{first-either, first-same}

-- ---- the blocks one after another

-- what was found of the block at a place
pub marked-at : (blocks : List Block) (registered : List Bool) (i : ℕ) (x : Block) → registered ≡ map is_registered blocks → i < length blocks → x ≡ get_or blocks i x
    → get_or registered i false ≡ is_registered x
marked-at blocks registered i x are within is =
    ap (λ (marks : List Bool). get_or marks i false) are ∙ get_or-map is_registered blocks i x false within ∙ ap is_registered (sym is)

-- what is said of a place, by its block
pub at-place : (blocks : List Block) (reference : Reference) (i : ℕ) (x : Block) (unknown : Bool) → slice_get blocks i ≡ Some x → unknown ≡ names_unknown_by blocks i reference x
    → has_unknown_by blocks i reference ≡ unknown
at-place blocks reference i x unknown here is = ap (λ (found : Option Block). option_map_or (names_unknown_by blocks i reference) found false) here ∙ sym is

-- the first of the blocks of which these are the values
pub of-values : (blocks : List Block) (values : Column) (reference : Reference) (directive : List ℕ) (found : Option ℕ) → values ≡ record { blocks = blocks; directive = directive }
    → IsFirst (λ place. has_unknown_by values.blocks place reference ≡ true) found → IsFirst (λ place. has_unknown_by blocks place reference ≡ true) found
of-values blocks values reference directive found are first = subst (λ (v : Column). IsFirst (λ place. has_unknown_by v.blocks place reference ≡ true) found) are first

-- none of the places so far
pub record HasNoneBefore (p : ℕ → Bool) (place : ℕ) : Type 0 where
  pub none : (k : ℕ) → k < place → p k ≡ false

pub none-before : (p : ℕ → Bool) → HasNoneBefore p 0
none-before p = record { none = λ k low. absurd (omega (arith, low)) }

pub none-here : (p : ℕ → Bool) (place : ℕ) → HasNoneBefore p place → p place ≡ false → HasNoneBefore p (place + 1)
none-here p place before here = record {
  none = λ k low. ⊎_elim
      (λ (early : k < place). before.none k early)
      (λ (late : place ≤ k). let same : k ≡ place = omega (arith, low, late) in ap p same ∙ here)
      (cases_lt k place);
}

pub first-here : (p : ℕ → Bool) (place : ℕ) → HasNoneBefore p place → p place ≡ true → IsFirst (λ k. p k ≡ true) (Some place)
first-here p place before here = (here, (λ k early is. false≢true (sym (before.none k early) ∙ is)))

pub first-none : (blocks : List Block) (reference : Reference) (place : ℕ) → length blocks ≤ place → HasNoneBefore (λ k. has_unknown_by blocks k reference) place
    → IsFirst (λ k. has_unknown_by blocks k reference ≡ true) None
first-none blocks reference place all before = λ k is.
    let low = at-within (names_unknown_by blocks k reference) blocks k is in
    false≢true (sym (before.none k (omega (arith, low, all))) ∙ is)

-- ---- what was found of a block

-- blocks that have the same name the same
pub unknown-same : (reading : Reading) (names : List (List ℕ)) (blocks : List Block) (directive : List ℕ) (one other : ℕ) → given blocks directive one ≡ given blocks directive other
    → is_unknown reading names blocks directive one ≡ is_unknown reading names blocks directive other
unknown-same NamesOrAll names blocks directive one other same = ap (λ (texts : List (List ℕ)). has_unknown names (unwrap_or (list_given texts) [])) same
unknown-same Names names blocks directive one other same = ap (λ (texts : List (List ℕ)). lacks_any names (unwrap_or (list_given texts) [])) same
unknown-same Period names blocks directive one other same = ap (λ (texts : List (List ℕ)). lacks_period names (option_map name_of (slice_get texts 0))) same
unknown-same Commands names blocks directive one other same =
    ap (λ (texts : List (List ℕ)). lacks_any names (map command_name (unwrap_or (list_given texts) []))) same

module _ (reading : Reading) (names : List (List ℕ)) (values : Column) (found : List (Option Bool)) (origin place : ℕ) (unknown : Bool)
    (same : given values.blocks values.directive origin ≡ given values.blocks values.directive place) (are : AreFound reading names values found) where
  -- what was found of the block that gives it
  pub found-before : Some unknown ≡ get_or found origin None → unknown ≡ is_unknown reading names values.blocks values.directive place
  found-before is =
      subst (λ (kept : Option Bool). IfSome kept (λ u. u ≡ is_unknown reading names values.blocks values.directive origin)) (sym is) (are.each origin)
      ∙ unknown-same reading names values.blocks values.directive origin place same

  -- and what is found of it now
  pub found-now : origin < length found → unknown ≡ is_unknown reading names values.blocks values.directive place → AreFound reading names values (set found origin (Some unknown))
  found-now within is = record {
    each = λ at. subst (λ (kept : Option Bool). IfSome kept (λ u. u ≡ is_unknown reading names values.blocks values.directive at))
        (sym (at_set found origin at (Some unknown) None within)) (kept-at at (eqb origin at) refl);
  }
    where
      kept-at : (at : ℕ) (b : Bool) → eqb origin at ≡ b → IfSome (cond b (Some unknown) (get_or found at None)) (λ u. u ≡ is_unknown reading names values.blocks values.directive at)
      kept-at at true equal = is ∙ sym (unknown-same reading names values.blocks values.directive origin place same)
          ∙ ap (is_unknown reading names values.blocks values.directive) (eqb-true origin at equal)
      kept-at at false other = are.each at

all-same : {X : Type 0} (count at : ℕ) (x : X) → get_or (replicate count x) at x ≡ x
all-same zero at x = refl
all-same (suc count) zero x = refl
all-same (suc count) (suc at) x = all-same count at x

-- nothing was found yet
pub none-found : (reading : Reading) (names : List (List ℕ)) (values : Column) (found : List (Option Bool)) (count : ℕ) → found ≡ replicate count None → AreFound reading names values found
none-found reading names values found count is = record {
  each = λ at. subst (λ (kept : Option Bool). IfSome kept (λ u. u ≡ is_unknown reading names values.blocks values.directive at))
      (sym (ap (λ (xs : List (Option Bool)). get_or xs at None) is ∙ all-same count at None)) tt;
}

-- ---- one reference more

either-true : (a b : Bool) → (a || (b || false)) ≡ true → (a ≡ true) ⊎ (b ≡ true)
either-true true b is = inl refl
either-true false true is = inr refl
either-true false false is = absurd (false≢true is)

left-true : (a b : Bool) → a ≡ true → (a || (b || false)) ≡ true
left-true true b is = refl
left-true false b is = absurd (false≢true is)

right-true : (a b : Bool) → b ≡ true → (a || (b || false)) ≡ true
right-true true b is = refl
right-true false true is = refl
right-true false false is = is

more-at : (p : Reference → Bool) (references : List Reference) (i : ℕ) (d : Reference) → i < length references
    → list_any p (take (i + 1) references) ≡ (list_any p (take i references) || (p (get_or references i d) || false))
more-at p references i d within =
    ap (list_any p) (take_more references i d within) ∙ list_any-append p (take i references) (get_or references i d ∷ [])

pub one-more : (blocks : List Block) (references : List Reference) (i : ℕ) (d : Reference) (first second found : Option ℕ) → i < length references → found ≡ lower first second
    → IsFirst (HasUnknownAmong blocks (take i references)) first → IsFirst (λ place. has_unknown_by blocks place (get_or references i d) ≡ true) second
    → IsFirst (HasUnknownAmong blocks (take (i + 1) references)) found
one-more blocks references i d first second found within is before here =
    first-either (HasUnknownAmong blocks (take i references)) (λ place. has_unknown_by blocks place (get_or references i d) ≡ true)
    (HasUnknownAmong blocks (take (i + 1) references)) first second found is to from before here
  where
    to : (n : ℕ) → HasUnknownAmong blocks (take i references) n ⊎ (has_unknown_by blocks n (get_or references i d) ≡ true) → HasUnknownAmong blocks (take (i + 1) references) n
    to n (inl some) = more-at (has_unknown_by blocks n) references i d within ∙ left-true _ (has_unknown_by blocks n (get_or references i d)) some
    to n (inr one) = more-at (has_unknown_by blocks n) references i d within ∙ right-true (list_any (has_unknown_by blocks n) (take i references)) _ one

    from : (n : ℕ) → HasUnknownAmong blocks (take (i + 1) references) n → HasUnknownAmong blocks (take i references) n ⊎ (has_unknown_by blocks n (get_or references i d) ≡ true)
    from n some = either-true (list_any (has_unknown_by blocks n) (take i references)) (has_unknown_by blocks n (get_or references i d))
        (sym (more-at (has_unknown_by blocks n) references i d within) ∙ some)

pub none-yet : (blocks : List Block) → IsFirst (HasUnknownAmong blocks []) None
none-yet blocks = λ n some. false≢true some

-- ---- all references are those of each type

by-type : (u : Reference → Bool) (registered : Bool) (kind : BlockKind)
    → list_any (λ reference. is_reference_of reference kind && registered && u reference) all_references ≡ (registered && list_any u (references kind))
by-type u true Host = refl
by-type u true HostGroup = refl
by-type u true Service = refl
by-type u true ServiceGroup = refl
by-type u true Contact = refl
by-type u true ContactGroup = refl
by-type u true TimePeriod = refl
by-type u true Command = refl
by-type u true HostEscalation = refl
by-type u true ServiceEscalation = refl
by-type u true HostDependency = refl
by-type u true ServiceDependency = refl
by-type u true HostExtInfo = refl
by-type u true ServiceExtInfo = refl
by-type u false Host = refl
by-type u false HostGroup = refl
by-type u false Service = refl
by-type u false ServiceGroup = refl
by-type u false Contact = refl
by-type u false ContactGroup = refl
by-type u false TimePeriod = refl
by-type u false Command = refl
by-type u false HostEscalation = refl
by-type u false ServiceEscalation = refl
by-type u false HostDependency = refl
by-type u false ServiceDependency = refl
by-type u false HostExtInfo = refl
by-type u false ServiceExtInfo = refl

by-block : (blocks : List Block) (place : ℕ) (found : Option Block)
    → list_any (λ reference. option_map_or (names_unknown_by blocks place reference) found false) all_references ≡ option_map_or (names_unknown blocks place) found false
by-block blocks place None = refl
by-block blocks place (Some block) = by-type (is_unknown_by blocks place) (is_registered block) block.kind

pub all-first : (blocks : List Block) (found : Option ℕ) → IsFirst (HasUnknownAmong blocks all_references) found → IsFirst (HasUnknown blocks) found
all-first blocks found first =
    first-same (HasUnknownAmong blocks all_references) (HasUnknown blocks) found
    (λ n some. sym (by-block blocks n (slice_get blocks n)) ∙ some) (λ n some. by-block blocks n (slice_get blocks n) ∙ some) first
