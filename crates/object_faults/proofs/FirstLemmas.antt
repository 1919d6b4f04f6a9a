-- The first of the places with a fault, column by column.
use Rattle.std.proofs.Common.{◌≡◌, ℕ, ◌+◌, ◌<◌, ◌≤◌, Bool, true, false, cond, List, [], ◌∷◌, ◌++◌, length, map, take, get_or, Option, Some, None, refl, sym, ap, subst, ⊎_elim, ◌∙◌, arith, leb-false, leb-true}
use Rattle.std.specs.Prelude.{nat_le, slice_get}
use Rattle.std.specs.Option.{option_and_then, option_or}
use Rattle.std.proofs.lemmas.Bool.{cases_lt}
use Rattle.std.proofs.lemmas.List.{get_or-map, map-append, take_more}
use Rattle.object_reader.specs.declared.block.Block.{Block}
use Rattle.object_faults.specs.Columns.{earlier, fault_at, first_at, first_of, IsFirst, registered_fault, side_at, side_fault}
use Rattle.object_faults.specs.declared.column.Column.{Column}
use Rattle.object_faults.specs.declared.fault.ValueFault.{ValueFault}
use Rattle.object_faults.specs.declared.first.Found.{Found}
use Rattle.object_faults.specs.declared.needs.Side.{Side}
use Rattle.object_faults.specs.claims.Faults.{is_registered}
use Rattle.object_faults.specs.Needs.{NeedsOf}

or-none : (fault other : Option ValueFault) → fault ≡ None → option_or fault other ≡ other
or-none fault other none = ap (λ found. option_or found other) none

or-some : (fault other : Option ValueFault) (is : ValueFault) → fault ≡ Some is → option_or fault other ≡ Some is
or-some fault other is some = ap (λ found. option_or found other) some

module _ (count : ℕ) (a b : ℕ → Option ValueFault) where
  by_order : (one other : Found) → IsFirst count a (Some one) → IsFirst count b (Some other) → (c : Bool) → nat_le one.place other.place ≡ c
      → IsFirst count (λ k. option_or (a k) (b k)) (cond c (Some one) (Some other))
  by_order one other fa fb true is =
      let low : one.place ≤ other.place = leb-true one.place other.place is in
      (fa.0, or-some _ _ one.fault fa.1, (λ k early. or-none _ _ (fa.2 k early) ∙ fb.2 k (omega (arith, low, early))))
  by_order one other fa fb false is =
      let high : other.place < one.place = leb-false one.place other.place is in
      (fb.0, or-none _ _ (fa.2 other.place high) ∙ fb.1, (λ k early. or-none _ _ (fa.2 k (omega (arith, high, early))) ∙ fb.2 k early))

  -- the earlier of the first by two tests is the first by both
  pub first-earlier : (first second : Option Found) → IsFirst count a first → IsFirst count b second → IsFirst count (λ k. option_or (a k) (b k)) (earlier first second)
  first-earlier None None fa fb = λ k low. or-none _ _ (fa k low) ∙ fb k low
  first-earlier None (Some other) fa fb =
      (fb.0, or-none _ _ (fa other.place fb.0) ∙ fb.1, (λ k early. let low = fb.0 in or-none _ _ (fa k (omega (arith, low, early))) ∙ fb.2 k early))
  first-earlier (Some one) None fa fb =
      (fa.0, or-some _ _ one.fault fa.1, (λ k early. let low = fa.0 in or-none _ _ (fa.2 k early) ∙ fb k (omega (arith, low, early))))
  first-earlier (Some one) (Some other) fa fb = by_order one other fa fb (nat_le one.place other.place) refl

-- the same of what was found to be the earlier
pub first-both : (count : ℕ) (a b : ℕ → Option ValueFault) (first second found : Option Found) → found ≡ earlier first second → IsFirst count a first → IsFirst count b second
    → IsFirst count (λ k. option_or (a k) (b k)) found
first-both count a b first second found is fa fb = subst (λ (f : Option Found). IsFirst count (λ k. option_or (a k) (b k)) f) (sym is) (first-earlier count a b first second fa fb)

-- the same by a test with the same answers
pub first-same : (count : ℕ) (a b : ℕ → Option ValueFault) (found : Option Found) → ((k : ℕ) → b k ≡ a k) → IsFirst count a found → IsFirst count b found
first-same count a b None same is = λ k low. same k ∙ is k low
first-same count a b (Some found) same is = (is.0, same found.place ∙ is.1, (λ k early. same k ∙ is.2 k early))

-- ---- one more column

or-more : (x rest fault : Option ValueFault) → option_or x (option_or rest fault) ≡ option_or (option_or x rest) fault
or-more None rest fault = refl
or-more (Some one) rest fault = refl

or-nothing : (fault : Option ValueFault) → option_or fault None ≡ fault
or-nothing None = refl
or-nothing (Some fault) = refl

first_of-more : (faults : List (Option ValueFault)) (fault : Option ValueFault) → first_of (faults ++ fault ∷ []) ≡ option_or (first_of faults) fault
first_of-more [] fault = or-nothing fault
first_of-more (one ∷ faults) fault = ap (λ rest. option_or one rest) (first_of-more faults fault) ∙ or-more one (first_of faults) fault

more-at : (f : Column → Option ValueFault) (columns : List Column) (i : ℕ) (d : Column) → i < length columns
    → first_of (map f (take (i + 1) columns)) ≡ option_or (first_of (map f (take i columns))) (f (get_or columns i d))
more-at f columns i d low =
    ap (λ (cs : List Column). first_of (map f cs)) (take_more columns i d low)
    ∙ ap first_of (map-append f (take i columns) (get_or columns i d ∷ [])) ∙ first_of-more (map f (take i columns)) (f (get_or columns i d))

pub one-column : (blocks : List Block) (columns : List Column) (i : ℕ) (d : Column) (first second : Option Found) → i < length columns
    → IsFirst (length blocks) (first_at blocks (take i columns)) first → IsFirst (length blocks) (fault_at blocks (get_or columns i d)) second
    → IsFirst (length blocks) (first_at blocks (take (i + 1) columns)) (earlier first second)
one-column blocks columns i d first second low before here =
    first-same (length blocks) (λ k. option_or (first_at blocks (take i columns) k) (fault_at blocks (get_or columns i d) k)) (first_at blocks (take (i + 1) columns)) (earlier first second)
    (λ k. more-at (λ c. fault_at blocks c k) columns i d low)
    (first-earlier (length blocks) (first_at blocks (take i columns)) (fault_at blocks (get_or columns i d)) first second before here)

-- ---- the blocks of one column

-- what was found of the block at a place
pub marked-at : (blocks : List Block) (registered : List Bool) (i : ℕ) (x : Block) → registered ≡ map is_registered blocks → i < length blocks → x ≡ get_or blocks i x
    → get_or registered i false ≡ is_registered x
marked-at blocks registered i x are within is =
    ap (λ (marks : List Bool). get_or marks i false) are ∙ get_or-map is_registered blocks i x false within ∙ ap is_registered (sym is)

-- what a block at a place has
pub at-place : (blocks seen : List Block) (column : Column) (i : ℕ) (x : Block) (fault : Option ValueFault) → slice_get blocks i ≡ Some x → seen ≡ blocks
    → fault ≡ registered_fault seen i column x → fault_at blocks column i ≡ fault
at-place blocks seen column i x fault here same is =
    ap (option_and_then (registered_fault blocks i column)) here ∙ sym (is ∙ ap (λ (all : List Block). registered_fault all i column x) same)

-- the same of a side
pub at-side : (blocks : List Block) (needs : NeedsOf) (side : Side) (i : ℕ) (x : Block) (fault : Option ValueFault) → slice_get blocks i ≡ Some x
    → needs ≡ record { blocks = blocks; side = side } → fault ≡ side_fault needs.blocks i needs.side x → side_at blocks side i ≡ fault
at-side blocks needs side i x fault here same is =
    ap (option_and_then (side_fault blocks i side)) here ∙ sym (is ∙ ap (λ (n : NeedsOf). side_fault n.blocks i n.side x) same)

-- one more place without a fault
pub none-more : (fault : ℕ → Option ValueFault) (i : ℕ) → ((k : ℕ) → k < i → fault k ≡ None) → fault i ≡ None → (k : ℕ) → k < i + 1 → fault k ≡ None
none-more fault i before here k low = ⊎_elim
    (λ (early : k < i). before k early)
    (λ (late : i ≤ k). let same : k ≡ i = omega arith in ap fault same ∙ here)
    (cases_lt k i)
