-- Places of blocks: that objects stand within and rise, and the first place of which something is said.
use Rattle.std.proofs.Common.{◌≡◌, ℕ, zero, suc, ◌<◌, ◌≤◌, List, [], ◌∷◌, length, get_or, Option, Some, None, refl, ap, ⊎_elim, arith}
use Rattle.std.specs.Prelude.{slice_get, slice_index_or}
use Rattle.std.specs.List.{range_with_len}
use Rattle.std.proofs.lemmas.Bool.{cases_lt}
use Rattle.std.proofs.lemmas.List.Elements.{Contains-get_or}
use Rattle.std.proofs.lemmas.List.Kept.{AllPairs-filter}
use Rattle.std.proofs.lemmas.Option.{get_or_from_slice_get, none-some, same_Some, slice_get_within}
use Rattle.lemmas.proofs.Elements.{Contains-from_filter, Contains-from_range}
use Rattle.lemmas.proofs.Lists.{AllPairs-head, AllPairs-tail, range_increases}
use Rattle.lemmas.proofs.Rising.{Rises}
use Rattle.object_groups.specs.claims.Objects.{is_object_at, names_in, objects_in}
use Rattle.object_groups.specs.ObjectLaws.{names-long}
use Rattle.object_groups.specs.claims.First.{IsFirst}
use Rattle.object_reader.specs.declared.block.Block.{Block}
use Rattle.object_reader.specs.declared.block.BlockKind.{BlockKind}
use Rattle.object_resolve.specs.claims.First.{IsFirstAt, IsNowhere}

-- ---- blocks of which something is said stand within

-- objects stand within
pub object-within : (blocks : List Block) (kind : BlockKind) (number place : ℕ) → slice_get (objects_in blocks kind) number ≡ Some place → place < length blocks
unfolding objects_in
object-within blocks kind number place here =
    let within = slice_get_within (objects_in blocks kind) number place here in
    let is : get_or (objects_in blocks kind) number 0 ≡ place = get_or_from_slice_get (objects_in blocks kind) number place 0 here in
    let at = Contains-from_filter (is_object_at blocks kind) (range_with_len 0 (length blocks)) (get_or (objects_in blocks kind) number 0)
    (Contains-get_or (objects_in blocks kind) number 0 within) in
    let low = Contains-from_range (length blocks) (get_or (objects_in blocks kind) number 0) at.0 in
    omega (arith, low, is)

-- ---- places rise with the numbers of the objects

rises-at : (xs : List ℕ) → Rises xs → (i j d e : ℕ) → i < j → j < length xs → get_or xs i d < get_or xs j e
rises-at [] rising i j d e low within = absurd (omega (arith, within))
rises-at (x ∷ xs) rising i zero d e low within = absurd (omega (arith, low))
rises-at (x ∷ xs) rising zero (suc j) d e low within = AllPairs-head (λ m n. m < n) x xs rising j e (omega (arith, within))
rises-at (x ∷ xs) rising (suc i) (suc j) d e low within =
    rises-at xs (AllPairs-tail (λ m n. m < n) x xs rising) i j d e (omega (arith, low)) (omega (arith, within))

objects-rise : (blocks : List Block) (kind : BlockKind) → Rises (objects_in blocks kind)
unfolding objects_in
objects-rise blocks kind = AllPairs-filter (λ m n. m < n) (is_object_at blocks kind) (range_with_len 0 (length blocks)) (range_increases 0 (length blocks))

-- an object that stands before another has the lower number
pub lower-before : (blocks : List Block) (kind : BlockKind) (one other : ℕ) → other < length (objects_in blocks kind)
    → slice_index_or (objects_in blocks kind) other 0 < slice_index_or (objects_in blocks kind) one 0 → other < one
lower-before blocks kind one other inside before = ⊎_elim
    (λ (low : other < one). low)
    (λ (high : one ≤ other). ⊎_elim
    (λ (less : one < other). let rise = rises-at (objects_in blocks kind) (objects-rise blocks kind) one other 0 0 less inside in absurd (omega (arith, rise, before)))
    (λ (same : other ≤ one). let is : one ≡ other = omega (arith, high, same) in
    let equal = ap (λ (n : ℕ). slice_index_or (objects_in blocks kind) n 0) is in absurd (omega (arith, equal, before)))
    (cases_lt one other))
    (cases_lt other one)

pub few-names : (blocks : List Block) (kind : BlockKind) (limit : ℕ) → length (objects_in blocks kind) ≤ limit → length (names_in blocks kind) ≤ limit
few-names blocks kind limit few = let long = names-long blocks kind in omega (arith, long, few)

-- ---- the first place

-- the only place of which it is said is the first
pub only-first : (P : ℕ → Type 0) (found : Option ℕ) → ((place : ℕ) → P place → found ≡ Some place) → ((place : ℕ) → found ≡ Some place → P place) → IsFirst P found
only-first P None all one = λ place said. none-some place (all place said)
only-first P (Some place) all one = (one place refl, (λ k early said. let same = same_Some place k (all k said) in omega (arith, early, same)))

-- what is said of none is said nowhere
pub none-first : (P : ℕ → Type 0) → IsNowhere P → IsFirst P None
none-first P none = none

-- its line
pub line-of_first : (P : ℕ → Type 0) (blocks : List Block) (place : ℕ) (block : Block) → slice_get blocks place ≡ Some block → IsFirst P (Some place)
    → IsFirstAt P blocks block.line
line-of_first P blocks place block here first = record {
  place = place;
  block = block;
  here = here;
  at = refl;
  first = first;
}
