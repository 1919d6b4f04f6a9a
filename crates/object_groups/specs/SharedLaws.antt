-- Laws of lists by their parts.
use Rattle.std.proofs.Common.{◌≡◌, ℕ, zero, suc, ◌+◌, ◌<◌, ◌≤◌, List, [], ◌∷◌, length, take, get_or, Option, Some, None, refl, sym, ap, subst, ◌∙◌, arith}
use Rattle.std.specs.Prelude.{IfSome, slice_get}
use Rattle.std.specs.Option.{option_map_or}
use Rattle.std.proofs.lemmas.List.{get_or-map, get_or-take, length-map}
use Rattle.std.proofs.lemmas.Option.{slice_get-get_or}
use Rattle.object_groups.specs.declared.shared.Parts.{Parts}
use Rattle.object_groups.specs.declared.shared.SharedList.{SharedList}
use Rattle.object_groups.specs.claims.Objects.{list_at}
use Rattle.object_groups.specs.Shared.{AreShared, AreSharedLists, HasParts, IsSharedList, list_before, wholes_of}
use Rattle.object_reader.specs.declared.block.Block.{Block}

-- ---- the number of the list before

pub before-taken : (wholes : List (List (List ℕ))) (i : ℕ) (before : Option ℕ) → IfSome before (λ k. k < i) → list_before (take i wholes) before ≡ list_before wholes before
before-taken wholes i None low = refl
before-taken wholes i (Some number) low = get_or-take i wholes number [] low

pub below-taken : (before : Option ℕ) (i n : ℕ) → i ≡ n → IfSome before (λ k. k < i) → IfSome before (λ k. k < n)
below-taken before i n same low = subst (λ (bound : ℕ). IfSome before (λ k. k < bound)) same low

pub below-less : (before : Option ℕ) (j bound : ℕ) → j < bound → IfSome before (λ k. k < j) → IfSome before (λ k. k < bound)
below-less None j bound less none = tt
below-less (Some r) j bound less here = omega (arith, less, here)

-- of a list before, within the nodes
pub before-within : (before : Option ℕ) (count bound limit : ℕ) → IfSome before (λ k. k < bound) → count + bound ≤ limit → IfSome before (λ k. count + k < limit)
before-within None count bound limit low few = tt
before-within (Some number) count bound limit low few = omega (arith, low, few)

-- ---- shared lists

pub shared-same : (blocks : List Block) (directive : List ℕ) (lists given : List SharedList) → given ≡ lists → AreSharedLists blocks directive lists → AreSharedLists blocks directive given
shared-same blocks directive lists given same are = subst (λ (ls : List SharedList). AreSharedLists blocks directive ls) (sym same) are

pub wholes-long : (blocks : List Block) (directive : List ℕ) (lists : List SharedList) → length (wholes_of blocks directive lists) ≡ length lists
wholes-long blocks directive lists = length-map lists (λ list. list_at blocks directive list.place)

pub shared-at : (blocks : List Block) (directive : List ℕ) (lists : List SharedList) → AreSharedLists blocks directive lists → (i : ℕ) (d : SharedList) → i < length lists
    → IsSharedList blocks directive (wholes_of blocks directive lists) i (get_or lists i d)
shared-at blocks directive lists shared i d low = shared i (get_or lists i d) (slice_get-get_or lists i d low)

-- the whole list of that number is that of its block
pub whole-at : (blocks : List Block) (directive : List ℕ) (lists : List SharedList) (i : ℕ) (d : SharedList) → i < length lists
    → get_or (wholes_of blocks directive lists) i [] ≡ list_at blocks directive (get_or lists i d).place
whole-at blocks directive lists i d low = get_or-map (λ list. list_at blocks directive list.place) lists i d [] low

pub whole-is : (blocks : List Block) (directive : List ℕ) (lists : List SharedList) (i : ℕ) (one : SharedList) → slice_get lists i ≡ Some one
    → get_or (wholes_of blocks directive lists) i [] ≡ list_at blocks directive one.place
whole-is blocks directive [] i one none = cc
whole-is blocks directive (list ∷ lists) zero one is = ap (λ (found : Option SharedList). option_map_or (λ each. list_at blocks directive each.place) found []) is
whole-is blocks directive (list ∷ lists) (suc i) one is = whole-is blocks directive lists i one is

-- the parts of one of the lists
pub parts-at : (blocks : List Block) (directive : List ℕ) (places : List ℕ) (parts : List Parts) (lists : List SharedList) (k place : ℕ) (one d : Parts) → AreShared blocks directive places parts lists
    → k < length places → one ≡ get_or parts k d → place ≡ get_or places k 0 → HasParts blocks directive (wholes_of blocks directive lists) place one
parts-at blocks directive places parts lists k place one d are low is at =
    let long = are.long in
    let found : slice_get parts k ≡ Some one = slice_get-get_or parts k d (omega (arith, low, long)) ∙ ap (λ (p : Parts). Some p) (sym is) in
    subst (λ (p : ℕ). HasParts blocks directive (wholes_of blocks directive lists) p one) (sym at) (are.have.each k one found)
