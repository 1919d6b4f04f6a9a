-- The hosts of the service blocks so far, and how many objects there are.
use Rattle.std.proofs.Common.{◌≡◌, ℕ, ◌+◌, ◌<◌, ◌≤◌, Bool, true, false, cond, List, [], ◌∷◌, ◌++◌, length, Some, refl, sym, ap, subst, ◌∙◌, arith}
use Rattle.std.specs.Prelude.{slice_get}
use Rattle.std.specs.List.{sum_by}
use Rattle.std.proofs.lemmas.List.{append-nil, length-append}
use Rattle.lemmas.proofs.Lists.{filter_range_more}
use Rattle.lemmas.proofs.Zips.{zip-more}
use Rattle.lemmas.proofs.Numbers.{sum-more}
use Rattle.due_model.specs.claims.Limits.{max_objects}
use Rattle.object_groups.specs.claims.Objects.{is_object, is_object_at, objects_in}
use Rattle.object_groups.specs.ObjectLaws.{object-at}
use Rattle.object_reader.specs.declared.block.Block.{Block}
use Rattle.object_reader.specs.declared.block.BlockKind.{BlockKind}
use Rattle.object_reader.specs.declared.block.BlockKind.TheVariants.{Host, Service}
use Rattle.object_services.specs.claims.Hosts.{AreHosts}
use Rattle.object_services.specs.claims.Limits.{AreHostLists, AreWithinLimit, GiveObjects, objects_below}
use Rattle.object_services.specs.Limits.{IsFirstOver, IsSoFar, Noted}

pub below-more : (blocks : List Block) (kind : BlockKind) (place : ℕ) (b : Bool) → is_object_at blocks kind place ≡ b
    → objects_below blocks kind (place + 1) ≡ objects_below blocks kind place ++ cond b (place ∷ []) []
below-more blocks kind place b is =
    filter_range_more (is_object_at blocks kind) place ∙ ap (λ (c : Bool). objects_below blocks kind place ++ cond c (place ∷ []) []) is

pub counted-more : (xs : List ℕ) (place : ℕ) (h : Bool) → length (xs ++ cond h (place ∷ []) []) ≡ length xs + cond h 1 0
counted-more xs place true = length-append xs (place ∷ [])
counted-more xs place false = length-append xs []

-- the next block
module _ (blocks : List Block) (place : ℕ) (old new : List (List ℕ)) (count more : ℕ) where
  so-far : (h s : Bool) → is_object_at blocks Host place ≡ h → is_object_at blocks Service place ≡ s → IsSoFar blocks place old count → Noted blocks place s old new more
      → IsSoFar blocks (place + 1) new (count + cond h 1 0 + more)
  so-far h true host service before noted =
      let hosts_more = ap length (below-more blocks Host place h host) ∙ counted-more (objects_below blocks Host place) place h in
      let sum_is = ap (sum_by length) noted.2 ∙ sum-more old noted.0 in
      let counted = before.counted in
      let many = noted.3 in
      record {
        listed = subst (λ (places : List ℕ). AreHostLists blocks places new) (sym (below-more blocks Service place true service))
            (subst (λ (lists : List (List ℕ)). AreHostLists blocks (objects_below blocks Service place ++ place ∷ []) lists) (sym noted.2)
            (zip-more (AreHosts blocks) (objects_below blocks Service place) old place noted.0 before.listed noted.1));
        counted = omega (arith, hosts_more, sum_is, counted, many);
      }
  so-far h false host service before noted =
      let hosts_more = ap length (below-more blocks Host place h host) ∙ counted-more (objects_below blocks Host place) place h in
      let sum_is = ap (sum_by length) noted.0 in
      let counted = before.counted in
      let many = noted.1 in
      record {
        listed = subst (λ (places : List ℕ). AreHostLists blocks places new) (sym (below-more blocks Service place false service ∙ append-nil (objects_below blocks Service place)))
            (subst (λ (lists : List (List ℕ)). AreHostLists blocks (objects_below blocks Service place) lists) (sym noted.0) before.listed);
        counted = omega (arith, hosts_more, sum_is, counted, many);
      }

-- ---- a block at its place

pub none-yet : (blocks : List Block) → IsSoFar blocks 0 [] 0
none-yet blocks = record { listed = tt; counted = refl }

-- the block at the place, of which both tests were made
pub next-block : (blocks : List Block) (place : ℕ) (x : Block) (old new : List (List ℕ)) (count own more : ℕ) (h s : Bool) → slice_get blocks place ≡ Some x
    → h ≡ is_object Host x → s ≡ is_object Service x → own ≡ cond h 1 0 → IsSoFar blocks place old count → Noted blocks place s old new more
    → IsSoFar blocks (place + 1) new (count + own + more)
next-block blocks place x old new count own more h s here host service one before noted =
    subst (λ (n : ℕ). IsSoFar blocks (place + 1) new (count + n + more)) (sym one)
    (so-far blocks place old new count more h s (object-at blocks Host place x h here host) (object-at blocks Service place x s here service) before noted)

-- the first block that passes the limit
pub first-over : (blocks : List Block) (place : ℕ) (x : Block) (old new : List (List ℕ)) (count total : ℕ) → place < length blocks → slice_get blocks place ≡ Some x
    → IsSoFar blocks place old count → count ≤ max_objects → IsSoFar blocks (place + 1) new total → max_objects < total → IsFirstOver blocks place x.line
first-over blocks place x old new count total within here before low after over = record {
  block = x;
  here = here;
  at = refl;
  passes = record {
    within = within;
    before = (count, (old, before.listed, before.counted), low);
    over = (total, (new, after.listed, after.counted), over);
  };
}

-- all blocks
pub all-listed : (blocks : List Block) (place : ℕ) (lists : List (List ℕ)) (count : ℕ) → place ≡ length blocks → IsSoFar blocks place lists count
    → AreHostLists blocks (objects_in blocks Service) lists
unfolding objects_in
all-listed blocks place lists count end far = subst (λ (n : ℕ). AreHostLists blocks (objects_below blocks Service n) lists) end far.listed

pub all-few : (blocks : List Block) (place : ℕ) (lists : List (List ℕ)) (count : ℕ) → place ≡ length blocks → IsSoFar blocks place lists count → count ≤ max_objects
    → length (objects_in blocks Host) + sum_by length lists ≤ max_objects
unfolding objects_in
all-few blocks place lists count end far low =
    let all : count ≡ length (objects_below blocks Host (length blocks)) + sum_by length lists =
    far.counted ∙ ap (λ (n : ℕ). length (objects_below blocks Host n) + sum_by length lists) end in
    subst (λ (n : ℕ). n ≤ max_objects) all low

pub all-within : (blocks : List Block) (place : ℕ) (lists : List (List ℕ)) (count : ℕ) → place ≡ length blocks → IsSoFar blocks place lists count → count ≤ max_objects
    → AreWithinLimit blocks
all-within blocks place lists count end far low =
    (count, subst (λ (n : ℕ). GiveObjects blocks n count) end (lists, far.listed, far.counted), low)
