-- The first block with a fault.
use Rattle.std.proofs.Common.{◌≡◌, ℕ, ◌+◌, ◌<◌, ◌≤◌, Bool, true, false, List, [], ◌∷◌, length, Option, Some, None, refl, sym, ap, subst, eqb, eqb-true, eq-eqb, ⊎_elim, ◌∙◌, arith}
use Rattle.std.specs.Prelude.{◌↔◌, IfNone, IfSome, IsTrue, is_some, slice_get, unwrap_or}
use Rattle.std.specs.Option.{option_map_or}
use Rattle.std.proofs.lemmas.Bool.{false≢true, cases_lt}
use Rattle.std.proofs.lemmas.List.{length-map}
use Rattle.std.proofs.lemmas.Option.{slice_get-get_or, slice_get_within}
use Rattle.graph.specs.claims.Chains.{HasNoLoop}
use Rattle.graph.specs.claims.Edges.{Leads}
use Rattle.graph_order.specs.Loops.{IsFirstOnLoop}
use Rattle.graph_order.specs.Order.{HasLoop}
use Rattle.object_reader.specs.declared.block.Block.{Block}
use Rattle.object_inheritance.specs.claims.Faults.{AreFree, AreFreeBefore, fault_by, IsFaultAt, IsLooped}
use Rattle.object_inheritance.specs.claims.Templates.{template_graph, templates_of}

none-looped : (unknown looped doubled : Bool) → None ≡ fault_by unknown looped doubled → looped ≡ true → ⊥
none-looped true looped doubled is loops = false≢true (ap is_some is)
none-looped false true doubled is loops = false≢true (ap is_some is)
none-looped false false doubled is loops = false≢true loops

-- a block with no fault lies on no loop
pub free-unlooped : (blocks : List Block) (place : ℕ) (block : Block) → IsFaultAt blocks place block None → IsLooped blocks place → ⊥
free-unlooped blocks place block free loops = none-looped _ free.looped _ free.is (free.lies.1 loops)

-- whether a block lies on a loop, where none before it does
module _ (blocks : List Block) (place : ℕ) (block : Block) (within : place < length blocks) (free : AreFreeBefore blocks place) where
  by_first : (first : ℕ) → IsFirstOnLoop (template_graph blocks) first → IsTrue (eqb first place) ↔ IsLooped blocks place
  by_first first is = (
    (λ same. subst (λ (p : ℕ). IsLooped blocks p) (eqb-true first place same) is.on_loop),
    (λ loops. ⊎_elim
        (λ (early : place < first). absurd (is.first place early loops))
        (λ (here : first ≤ place). ⊎_elim
        (λ (later : first < place). absurd (
        let inside : first < length blocks = omega arith in
        let at = slice_get-get_or blocks first block inside in
        free-unlooped blocks first _ (free first _ later at) is.on_loop))
        (λ (back : place ≤ first). let same : first ≡ place = omega arith in eq-eqb first place same)
        (cases_lt first place))
        (cases_lt place first)),
  )

  pub looped-is : (first : Option ℕ) → IfSome first (IsFirstOnLoop (template_graph blocks)) → IfNone first (HasNoLoop (Leads (template_graph blocks)))
      → IsTrue (option_map_or (λ at. eqb at place) first false) ↔ IsLooped blocks place
  looped-is None first none = ((λ is. absurd (false≢true is)), (λ loops. absurd (none loops.0 place loops.1)))
  looped-is (Some first) is none = by_first first is

-- one more block without a fault
pub free-more : (blocks : List Block) (i : ℕ) (block : Block) → AreFreeBefore blocks i → slice_get blocks i ≡ Some block → IsFaultAt blocks i block None
    → AreFreeBefore blocks (i + 1)
free-more blocks i block free at fault k other low here = ⊎_elim
    (λ (before : k < i). free k other before here)
    (λ (past : i ≤ k).
    let same : k ≡ i = omega arith in
    let one : Some other ≡ Some block = sym here ∙ ap (slice_get blocks) same ∙ at in
    let is : other ≡ block = ap (λ (found : Option Block). unwrap_or found block) one in
    subst (λ (j : ℕ). IsFaultAt blocks j other None) (sym same) (subst (λ (x : Block). IsFaultAt blocks i x None) (sym is) fault))
    (cases_lt k i)

pub free-all : (blocks : List Block) (i : ℕ) → length blocks ≤ i → AreFreeBefore blocks i → AreFree blocks
free-all blocks i whole free k block here = free k block (let low = slice_get_within blocks k block here in omega (arith, low)) here

-- blocks without a fault have no loop
pub free-no_loop : (blocks : List Block) (graph : List (List ℕ)) → AreFree blocks → graph ≡ template_graph blocks → HasLoop graph → ⊥
unfolding template_graph
free-no_loop blocks graph free same loop =
    let long = length-map blocks (templates_of blocks) in
    let at = subst (λ (g : List (List ℕ)). HasLoop g) same loop in
    by_block at.0 (subst (λ (n : ℕ). at.0 < n) long at.1) at.2 blocks refl
  where
    by_block : (p : ℕ) → p < length blocks → IsLooped blocks p → (all : List Block) → blocks ≡ all → ⊥
    by_block p low loops [] is = let none : length blocks ≡ 0 = ap length is in omega arith
    by_block p low loops (block ∷ others) is = free-unlooped blocks p _ (free p _ (slice_get-get_or blocks p block low)) loops
