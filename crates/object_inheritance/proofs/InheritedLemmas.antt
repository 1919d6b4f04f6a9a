-- What is given to a block, by what is given to the templates that it uses; and that no line is longer than
-- there are blocks, where an order has each block before them.
use Rattle.std.proofs.Common.{◌≡◌, ℕ, zero, suc, ◌+◌, ◌-◌, ◌<◌, ◌≤◌, Bool, true, false, ◌||◌, cond, List, [], ◌∷◌, ◌++◌, length, map, get_or, Option, None, refl, sym, ap, subst, eqb, eqb-true, eq-eqb, ⊎_elim, ◌∙◌, arith}
use Rattle.std.specs.Prelude.{All, Contains}
use Rattle.std.specs.List.{list_any, position_or_len}
use Rattle.std.specs.Option.{option_to_list}
use Rattle.std.proofs.lemmas.Bool.{false≢true, cases_lt}
use Rattle.std.proofs.lemmas.Bool.Decides.{Decides-eqb}
use Rattle.std.proofs.lemmas.Map.Made.{IsDistinct-from_AllPairs}
use Rattle.std.proofs.lemmas.Map.Steps.{length-le_from_distinct_below}
use Rattle.std.proofs.lemmas.Grind.{get_or_default_zero}
use Rattle.std.proofs.lemmas.List.{get_or_past, length-map}
use Rattle.std.proofs.lemmas.List.Sums.{fails_before_first, passes_at_first, prefix_len-le-length}
use Rattle.std.proofs.lemmas.Option.{slice_get_past}
use Rattle.graph.specs.claims.Edges.{Leads}
use Rattle.graph_order.specs.Order.{IsOrder}
use Rattle.object_reader.specs.declared.block.Block.{Block}
use Rattle.object_inheritance.specs.claims.Inherited.{first_given, given, given_along, own, sources, stays}
use Rattle.object_inheritance.specs.Inherited.{AreInherited, AreShort}
use Rattle.object_inheritance.specs.claims.Templates.{template_graph, templates_of}
use Rattle.object_inheritance.proofs.UseLemmas.{leads-from, leads-within}

map-same : {X Y : Type 0} (f g : X → Y) (xs : List X) → ((x : X) → Contains xs x → f x ≡ g x) → map f xs ≡ map g xs
map-same f g [] each = refl
map-same f g (x ∷ xs) each =
    ap (λ y. y ∷ map f xs) (each x (0, omega arith, refl))
    ∙ ap (λ ys. g x ∷ ys) (map-same f g xs (λ y at. each y (suc at.0, omega (arith, at.1), at.2)))

-- a block leads to the templates from which it takes a directive
pub sources-lead : (blocks : List Block) (directive : List ℕ) (place q : ℕ) → Contains (sources blocks directive place) q → Leads (template_graph blocks) place q
sources-lead blocks directive place q at =
    by_name (stays directive) at
  where
    by_name : (b : Bool) → Contains (cond b [] (get_or (template_graph blocks) place [])) q → Leads (template_graph blocks) place q
    by_name true none = absurd (omega (arith, none.1))
    by_name false here = here

-- where there is no block, nothing is given
pub own-past : (blocks : List Block) (directive : List ℕ) (place : ℕ) → length blocks ≤ place → own blocks directive place ≡ None
own-past blocks directive place past = rw (slice_get_past blocks place past) refl

sources-past : (blocks : List Block) (directive : List ℕ) (place : ℕ) → length blocks ≤ place → sources blocks directive place ≡ []
unfolding template_graph
sources-past blocks directive place past =
    by_name (stays directive) (get_or_past (map (templates_of blocks) blocks) place [] (let long = length-map blocks (templates_of blocks) in omega (arith, long)))
  where
    by_name : (b : Bool) → get_or (map (templates_of blocks) blocks) place [] ≡ [] → cond b [] (get_or (map (templates_of blocks) blocks) place []) ≡ []
    by_name true none = refl
    by_name false none = none

along-past : (further : ℕ) (blocks : List Block) (directive : List ℕ) (place : ℕ) → length blocks ≤ place → given_along further blocks directive place ≡ []
unfolding given_along
along-past zero blocks directive place past = refl
along-past (suc further) blocks directive place past =
    ap (λ (found : Option (List ℕ)). option_to_list found ++ first_given (map (given_along further blocks directive) (sources blocks directive place))) (own-past blocks directive place past)
    ∙ ap (λ places. first_given (map (given_along further blocks directive) places)) (sources-past blocks directive place past)

pub given-past : (blocks : List Block) (directive : List ℕ) (place : ℕ) → length blocks ≤ place → given blocks directive place ≡ []
unfolding given
given-past blocks directive place past = along-past (length blocks) blocks directive place past

-- where no block gives a directive itself, nothing is given
first-nowhere : (f : ℕ → List (List ℕ)) (places : List ℕ) → ((q : ℕ) → f q ≡ []) → first_given (map f places) ≡ []
first-nowhere f [] none = refl
first-nowhere f (q ∷ places) none = ap (λ line. first_given (line ∷ map f places)) (none q) ∙ first-nowhere f places none

along-nowhere : (further : ℕ) (blocks : List Block) (directive : List ℕ) → ((place : ℕ) → own blocks directive place ≡ None) → (place : ℕ) → given_along further blocks directive place ≡ []
unfolding given_along
along-nowhere zero blocks directive none place = refl
along-nowhere (suc further) blocks directive none place =
    ap (λ (found : Option (List ℕ)). option_to_list found ++ first_given (map (given_along further blocks directive) (sources blocks directive place))) (none place)
    ∙ first-nowhere (given_along further blocks directive) (sources blocks directive place) (along-nowhere further blocks directive none)

pub given-nowhere : (blocks : List Block) (directive : List ℕ) → ((place : ℕ) → own blocks directive place ≡ None) → (place : ℕ) → given blocks directive place ≡ []
unfolding given
given-nowhere blocks directive none place = along-nowhere (length blocks) blocks directive none place

pub graph-long : (blocks : List Block) → length (template_graph blocks) ≡ length blocks
unfolding template_graph
graph-long blocks = length-map blocks (templates_of blocks)

any-below : (n q : ℕ) (xs : List ℕ) → All (λ p. p < n) xs → list_any (eqb q) xs ≡ true → q < n
any-below n q [] all found = absurd (false≢true found)
any-below n q (x ∷ xs) all found =
    elim (eqb q x) as (λ b. eqb q x ≡ b → (b || list_any (eqb q) xs) ≡ true → q < n) [
      | true ↦ λ is _. subst (λ (p : ℕ). p < n) (sym (eqb-true q x is)) (all 0 0 (omega arith))
      | false ↦ λ _ there. any-below n q xs (λ k d low. all (suc k) d (omega (arith, low))) there
    ] refl found

-- ---- along an order

module _ (blocks : List Block) (order : List ℕ) (ordered : IsOrder (template_graph blocks) order) where
  -- where a block stands in the order
  abbrev rank : ℕ → ℕ
  rank p = position_or_len (λ k. eqb k p) order

  at_rank : (p : ℕ) → p < length (template_graph blocks) → (rank p < length order) × (get_or order (rank p) 0 ≡ p)
  at_rank p low =
      let at = ordered.each p low in
      let most = prefix_len-le-length (λ k. cond (eqb k p) false true) order in
      let found : rank p < length order = ⊎_elim
      (λ (there : rank p < length order). there)
      (λ (past : length order ≤ rank p). absurd (false≢true (sym (fails_before_first (λ k. eqb k p) order at.0 0 (omega (arith, at.1))) ∙ eq-eqb (get_or order at.0 0) p (sym (get_or_default_zero order at.0 p at.1) ∙ at.2))))
      (cases_lt (rank p) (length order)) in
      (found, eqb-true (get_or order (rank p) 0) p (passes_at_first (λ k. eqb k p) order 0 found))

  rises : (p q : ℕ) → Leads (template_graph blocks) p q → rank p < rank q
  rises p q leads =
      let from = at_rank p (subst (λ (n : ℕ). p < n) (sym (graph-long blocks)) (leads-from blocks p q leads)) in
      let to = at_rank q (subst (λ (n : ℕ). q < n) (sym (graph-long blocks)) (leads-within blocks p q leads)) in
      ordered.forward (rank p) (rank q) from.0 to.0
      (subst (λ (k : ℕ). Leads (template_graph blocks) (get_or order (rank p) 0) k) (sym to.1)
      (subst (λ (k : ℕ). Leads (template_graph blocks) k q) (sym from.1) leads))

  few : length order ≤ length blocks
  few = length-le_from_distinct_below order (length blocks) (IsDistinct-from_AllPairs Decides-eqb order ordered.once)
      (λ q found. subst (λ (n : ℕ). q < n) (graph-long blocks) (any-below (length (template_graph blocks)) q order ordered.within found))

  module _ (directive : List ℕ) where
    stable : (further place : ℕ) → length order ≤ rank place + further
        → given_along further blocks directive place ≡ given_along (suc further) blocks directive place
    unfolding given_along
    stable zero place long = ⊎_elim
        (λ (low : place < length blocks). absurd (let at = at_rank place (subst (λ (n : ℕ). place < n) (sym (graph-long blocks)) low) in omega (arith, at.0, long)))
        (λ (past : length blocks ≤ place). sym (along-past 1 blocks directive place past))
        (cases_lt place (length blocks))
    stable (suc further) place long =
        ap (λ lists. option_to_list (own blocks directive place) ++ first_given lists)
        (map-same (given_along further blocks directive) (given_along (suc further) blocks directive) (sources blocks directive place)
        (λ q at. stable further q (let up = rises place q (sources-lead blocks directive place q at) in omega (arith, up, long))))

    more : (k further place : ℕ) → length order ≤ further → given_along further blocks directive place ≡ given_along (k + further) blocks directive place
    more zero further place long = ap (λ (n : ℕ). given_along n blocks directive place) (omega arith)
    more (suc k) further place long =
        stable further place (omega (arith, long)) ∙ more k (suc further) place (omega (arith, long))
        ∙ ap (λ (n : ℕ). given_along n blocks directive place) (omega arith)

  pub are-short : AreShort blocks
  unfolding given
  are-short directive place further long =
      sym (more directive (further - length blocks) (length blocks) place few
      ∙ ap (λ (n : ℕ). given_along n blocks directive place) (omega (arith, long)))

  pub are-inherited : AreInherited blocks
  unfolding given given_along
  are-inherited directive place = stable directive (length blocks) place (omega (arith, few))
