-- The graph of templates, one block and one name more.
use Rattle.std.proofs.Common.{◌≡◌, ℕ, zero, suc, ◌+◌, ◌<◌, ◌≤◌, List, [], ◌∷◌, ◌++◌, append_assoc, length, length-take-le, map, take, get_or, Option, refl, sym, ap, subst, eqb, ⊎_elim, ◌∙◌, Bor, arith}
use Rattle.std.specs.Prelude.{All, Contains, filter_map}
use Rattle.std.specs.Option.{option_to_list}
use Rattle.std.proofs.lemmas.Bool.{cases_lt}
use Rattle.std.proofs.lemmas.List.{length-map, map-append, take_more, get_or_past, ext_get_or}
use Rattle.std.proofs.lemmas.List.Elements.{filter_map-append, All-nil, All-contains}
use Rattle.lemmas.proofs.Searches.{All-found, found-one, position-within, texts-more}
use Rattle.lemmas.proofs.Edges.{ends-append, ends-from, get_or-snoc}
use Rattle.graph.specs.declared.edges.Edge.{Edge}
use Rattle.graph.specs.claims.Edges.{Leads}
use Rattle.graph.specs.Edges.{ends_of, HasEdges}
use Rattle.object_reader.specs.declared.block.Block.{Block}
use Rattle.object_inheritance.specs.claims.Templates.{is_template, template_graph, template_place, templates_of, used_names}
use Rattle.object_inheritance.specs.Templates.{edge_from}
use Rattle.object_values.specs.Values.{texts}

-- ---- one name more

-- the edges to the templates of the names so far, and of one more
pub edges-more : (place : ℕ) (f : List ℕ → Option ℕ) (xs : List (Bor (List ℕ))) (i : ℕ) (d : Bor (List ℕ)) (first old new : List Edge) (found : Option ℕ) → i < length xs
    → old ≡ first ++ map (edge_from place) (filter_map f (texts (take i xs))) → found ≡ f ((get_or xs i d).now)
    → new ≡ old ++ map (edge_from place) (option_to_list found) → new ≡ first ++ map (edge_from place) (filter_map f (texts (take (i + 1) xs)))
edges-more place f xs i d first old new found within before is more =
    let all : filter_map f (texts (take (i + 1) xs)) ≡ filter_map f (texts (take i xs)) ++ option_to_list found =
    ap (filter_map f) (texts-more xs i d within) ∙ filter_map-append f (texts (take i xs)) ((get_or xs i d).now ∷ [])
    ∙ ap (λ one. filter_map f (texts (take i xs)) ++ one) (found-one (f ((get_or xs i d).now)) ∙ ap option_to_list (sym is)) in
    more ∙ ap (λ edges. edges ++ map (edge_from place) (option_to_list found)) before
    ∙ append_assoc first _ _ ∙ ap (λ edges. first ++ edges) (sym (map-append (edge_from place) (filter_map f (texts (take i xs))) (option_to_list found)) ∙ ap (map (edge_from place)) (sym all))

-- ---- templates stand among the blocks

pub templates-within : (blocks : List Block) (block : Block) → All (λ q. q < length blocks) (templates_of blocks block)
unfolding template_place
templates-within blocks block =
    All-found (template_place blocks block.kind) (λ q. q < length blocks) (λ name. position-within (is_template block.kind name) blocks) (used_names block)

-- ---- one block more

-- the ends of the edges so far, with those of one more block
pub ends-more : (f : Block → List ℕ) (blocks : List Block) (i : ℕ) (block : Block) (old new : List Edge) → i < length blocks → block ≡ get_or blocks i block
    → ((p : ℕ) → ends_of old p ≡ get_or (map f (take i blocks)) p []) → new ≡ old ++ map (edge_from i) (f block)
    → (p : ℕ) → ends_of new p ≡ get_or (map f (take (i + 1) blocks)) p []
ends-more f blocks i block old new within is before more p =
    let long : length (map f (take i blocks)) ≡ i = length-map (take i blocks) f ∙ length-take-le i blocks (omega arith) in
    let all : map f (take (i + 1) blocks) ≡ map f (take i blocks) ++ f block ∷ [] =
    ap (map f) (take_more blocks i block within ∙ ap (λ (x : Block). take i blocks ++ x ∷ []) (sym is)) ∙ map-append f (take i blocks) (block ∷ []) in
    ap (λ (edges : List Edge). ends_of edges p) more ∙ ends-append old (map (edge_from i) (f block)) p
    ∙ ap (λ (ends : List ℕ). ends ++ ends_of (map (edge_from i) (f block)) p) (before p)
    ∙ ap (λ (ends : List ℕ). get_or (map f (take i blocks)) p [] ++ ends) (ends-from i p (eqb i p) refl (f block))
    ∙ sym (ap (λ (lists : List (List ℕ)). get_or lists p []) all ∙ get_or-snoc (map f (take i blocks)) (f block) p (eqb i p) (ap (λ (n : ℕ). eqb n p) long))

-- the graph of these edges
pub graph-is : (blocks : List Block) (nodes : ℕ) (edges : List Edge) (graph : List (List ℕ)) → nodes ≡ length blocks
    → ((p : ℕ) → ends_of edges p ≡ get_or (template_graph blocks) p []) → HasEdges nodes edges graph → graph ≡ template_graph blocks
unfolding template_graph
graph-is blocks nodes edges graph count ends has =
    ext_get_or [] graph (map (templates_of blocks) blocks) (has.count ∙ count ∙ sym (length-map blocks (templates_of blocks)))
    (λ p low. has.ends p (subst (λ (n : ℕ). p < n) has.count low) ∙ ends p)

-- templates stand among the blocks
All-mapped : (f : Block → List ℕ) (n : ℕ) → ((block : Block) → All (λ q. q < n) (f block)) → (blocks : List Block) (p : ℕ)
    → All (λ q. q < n) (get_or (map f blocks) p [])
All-mapped f n each [] p = All-nil (λ q. q < n)
All-mapped f n each (block ∷ blocks) zero = each block
All-mapped f n each (block ∷ blocks) (suc p) = All-mapped f n each blocks p

pub used-within : (blocks : List Block) (p : ℕ) → All (λ q. q < length blocks) (get_or (template_graph blocks) p [])
unfolding template_graph
used-within blocks p = All-mapped (templates_of blocks) (length blocks) (templates-within blocks) blocks p

pub leads-within : (blocks : List Block) (p q : ℕ) → Leads (template_graph blocks) p q → q < length blocks
unfolding template_graph
leads-within blocks p q leads =
    All-contains (λ k. k < length blocks) (get_or (map (templates_of blocks) blocks) p []) q (All-mapped (templates_of blocks) (length blocks) (templates-within blocks) blocks p) leads

pub leads-from : (blocks : List Block) (p q : ℕ) → Leads (template_graph blocks) p q → p < length blocks
unfolding template_graph
leads-from blocks p q leads = ⊎_elim
    (λ (low : p < length blocks). low)
    (λ (past : length blocks ≤ p). absurd (let none = get_or_past (map (templates_of blocks) blocks) p [] (let long = length-map blocks (templates_of blocks) in omega (arith, long)) in
    let at = subst (λ (ends : List ℕ). Contains ends q) none leads in omega (arith, at.1)))
    (cases_lt p (length blocks))
