-- What a block gives itself comes first.
use Rattle.std.proofs.Common.{◌≡◌, ℕ, zero, suc, Bool, true, false, cond, List, [], ◌∷◌, ◌++◌, length, map, get_or, Option, Some, None, refl, sym, ap, ◌∙◌}
use Rattle.std.specs.Prelude.{codes, filter_map, is_some, slice_get}
use Rattle.std.specs.Option.{option_map, option_to_list}
use Rattle.std.proofs.lemmas.Bool.{false≢true}
use Rattle.std.proofs.lemmas.List.{append-nil}
use Rattle.object_reader.specs.declared.block.Block.{Block}
use Rattle.object_inheritance.specs.claims.Inherited.{first_given, given, given_along, is_additive, joined_entries, list, list_given, own, own_entries, sources, stays, value}
use Rattle.object_inheritance.specs.claims.Templates.{template_graph, template_place, templates_of}
use Rattle.object_inheritance.specs.claims.Kinds.{means_nothing}
use Rattle.object_values.specs.claims.Values.{entries_of, value_in}

-- what is given, by what the block gives, where there is a block at all
given-front : (all : List Block) (blocks : List Block) (directive : List ℕ) (place : ℕ) (text : List ℕ) → all ≡ blocks → own all directive place ≡ Some text
    → (others : List (List ℕ)) × (given_along (length blocks) all directive place ≡ text ∷ others)
unfolding given_along
given-front all [] directive place text same gives = absurd (false≢true (ap is_some (ap (λ (bs : List Block). own bs directive place) (sym same) ∙ gives)))
given-front all (block ∷ blocks) directive place text same gives = (
  first_given (map (given_along (length blocks) all directive) (sources all directive place)),
  ap (λ (found : Option (List ℕ)). option_to_list found ++ first_given (map (given_along (length blocks) all directive) (sources all directive place))) gives,
)

-- what a block gives itself is the first that is given
pub own-first : (blocks : List Block) (directive : List ℕ) (place : ℕ) (text : List ℕ) → own blocks directive place ≡ Some text
    → (others : List (List ℕ)) × (given blocks directive place ≡ text ∷ others)
unfolding given
own-first blocks directive place text gives = given-front blocks blocks directive place text refl gives

pub value-own : (blocks : List Block) (directive : List ℕ) (place : ℕ) (text : List ℕ) → own blocks directive place ≡ Some text → value blocks directive place ≡ Some text
value-own blocks directive place text gives = ap (λ line. slice_get line 0) (own-first blocks directive place text gives).1

pub list-own : (blocks : List Block) (directive : List ℕ) (place : ℕ) (text : List ℕ) → own blocks directive place ≡ Some text → is_additive text ≡ false
    → list blocks directive place ≡ Some (own_entries text)
list-own blocks directive place text gives plain =
    let front = own-first blocks directive place text gives in
    ap list_given front.1 ∙ ap (λ (b : Bool). Some (cond b (joined_entries front.0) [] ++ own_entries text)) plain

-- ---- without `use`

none-used : (passed : Bool) (found : Option (List ℕ)) → found ≡ None → cond passed [] (entries_of found) ≡ []
none-used true found is = refl
none-used false found is = ap entries_of is

no-templates : (all : List Block) (blocks : List Block) (place : ℕ) → own blocks (codes "use") place ≡ None → get_or (map (templates_of all) blocks) place [] ≡ []
no-templates all [] place none = refl
no-templates all (block ∷ blocks) zero none =
    ap (filter_map (template_place all block.kind)) (none-used (means_nothing block.kind) (value_in block.directives (codes "use")) none)
no-templates all (block ∷ blocks) (suc place) none = no-templates all blocks place none

no-sources : (blocks : List Block) (directive : List ℕ) (place : ℕ) → own blocks (codes "use") place ≡ None → sources blocks directive place ≡ []
unfolding template_graph
no-sources blocks directive place none = by_name (stays directive) (no-templates blocks blocks place none)
  where
    by_name : (b : Bool) → get_or (map (templates_of blocks) blocks) place [] ≡ [] → cond b [] (get_or (map (templates_of blocks) blocks) place []) ≡ []
    by_name true is = refl
    by_name false is = is

alone : (found : Option (List ℕ)) → slice_get (option_to_list found ++ []) 0 ≡ found
alone None = refl
alone (Some text) = refl

along-own : (all : List Block) (blocks : List Block) (directive : List ℕ) (place : ℕ) → all ≡ blocks → sources all directive place ≡ []
    → slice_get (given_along (length blocks) all directive place) 0 ≡ own all directive place
unfolding given_along
along-own all [] directive place same none = sym (ap (λ (bs : List Block). own bs directive place) same)
along-own all (block ∷ blocks) directive place same none =
    ap (λ places. slice_get (option_to_list (own all directive place) ++ first_given (map (given_along (length blocks) all directive) places)) 0) none
    ∙ alone (own all directive place)

pub value-plain : (blocks : List Block) (directive : List ℕ) (place : ℕ) → own blocks (codes "use") place ≡ None → value blocks directive place ≡ own blocks directive place
unfolding given
value-plain blocks directive place none = along-own blocks blocks directive place refl (no-sources blocks directive place none)

-- what is given along its line is what the block gives itself
only-own : (all : List Block) (blocks : List Block) (directive : List ℕ) (place : ℕ) → all ≡ blocks → sources all directive place ≡ []
    → given_along (length blocks) all directive place ≡ option_to_list (own all directive place)
unfolding given_along
only-own all [] directive place same none = sym (ap (λ (bs : List Block). option_to_list (own bs directive place)) same)
only-own all (block ∷ blocks) directive place same none =
    ap (λ places. option_to_list (own all directive place) ++ first_given (map (given_along (length blocks) all directive) places)) none
    ∙ append-nil (option_to_list (own all directive place))

list-alone : (found : Option (List ℕ)) → list_given (option_to_list found) ≡ option_map own_entries found
list-alone None = refl
list-alone (Some text) = by_kind (is_additive text)
  where
    by_kind : (b : Bool) → Some (cond b [] [] ++ own_entries text) ≡ Some (own_entries text)
    by_kind true = refl
    by_kind false = refl

pub list-plain : (blocks : List Block) (directive : List ℕ) (place : ℕ) → own blocks (codes "use") place ≡ None
    → list blocks directive place ≡ option_map own_entries (own blocks directive place)
unfolding given
list-plain blocks directive place none =
    ap list_given (only-own blocks blocks directive place refl (no-sources blocks directive place none)) ∙ list-alone (own blocks directive place)
