-- Names, block by block and directive by directive.
use Rattle.std.proofs.Common.{◌≡◌, ℕ, ◌+◌, ◌<◌, Bool, true, false, cond, Option, List, [], ◌∷◌, ◌++◌, refl, append_assoc, append-nil, length, map, take, get_or, Bor, sym, ap, ap₂, ◌∙◌}
use Rattle.std.specs.Prelude.{◌==◌, codes}
use Rattle.std.specs.List.{flat_map}
use Rattle.std.proofs.lemmas.List.{map-append, take_more}
use Rattle.std.proofs.lemmas.Grind.{flat_map-append}
use Rattle.object_check.specs.Rows.{Asked, name_rows}
use Rattle.object_check.specs.declared.rows.Must.{Must}
use Rattle.object_check.specs.declared.rows.Must.TheVariants.{Be, Name, HaveWholeLines, HaveDayLines}
use Rattle.object_check.specs.declared.rows.Must.TheVariants as musts
use Rattle.object_groups.specs.claims.Objects.{names_in, objects_in}
use Rattle.object_groups.specs.Objects.{ObjectsOf}
use Rattle.object_inheritance.specs.Columns.{Column}
use Rattle.object_inheritance.specs.claims.Templates.{kind_number}
use Rattle.object_names.specs.claims.Named.{block_kind}
use Rattle.object_names.specs.declared.named.NamedKind.{NamedKind}
use Rattle.object_reader.specs.declared.block.Block.{Block}
use Rattle.object_reader.specs.declared.block.BlockKind.{BlockKind}
use Rattle.object_values.specs.claims.Values.{value_in}
use Rattle.object_values.specs.Values.{texts}
use Rattle.object_warnings.specs.Unused.{is_unused, is_unused_at, named_by, named_in, names_by, names_given, names_kind}

-- what one more element gives
pub flat-more : {X A : Type 0} (f : X → List A) (xs : List X) (i : ℕ) (d : X) → i < length xs → flat_map f (take (i + 1) xs) ≡ flat_map f (take i xs) ++ f (get_or xs i d)
flat-more {X} {A} f xs i d within =
    ap (flat_map f) (take_more xs i d within)
    ∙ flat_map-append f (take i xs) (get_or xs i d ∷ [])
    ∙ ap (λ (more : List A). flat_map f (take i xs) ++ more) (append-nil (f (get_or xs i d)))

-- the same of what is made of each element
pub flat-map-more : {W X A : Type 0} (f : X → List A) (g : W → X) (xs : List W) (i : ℕ) (d : W) → i < length xs
    → flat_map f (map g (take (i + 1) xs)) ≡ flat_map f (map g (take i xs)) ++ f (g (get_or xs i d))
flat-map-more {W} {X} {A} f g xs i d within =
    ap (λ (ys : List W). flat_map f (map g ys)) (take_more xs i d within)
    ∙ ap (flat_map f) (map-append g (take i xs) (get_or xs i d ∷ []))
    ∙ flat_map-append f (map g (take i xs)) (g (get_or xs i d) ∷ [])
    ∙ ap (λ (more : List A). flat_map f (map g (take i xs)) ++ more) (append-nil (f (g (get_or xs i d))))

-- names that are added after those of the rows so far
pub rows-more : {W X : Type 0} (f : X → List (List ℕ)) (g : W → X) (rows : List W) (i : ℕ) (d : W) (first old new more : List (Bor (List ℕ)))
    → i < length rows → texts old ≡ texts first ++ flat_map f (map g (take i rows)) → new ≡ old ++ more → texts more ≡ f (g (get_or rows i d))
    → texts new ≡ texts first ++ flat_map f (map g (take (i + 1) rows))
rows-more f g rows i d first old new more within before adds are =
    ap texts adds ∙ map-append (λ text. text.now) old more
    ∙ ap (λ (xs : List (List ℕ)). xs ++ texts more) before
    ∙ append_assoc (texts first) (flat_map f (map g (take i rows))) (texts more)
    ∙ ap (λ (xs : List (List ℕ)). texts first ++ (flat_map f (map g (take i rows)) ++ xs)) are
    ∙ ap (λ (xs : List (List ℕ)). texts first ++ xs) (sym (flat-map-more f g rows i d within))

-- names of one block more
pub block-more : {X : Type 0} (f : X → List (List ℕ)) (blocks : List X) (i : ℕ) (block : X) (old new : List (List ℕ))
    → i < length blocks → block ≡ get_or blocks i block → old ≡ flat_map f (take i blocks) → new ≡ old ++ f block → new ≡ flat_map f (take (i + 1) blocks)
block-more {X} f blocks i block old new within is before adds =
    adds ∙ ap (λ (xs : List (List ℕ)). xs ++ f block) before ∙ ap (λ (x : X). flat_map f (take i blocks) ++ f x) is ∙ sym (flat-more f blocks i block within)

named-is : (kind : NamedKind) (block : Block) (rows : List Asked) → rows ≡ name_rows → flat_map (named_by kind block) rows ≡ named_in kind block
unfolding named_in
named-is kind block rows are = ap (λ (all : List Asked). flat_map (named_by kind block) all) are

-- what one block more names
pub named-more : (kind : NamedKind) (blocks : List Block) (i : ℕ) (block : Block) (old new more : List (List ℕ)) → i < length blocks
    → block ≡ get_or blocks i block → old ≡ flat_map (named_in kind) (take i blocks) → new ≡ old ++ more → more ≡ named_in kind block
    → new ≡ flat_map (named_in kind) (take (i + 1) blocks)
named-more kind blocks i block old new more within is before adds are =
    block-more (named_in kind) blocks i block old new within is before (adds ∙ ap (λ (xs : List (List ℕ)). old ++ xs) are)

-- a row of other names gives none
none-must : (kind : NamedKind) (must : Must) (given : Option (List ℕ)) → names_kind kind must ≡ false → names_by kind must given ≡ []
none-must kind (Name named reading) given other = ap (λ (b : Bool). cond b (names_given reading given) []) other
none-must kind (Be check) given other = refl
none-must kind (musts.List side) given other = refl
none-must kind HaveWholeLines given other = refl
none-must kind HaveDayLines given other = refl

none-named : (kind : NamedKind) (block : Block) (row : Asked) → names_kind kind row.must ≡ false → named_by kind block row ≡ []
none-named kind block row other = either (kind_number block.kind == kind_number row.kind)
  where
    either : (b : Bool) → cond b (names_by kind row.must (value_in block.directives row.directive)) [] ≡ []
    either true = none-must kind row.must (value_in block.directives row.directive) other
    either false = refl

-- one row more, which is left out where it gives none
pub row-more : {W : Type 0} (kind : NamedKind) (block : Block) (said : W → Asked) (all : List W) (i : ℕ) (d : W) (old new : List Asked) (asked : Bool) → i < length all
    → flat_map (named_by kind block) old ≡ flat_map (named_by kind block) (map said (take i all)) → asked ≡ names_kind kind (said (get_or all i d)).must
    → new ≡ old ++ cond asked (said (get_or all i d) ∷ []) [] → flat_map (named_by kind block) new ≡ flat_map (named_by kind block) (map said (take (i + 1) all))
row-more {W} kind block said all i d old new asked within before is adds =
    ap f adds ∙ either asked is ∙ ap (λ (xs : List (List ℕ)). xs ++ named_by kind block row) before ∙ sym (flat-map-more (named_by kind block) said all i d within)
  where
    row : Asked
    row = said (get_or all i d)

    f : List Asked → List (List ℕ)
    f rows = flat_map (named_by kind block) rows

    either : (b : Bool) → b ≡ names_kind kind row.must → f (old ++ cond b (row ∷ []) []) ≡ f old ++ named_by kind block row
    either true told = flat_map-append (named_by kind block) old (row ∷ []) ∙ ap (λ (more : List (List ℕ)). f old ++ more) (append-nil (named_by kind block row))
    either false other = ap f (append-nil old) ∙ sym (append-nil (f old)) ∙ ap (λ (more : List (List ℕ)). f old ++ more) (sym (none-named kind block row (sym other)))

-- all rows are those of the names
pub all-rows : (kind : NamedKind) (block : Block) (slice rows all : List Asked) → slice ≡ rows → flat_map (named_by kind block) rows ≡ flat_map (named_by kind block) all → all ≡ name_rows
    → flat_map (named_by kind block) slice ≡ named_in kind block
all-rows kind block slice rows all are is all_are = ap (λ (list : List Asked). flat_map (named_by kind block) list) are ∙ is ∙ named-is kind block all all_are

-- what one block more uses
pub used-more : (f : Block → List (List ℕ)) (blocks : List Block) (i : ℕ) (block : Block) (old new more : List (Bor (List ℕ))) → i < length blocks → block ≡ get_or blocks i block
    → texts old ≡ flat_map f (take i blocks) → new ≡ old ++ more → texts more ≡ f block → texts new ≡ flat_map f (take (i + 1) blocks)
used-more f blocks i block old new more within is before adds are =
    block-more f blocks i block (texts old) (texts new) within is before
    (ap texts adds ∙ map-append (λ text. text.now) old more ∙ ap (λ (xs : List (List ℕ)). texts old ++ xs) are)

-- an object by its number
pub unused-at : (blocks : List Block) (kind : NamedKind) (values : Column) (objects : ObjectsOf) (of : BlockKind) (places : List ℕ) (names : List (List ℕ)) (number place : ℕ) (name : List ℕ) (unused : Bool)
    → values ≡ record { blocks = blocks; directive = codes "contactgroups" } → objects ≡ record { blocks = blocks; kind = of } → of ≡ block_kind kind
    → places ≡ objects_in objects.blocks objects.kind → names ≡ names_in objects.blocks objects.kind → place ≡ get_or places number 0 → name ≡ get_or names number []
    → unused ≡ is_unused values.blocks kind place name → unused ≡ is_unused_at blocks kind number
unused-at blocks kind values objects of places names number place name unused values_are objects_are of_is places_are names_are place_is name_is is =
    is ∙ ap (λ (v : Column). is_unused v.blocks kind place name) values_are
    ∙ ap₂ (λ (p : ℕ) (n : List ℕ). is_unused blocks kind p n)
    (place_is ∙ ap (λ (xs : List ℕ). get_or xs number 0) (places_are ∙ ap (λ (o : ObjectsOf). objects_in o.blocks o.kind) objects_are ∙ ap (objects_in blocks) of_is))
    (name_is ∙ ap (λ (xs : List (List ℕ)). get_or xs number []) (names_are ∙ ap (λ (o : ObjectsOf). names_in o.blocks o.kind) objects_are ∙ ap (names_in blocks) of_is))
