-- What each block has for a directive (chapter "Object Inheritance").
use Rattle.std.specs.Prelude.{ℕ, zero, suc, Bool, false, not, ◌==◌, List, [], ◌∷◌, ◌++◌, length, map, drop, Option, None, Some, codes, slice_get, slice_index_or, if◌then◌else◌}
use Rattle.std.specs.List.{list_any}
use Rattle.std.specs.Option.{option_and_then, option_map, option_to_list}
use Rattle.std.specs.Str.{bytes_eq}
use Rattle.object_reader.specs.declared.block.Block.{Block}
use Rattle.object_inheritance.specs.claims.Templates.{template_graph}
use Rattle.object_values.specs.claims.Values.{entries, value_in}

-- what the block at the place gives for the directive itself
abbrev pub own : List Block → List ℕ → ℕ → Option (List ℕ)
own blocks directive place =
    option_and_then (λ block. value_in block.directives directive) (slice_get blocks place)

-- `name`, `use` and `register` are not inherited.
abbrev pub stays : List ℕ → Bool
stays directive = list_any (bytes_eq directive) (codes "name" ∷ codes "use" ∷ codes "register" ∷ [])

-- The places of the templates from which the block may take the directive, in the order of its `use`.
abbrev pub sources : List Block → List ℕ → ℕ → List ℕ
sources blocks directive place =
    if stays directive then [] else slice_index_or (template_graph blocks) place []

-- the first of the lists that isn't empty
abbrev pub first_given : List (List (List ℕ)) → List (List ℕ)
first_given [] = []
first_given ([] ∷ others) = first_given others
first_given ((value ∷ values) ∷ others) = value ∷ values

-- What is given for the directive along a line of so many blocks at most, that of the block at the place
-- first: by the block itself, and then by the first of its templates along whose line anything is given.
unfoldable pub given_along : ℕ → List Block → List ℕ → ℕ → List (List ℕ)
given_along zero blocks directive place = []
given_along (suc further) blocks directive place = option_to_list (own blocks directive place)
    ++ first_given (map (given_along further blocks directive) (sources blocks directive place))

-- The same with no end but that of the blocks: without loops no line has more of them.
unfoldable pub given : List Block → List ℕ → ℕ → List (List ℕ)
given blocks directive place = given_along (length blocks) blocks directive place

-- The value that a block has for a directive: what it gives itself, or else what the first of its
-- templates has that has any.
abbrev pub value : List Block → List ℕ → ℕ → Option (List ℕ)
value blocks directive place = slice_get (given blocks directive place) 0

-- ---- lists and names that may be empty

-- whether a list begins with +: it is added to what is inherited
abbrev pub is_additive : List ℕ → Bool
is_additive [] = false
is_additive (b ∷ bs) = b == 43

-- a name; `null` is given and empty
abbrev pub name_of : List ℕ → List ℕ
name_of text = if bytes_eq text (codes "null") then [] else text

-- the entries that a list has itself
abbrev pub own_entries : List ℕ → List (List ℕ)
own_entries text = if is_additive text then entries (drop 1 text) else entries (name_of text)

-- The entries of a list of which these texts are given, the block's own first: an additive list is what
-- is inherited, followed by its own entries.
abbrev pub joined_entries : List (List ℕ) → List (List ℕ)
joined_entries [] = []
joined_entries (text ∷ texts) =
    (if is_additive text then joined_entries texts else []) ++ own_entries text

-- none where nothing is given, which isn't the same as an empty list
abbrev pub list_given : List (List ℕ) → Option (List (List ℕ))
list_given [] = None
list_given (text ∷ texts) = Some (joined_entries (text ∷ texts))

-- The entries that a block has for a directive that is a list of names.
abbrev pub list : List Block → List ℕ → ℕ → Option (List (List ℕ))
list blocks directive place = list_given (given blocks directive place)

-- The name that a block has for a directive that is a name which may be empty, as that of a period.
abbrev pub name : List Block → List ℕ → ℕ → Option (List ℕ)
name blocks directive place = option_map name_of (value blocks directive place)
