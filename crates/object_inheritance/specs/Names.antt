-- A table of the templates by their types and names.
use Rattle.std.specs.Prelude.{◌≡◌, ℕ, ◌<◌, ◌^◌, Bool, false, ◌&&◌, ◌==◌, List, length}
use Rattle.std.proofs.Common.{Bor}
use Rattle.std.specs.List.{position}
use Rattle.std.specs.Map.{lookup}
use Rattle.std.specs.Option.{option_map_or}
use Rattle.std.specs.Str.{bytes_eq}
use Rattle.object_reader.specs.declared.block.Block.{Block}
use Rattle.object_inheritance.specs.claims.Templates.{kind_number, template_name}

-- the number of a type, and a name
abbrev pub Key : Type 0
Key = ℕ × Bor (List ℕ)

abbrev pub key_eq : Key → Key → Bool
key_eq a b = a.0 == b.0 && bytes_eq a.1.now b.1.now

-- whether a block is a template of that type and name
abbrev pub has_key : Key → Block → Bool
has_key key block = kind_number block.kind == key.0
    && option_map_or (λ own. bytes_eq own key.1.now) (template_name block) false

-- the entries say where the first block with each key stands
abbrev pub HasFirsts : List Block → List (Key × ℕ) → Type 0
HasFirsts blocks entries = (key : Key) → lookup (key_eq key) entries ≡ position (has_key key) blocks

-- the same of few enough blocks
pub record IsTable (blocks : List Block) (entries : List (Key × ℕ)) : Type 0 where
  pub few : length blocks < 2 ^ 32
  pub firsts : HasFirsts blocks entries
