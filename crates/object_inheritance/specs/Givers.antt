-- How it is kept what each block gives for a directive itself.
use Rattle.std.specs.Prelude.{◌≡◌, ℕ, ◌==◌, List, [], find, reverse, Option, slice_get}
use Rattle.std.proofs.Common.{Bor}
use Rattle.std.specs.Global.{Vec}
use Rattle.std.specs.Map.{lookup}
use Rattle.std.specs.Option.{option_and_then, option_map, option_map_or}
use Rattle.std.specs.Str.{bytes_eq}
use Rattle.object_reader.specs.declared.block.Block.{Block}
use Rattle.object_inheritance.specs.declared.givers.OwnText.{OwnText}
use Rattle.object_inheritance.specs.claims.Inherited.{own}

-- the text of the directive of that number in the block at the place; an empty one where there is none
abbrev pub text_at : List Block → (place number : ℕ) → List ℕ
text_at blocks place number = option_map_or (λ directive. directive.value)
    (option_and_then (λ block. slice_get block.directives number) (slice_get blocks place)) []

-- the last of the texts that the block at the place gives
abbrev pub last_at : List Block → List OwnText → ℕ → Option (List ℕ)
last_at blocks given place = option_map (λ one. text_at blocks one.place one.number)
    (find (λ one. one.place == place) (reverse given))

-- what the block at the place gives for the directive of that name
abbrev pub own_in : List Block → List (Bor (List ℕ) × Vec OwnText) → List ℕ → ℕ → Option (List ℕ)
own_in blocks entries name place =
    option_and_then (λ given. last_at blocks given.items place) (lookup (λ key. bytes_eq name key.now) entries)

-- the entries have what each block gives for each directive
pub record HasOwnTexts (blocks : List Block) (entries : List (Bor (List ℕ) × Vec OwnText)) : Type 0 where
  pub each : (name : List ℕ) (place : ℕ) → own_in blocks entries name place ≡ own blocks name place
