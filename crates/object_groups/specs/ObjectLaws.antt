-- Laws of names, lists and numbers of objects.
use Rattle.std.proofs.Common.{ap, Bool, false, inl, inr, length, List, Option, Some, sym, ℕ, ◌<◌, ◌∙◌, ◌≡◌}
use Rattle.std.proofs.lemmas.List.{length-map}
use Rattle.std.specs.Prelude.{Contains, slice_get}
use Rattle.std.specs.Option.{option_map_or}
use Rattle.std.specs.Str.{bytes_eq}
use Rattle.std.proofs.lemmas.List.Elements.{All-contains}
use Rattle.lemmas.proofs.Searches.{All-found, position-within}
use Rattle.object_reader.specs.declared.block.Block.{Block}
use Rattle.object_reader.specs.declared.block.BlockKind.{BlockKind}
use Rattle.object_groups.specs.claims.Objects.{is_object, is_object_at, list_at, lists_in, name_at, names_in, objects_in}
use Rattle.object_groups.specs.claims.Names.{Lists, number_of, numbers_of}

pub names-long : (blocks : List Block) (kind : BlockKind) → length (names_in blocks kind) ≡ length (objects_in blocks kind)
unfolding names_in
names-long blocks kind = length-map (objects_in blocks kind) (name_at blocks kind)

pub lists-long : (blocks : List Block) (kind : BlockKind) (directive : List ℕ) → length (lists_in blocks kind directive) ≡ length (names_in blocks kind)
unfolding lists_in
lists-long blocks kind directive = length-map (objects_in blocks kind) (list_at blocks directive) ∙ sym (names-long blocks kind)

pub object-at : (blocks : List Block) (kind : BlockKind) (place : ℕ) (x : Block) (b : Bool) → slice_get blocks place ≡ Some x → b ≡ is_object kind x → is_object_at blocks kind place ≡ b
object-at blocks kind place x b here is = ap (λ (found : Option Block). option_map_or (is_object kind) found false) here ∙ sym is

pub numbers-within : (names entries : List (List ℕ)) (k : ℕ) → Contains (numbers_of names entries) k → k < length names
numbers-within names entries k at =
    All-contains (λ number. number < length names) (numbers_of names entries) k
    (All-found (number_of names) (λ number. number < length names) (λ name. position-within (bytes_eq name) names) entries) at

pub listed-within : (names entries : List (List ℕ)) (k : ℕ) → Lists names entries k → k < length names
listed-within names entries k (inl every) = every.1
listed-within names entries k (inr named) = numbers-within names entries k named
