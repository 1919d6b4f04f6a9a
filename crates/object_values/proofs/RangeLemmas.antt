-- The ranges of a day line, part by part.
use Rattle.std.proofs.Common.{◌≡◌, ℕ, ◌+◌, ◌-◌, ◌<◌, List, [], ◌∷◌, ◌++◌, append_assoc, length, take, drop, Option, Some, None, refl, sym, ap, ◌∙◌, arith}
use Rattle.std.specs.List.{after_first, before_first, filter_map, position_or_len, slice_split}
use Rattle.std.specs.Option.{option_to_list}
use Rattle.std.proofs.lemmas.List.{append-nil, take_rest}
use Rattle.std.proofs.lemmas.List.Splits.{slice_split_first}
use Rattle.std.proofs.Math.Seq.{take-length}
use Rattle.due_model.specs.declared.config.Range.{Range}
use Rattle.object_values.specs.claims.Ranges.{range_in, ranges_among}
use Rattle.object_values.specs.claims.Values.{is_comma}
use Rattle.object_values.proofs.EntryLemmas.{first_long, position_or_len-le, split-whole}

one_part : (part : List ℕ) (others : List (List ℕ)) → filter_map range_in (part ∷ others) ≡ option_to_list (range_in part) ++ filter_map range_in others
one_part part others = by_range (range_in part) refl
  where
    by_range : (range : Option Range) → range_in part ≡ range → filter_map range_in (part ∷ others) ≡ option_to_list range ++ filter_map range_in others
    by_range None is = rw is refl
    by_range (Some range) is = rw is refl

-- the last part
pub ranges-end : (old new every : List Range) (rest part : List ℕ) → old ++ ranges_among rest ≡ every → part ≡ before_first is_comma rest
    → new ≡ old ++ option_to_list (range_in part) → length part ≡ length rest → new ≡ every
ranges-end old new every rest part before is more whole =
    let at_end : position_or_len is_comma rest ≡ length rest = sym (first_long rest) ∙ ap length (sym is) ∙ whole in
    let all : part ≡ rest = is ∙ ap (λ n. take n rest) at_end ∙ take-length rest in
    let split : ranges_among rest ≡ option_to_list (range_in part) =
    ap (filter_map range_in) (split-whole rest at_end ∙ ap (λ r. r ∷ []) (sym all)) ∙ one_part part [] ∙ append-nil _ in
    more ∙ ap (λ es. old ++ es) (sym split) ∙ before

-- a part that others follow
pub ranges-more : (old new every : List Range) (rest part : List ℕ) → old ++ ranges_among rest ≡ every → part ≡ before_first is_comma rest
    → new ≡ old ++ option_to_list (range_in part) → (length part ≡ length rest → ⊥)
    → new ++ ranges_among (take (length rest - (length part + 1)) (drop (length part + 1) rest)) ≡ every
ranges-more old new every rest part before is more inside =
    let long : length part ≡ position_or_len is_comma rest = ap length is ∙ first_long rest in
    let within : position_or_len is_comma rest < length rest = let few = position_or_len-le rest in omega (arith, few) in
    let after : take (length rest - (length part + 1)) (drop (length part + 1) rest) ≡ after_first is_comma rest =
    take_rest rest (length part + 1) ∙ ap (λ n. drop (n + 1) rest) long in
    let split : ranges_among rest ≡ option_to_list (range_in part) ++ ranges_among (after_first is_comma rest) =
    ap (filter_map range_in) (slice_split_first is_comma rest 0 within ∙ ap (λ p. p ∷ slice_split is_comma (after_first is_comma rest)) (sym is)) ∙ one_part part (slice_split is_comma (after_first is_comma rest)) in
    ap (λ text. new ++ ranges_among text) after
    ∙ ap (λ ns. ns ++ ranges_among (after_first is_comma rest)) more
    ∙ append_assoc old _ _ ∙ ap (λ es. old ++ es) (sym split) ∙ before
