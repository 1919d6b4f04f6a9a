-- What is read so far, line by line, and range by range.
use Rattle.std.proofs.Common.{◌≡◌, ℕ, ◌+◌, ◌-◌, Bool, List, [], ◌∷◌, ◌++◌, append_assoc, eqb, length, map, take, drop, sym, ap, ◌∙◌}
use Rattle.std.specs.List.{before_first}
use Rattle.object_reader.specs.declared.block.Directive.{Directive}
use Rattle.std.specs.Prelude.{codes}
use Rattle.nagios_text.specs.claims.Blocks.{looked_at, made, volatile_said}
use Rattle.nagios_text.specs.claims.Lone.{goes_on, line_said, lines_in, lines_said, with_between}
use Rattle.nagios_text.specs.claims.Values.{day_value, range_said}
use Rattle.nagios_text.proofs.PartLemmas.{between-more, last-part, more-parts, parts, some-part}

-- one byte after another part
three : (old part : List ℕ) (byte : ℕ) (rest : List ℕ) → ((old ++ part) ++ byte ∷ []) ++ rest ≡ old ++ (part ++ byte ∷ rest)
three old part byte rest = append_assoc (old ++ part) (byte ∷ []) rest ∙ append_assoc old part (byte ∷ rest)

-- ---- lines

pub lines-end : (old new every : List ℕ) (is_rest : Bool) (rest line : List ℕ) → old ++ with_between 10 (lines_said is_rest (lines_in rest)) ≡ every
    → line ≡ before_first (λ b. eqb b 10) rest → new ≡ old ++ line_said is_rest line → length line ≡ length rest → new ≡ every
lines-end old new every is_rest rest line before is more same =
    more ∙ ap (λ ls. old ++ with_between 10 (lines_said is_rest ls)) (sym (last-part 10 rest line is same)) ∙ before

lines-after : (is_rest : Bool) (line : List ℕ) (rest : List ℕ) → with_between 10 (lines_said is_rest (line ∷ lines_in rest)) ≡ line_said is_rest line ++ 10 ∷ with_between 10 (lines_said (goes_on line) (lines_in rest))
lines-after is_rest line rest =
    let some = some-part 10 rest in
    between-more 10 (line_said is_rest line) (line_said (goes_on line) some.0) (lines_said (goes_on line) (lines_in rest)) (lines_said (goes_on some.0) some.1) (ap (lines_said (goes_on line)) some.2)

pub lines-more : (old new more every : List ℕ) (is_rest is_next : Bool) (rest line : List ℕ) → old ++ with_between 10 (lines_said is_rest (lines_in rest)) ≡ every
    → line ≡ before_first (λ b. eqb b 10) rest → new ≡ old ++ line_said is_rest line → more ≡ new ++ 10 ∷ [] → (length line ≡ length rest → ⊥) → is_next ≡ goes_on line
    → more ++ with_between 10 (lines_said is_next (lines_in (take (length rest - (length line + 1)) (drop (length line + 1) rest)))) ≡ every
lines-more old new more every is_rest is_next rest line before is added pushed inside next =
    let left : List ℕ = take (length rest - (length line + 1)) (drop (length line + 1) rest) in
    let others : List ℕ = with_between 10 (lines_said (goes_on line) (lines_in left)) in
    ap (λ n. more ++ with_between 10 (lines_said n (lines_in left))) next
    ∙ ap (λ xs. xs ++ others) (pushed ∙ ap (λ xs. xs ++ 10 ∷ []) added)
    ∙ three old (line_said is_rest line) 10 others
    ∙ ap (λ xs. old ++ xs) (sym (lines-after is_rest line left))
    ∙ ap (λ ls. old ++ with_between 10 (lines_said is_rest ls)) (sym (more-parts 10 rest line is inside))
    ∙ before

-- ---- ranges

pub ranges-end : (old new every rest range : List ℕ) → old ++ day_value rest ≡ every → range ≡ before_first (λ b. eqb b 44) rest
    → new ≡ old ++ range_said range → length range ≡ length rest → new ≡ every
ranges-end old new every rest range before is more same =
    more ∙ ap (λ rs. old ++ with_between 44 (map range_said rs)) (sym (last-part 44 rest range is same)) ∙ before

ranges-after : (range rest : List ℕ) → with_between 44 (map range_said (range ∷ parts 44 rest)) ≡ range_said range ++ 44 ∷ day_value rest
ranges-after range rest =
    let some = some-part 44 rest in
    between-more 44 (range_said range) (range_said some.0) (map range_said (parts 44 rest)) (map range_said some.1) (ap (λ ps. map range_said ps) some.2)

pub ranges-more : (old new more every rest range : List ℕ) → old ++ day_value rest ≡ every → range ≡ before_first (λ b. eqb b 44) rest
    → new ≡ old ++ range_said range → more ≡ new ++ 44 ∷ [] → (length range ≡ length rest → ⊥)
    → more ++ day_value (take (length rest - (length range + 1)) (drop (length range + 1) rest)) ≡ every
ranges-more old new more every rest range before is added pushed inside =
    let left : List ℕ = take (length rest - (length range + 1)) (drop (length range + 1) rest) in
    ap (λ xs. xs ++ day_value left) (pushed ∙ ap (λ xs. xs ++ 44 ∷ []) added)
    ∙ three old (range_said range) 44 (day_value left)
    ∙ ap (λ xs. old ++ xs) (sym (ranges-after range left))
    ∙ ap (λ rs. old ++ with_between 44 (map range_said rs)) (sym (more-parts 44 rest range is inside))
    ∙ before

-- ---- directives

pub two-pushed : (old mid new : List Directive) (value seen one two : List ℕ) → one ≡ codes "is_volatile" → two ≡ codes "is volatile" → seen ≡ looked_at value
    → mid ≡ old ++ made one seen ∷ [] → new ≡ mid ++ made two value ∷ [] → new ≡ old ++ volatile_said value
two-pushed old mid new value seen one two one_is two_is seen_is first last =
    last ∙ ap (λ ds. ds ++ made two value ∷ []) first ∙ append_assoc old (made one seen ∷ []) (made two value ∷ [])
    ∙ ap (λ n. old ++ made n seen ∷ made two value ∷ []) one_is
    ∙ ap (λ v. old ++ made (codes "is_volatile") v ∷ made two value ∷ []) seen_is
    ∙ ap (λ n. old ++ made (codes "is_volatile") (looked_at value) ∷ made n value ∷ []) two_is
