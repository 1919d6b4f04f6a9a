-- The entries of a list that begins with +, and whether a list has an entry: by its bytes, and by the texts that are
-- given.
use Rattle.std.proofs.Common.{◌≡◌, ℕ, suc, ◌+◌, ◌-◌, ◌≤◌, Bool, true, false, not, ◌||◌, cond, List, [], ◌∷◌, ◌++◌, length, length-take-le, map, filter, take, drop, refl, sym, ap, eqb, ◌∙◌, arith}
use Rattle.std.specs.Prelude.{reverse}
use Rattle.std.specs.List.{list_any, onto_first, position_or_len, prefix_len, slice_split, suffix_len}
use Rattle.std.proofs.lemmas.Bool.{false≢true, ne_eqb}
use Rattle.std.proofs.lemmas.List.{append-nil, length-reverse, reverse-append, take_rest}
use Rattle.object_reader.specs.claims.Blanks.{is_blank, trim_end, trimmed}
use Rattle.object_values.specs.claims.Values.{entries, is_comma}
use Rattle.object_inheritance.specs.claims.Inherited.{is_additive, joined_entries, name_of, own_entries}
use Rattle.object_inheritance.specs.Inherited.{has_any, is_of_entry}
use Rattle.object_inheritance.proofs.ColumnLemmas.{joined-beside}

-- ---- without the blanks at the ends

-- a byte that is no blank
abbrev is_mark : ℕ → Bool
is_mark b = not (is_blank b)

abbrev is_long : List ℕ → Bool
is_long bytes = not (eqb (length bytes) 0)

-- the blanks at the end of bytes that begin with none are fewer than these
few-blanks : (bytes : List ℕ) (first : ℕ) → is_blank first ≡ false → prefix_len is_blank (bytes ++ first ∷ []) ≤ length bytes
few-blanks [] first tight = rw tight (omega arith)
few-blanks (b ∷ bytes) first tight =
    elim (is_blank b) as (λ x. cond x (1 + prefix_len is_blank (bytes ++ first ∷ [])) 0 ≤ length (b ∷ bytes)) [
      | true ↦ let few = few-blanks bytes first tight in omega (arith, few)
      | false ↦ omega arith
    ]

tight-end : (first : ℕ) (others : List ℕ) → is_blank first ≡ false → is_long (trim_end (first ∷ others)) ≡ true
tight-end first others tight =
    let few = few-blanks (reverse others) first tight in
    let long = length-reverse others in
    let end : suffix_len is_blank (first ∷ others) ≡ prefix_len is_blank (reverse others ++ first ∷ []) =
    ap (λ (bytes : List ℕ). prefix_len is_blank bytes) (reverse-append (first ∷ []) others) in
    let left = length-take-le (length (first ∷ others) - suffix_len is_blank (first ∷ others)) (first ∷ others) (omega arith) in
    ap not (ne_eqb (length (trim_end (first ∷ others))) 0 (λ none. absurd (omega (arith, few, long, end, left, none))))

trimmed-any : (bytes : List ℕ) → is_long (trimmed bytes) ≡ list_any is_mark bytes
trimmed-any [] = refl
trimmed-any (b ∷ bytes) =
    elim (is_blank b) as (λ x. is_blank b ≡ x → is_long (trim_end (drop (cond (not (not x)) (1 + position_or_len is_mark bytes) 0) (b ∷ bytes))) ≡ (not x || list_any is_mark bytes)) [
      | true ↦ λ _.
          ap (λ (n : ℕ). is_long (trim_end (drop n (b ∷ bytes)))) (let next : 1 + position_or_len is_mark bytes ≡ suc (position_or_len is_mark bytes) = omega arith in next)
          ∙ trimmed-any bytes
      | false ↦ λ tight. tight-end b bytes tight
    ] refl

-- ---- part by part

-- there is one at least
some-there : (one : List ℕ) (found : List (List ℕ)) → has_any (one ∷ found) ≡ true
some-there one found = ap not (ne_eqb (length (one ∷ found)) 0 (λ none. absurd (omega (arith, none))))

one-any : (b : Bool) (one : List ℕ) (found : List (List ℕ)) → has_any (cond b (one ∷ found) found) ≡ (b || has_any found)
one-any true one found = some-there one found
one-any false one found = refl

parts-any : (parts : List (List ℕ)) → has_any (filter is_long (map trimmed parts)) ≡ list_any (list_any is_mark) parts
parts-any [] = refl
parts-any (part ∷ parts) =
    one-any (is_long (trimmed part)) (trimmed part) (filter is_long (map trimmed parts)) ∙ ap (λ here. here || has_any (filter is_long (map trimmed parts))) (trimmed-any part)
    ∙ ap (λ rest. list_any is_mark part || rest) (parts-any parts)

onto-any : (b : ℕ) (parts : List (List ℕ)) → list_any (list_any is_mark) (onto_first b parts) ≡ (is_mark b || list_any (list_any is_mark) parts)
onto-any b [] = elim (is_mark b) as (λ x. ((x || false) || false) ≡ (x || false)) [ true ↦ refl | false ↦ refl ]
onto-any b (part ∷ parts) =
    elim (is_mark b) as (λ x. ((x || list_any is_mark part) || list_any (list_any is_mark) parts) ≡ (x || (list_any is_mark part || list_any (list_any is_mark) parts))) [ true ↦ refl | false ↦ refl ]

split-any : (value : List ℕ) → list_any (list_any is_mark) (slice_split is_comma value) ≡ list_any is_of_entry value
split-any [] = refl
split-any (b ∷ value) =
    elim (is_comma b) as (λ x. list_any (list_any is_mark) (cond x ([] ∷ slice_split is_comma value) (onto_first b (slice_split is_comma value))) ≡ (not (x || is_blank b) || list_any is_of_entry value)) [
      | true ↦ split-any value
      | false ↦ onto-any b (slice_split is_comma value) ∙ ap (λ rest. is_mark b || rest) (split-any value)
    ]

-- a list has an entry where some byte is of one
pub any-entry : (value : List ℕ) → list_any is_of_entry value ≡ has_any (entries value)
any-entry value = sym (parts-any (slice_split is_comma value) ∙ split-any value)

-- ---- text by text

-- the entries that an additive list has itself
pub own-additive : (text : List ℕ) → is_additive text ≡ true → entries (take (length text - 1) (drop 1 text)) ≡ own_entries text
own-additive text is = ap entries (take_rest text 1) ∙ sym (ap (λ (b : Bool). cond b (entries (drop 1 text)) (entries (name_of text))) is)

none-there : (found : List (List ℕ)) → has_any found ≡ false → found ≡ []
none-there [] none = refl
none-there (one ∷ found) none = absurd (false≢true (sym none ∙ some-there one found))

any-after : (before found : List (List ℕ)) → has_any found ≡ true → has_any (before ++ found) ≡ true
any-after [] found some = some
any-after (one ∷ before) found some = some-there one (before ++ found)

-- the nearest text has an entry itself
pub any-here : (text : List ℕ) (line : List (List ℕ)) → has_any (own_entries text) ≡ true → has_any (joined_entries (text ∷ line)) ≡ true
any-here text line some = any-after (cond (is_additive text) (joined_entries line) []) (own_entries text) some

-- it has none, and what is beside it is left
pub any-beside : (text : List ℕ) (line beside : List (List ℕ)) → beside ≡ cond (is_additive text) line [] → has_any (own_entries text) ≡ false
    → has_any (joined_entries beside) ≡ has_any (joined_entries (text ∷ line))
any-beside text line beside is none =
    ap (λ (rest : List (List ℕ)). has_any (joined_entries rest)) is
    ∙ ap has_any (joined-beside (is_additive text) line ∙ sym (append-nil (cond (is_additive text) (joined_entries line) []))
    ∙ ap (λ (own : List (List ℕ)). cond (is_additive text) (joined_entries line) [] ++ own) (sym (none-there (own_entries text) none)))
