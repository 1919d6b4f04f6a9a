-- How statements are spelled, and how they are taken apart.
use Rattle.std.proofs.Common.{◌≡◌, ℕ, ◌<◌, Bool, true, false, not, ◌&&◌, ◌||◌, ◌==◌, if◌then◌else◌, ◌⊎◌, inl, inr, tests, length-append, List, [], ◌∷◌, ◌++◌, length, take, drop, codes, Result, Ok, Err, refl, sym, ap, subst, ◌∙◌, arith, one-add}
use Rattle.std.proofs.lemmas.Bool.{and_parts}
use Rattle.std.proofs.lemmas.List.{take-append-drop}
use Rattle.std.proofs.lemmas.List.Folds.{length-prefix_len}
use Rattle.std.proofs.lemmas.Slice.Eq.{bytes_eq-Decides}
use Rattle.std.proofs.Math.Seq.{drop-append_seam, take-append_seam}
use Rattle.std.specs.List.{position_or_len, before_first, list_all}
use Rattle.std.specs.Str.{bytes_eq}
use Rattle.object_reader.specs.declared.block.BlockKind.{BlockKind}
use Rattle.object_reader.specs.declared.block.BlockKind.TheVariants.{TimePeriod}
use Rattle.object_reader.specs.declared.block.Directive.{Directive}
use Rattle.object_reader.specs.declared.fault.LineFault.{LineFault}
use Rattle.object_reader.specs.declared.fault.LineFault.TheVariants.{NotADefine, NoValue}
use Rattle.object_reader.specs.claims.Blanks.{is_blank, trim_start, AreBlanks}
use Rattle.object_reader.specs.claims.Statements.{first_word, ends_type, types, kind_among, kind_of}
use Rattle.object_reader.specs.Statements.{after_word, opened}
use Rattle.object_reader.specs.DayLines.{day_front, day_line}
use Rattle.object_reader.specs.Blocks.{name_and_value, day_or_value, is_period, directive_of}
use Rattle.object_reader.specs.claims.Spelling.{IsDefine, IsNameAndValue, IsDay, IsSpelled}
use Rattle.object_reader.proofs.Trimming.{stops, before_fails, BeginsWith, rest_begins, blanks_from, blanks_dropped, not_mark, none_or_some}
use Rattle.object_reader.proofs.DayLines.{day_some, day_found, day_written}
use Rattle.object_reader.proofs.FirstWord.{after_first_word, apart, blanks_begin, front_and_rest, IsApart, word_first}

-- a directive is spelled so

directive_made : List ℕ → List ℕ → Result Directive LineFault
directive_made name value = if length value == 0 then Err NoValue else Ok (record { name = name; value = value })

some_value : (name : List ℕ) (first : ℕ) (others : List ℕ) → directive_made name (first ∷ others) ≡ Ok (record { name = name; value = first ∷ others })
unfolding directive_made
some_value name first others = let e : (length (first ∷ others) == 0) ≡ false = grind (arith, tests) in rw e refl

value_spelled : (s : List ℕ) (d : Directive) → IsNameAndValue s d → name_and_value s ≡ Ok d
unfolding name_and_value directive_made
value_spelled s d h =
    let spelled : s ≡ d.name ++ (h.between ++ h.first ∷ h.others) = h.parts ∙ ap (λ v. d.name ++ (h.between ++ v)) h.value in
    let taken = after_first_word d.name h.between h.first h.others h.word h.blank h.some_blank h.begins in
    let w : first_word s ≡ d.name = ap first_word spelled ∙ taken.0 in
    let v : after_word s ≡ h.first ∷ h.others = ap after_word spelled ∙ taken.1 in
    ap (λ n. directive_made n (after_word s)) w ∙ ap (directive_made d.name) v ∙ some_value d.name h.first h.others
    ∙ ap (λ (value : List ℕ). Ok (let made : Directive = record { name = d.name; value = value } in made)) (sym h.value)

value_cases : (s : List ℕ) (t : Bool) → (length (after_word s) == 0) ≡ t → ((d : Directive) × (name_and_value s ≡ Ok d) × IsNameAndValue s d) ⊎ (name_and_value s ≡ Err NoValue)
unfolding name_and_value
value_cases s true e = inr (rw e refl)
value_cases s false e =
    let some : 0 < length (after_word s) = grind (arith, tests) in
    let h = apart s some in
    inl (
      record { name = first_word s; value = after_word s },
      rw e refl,
      record {
        between = h.between;
        first = h.first;
        others = h.others;
        parts = h.parts;
        word = h.word;
        blank = h.blank;
        some_blank = h.some_blank;
        value = h.rest;
        begins = h.begins;
      },
    )

-- what is taken for a directive is spelled so
value_taken : (s : List ℕ) (d : Directive) → name_and_value s ≡ Ok d → IsNameAndValue s d
value_taken s d e = from (value_cases s (length (after_word s) == 0) refl) where
  from : ((x : Directive) × (name_and_value s ≡ Ok x) × IsNameAndValue s x) ⊎ (name_and_value s ≡ Err NoValue) → IsNameAndValue s d
  from (inl h) = let made = h.1 in let same : h.0 ≡ d = cc in subst (λ x. IsNameAndValue s x) same h.2
  from (inr h) = let no : ⊥ = cc in absurd no

-- and what isn't has no value
value_refused : (s : List ℕ) (f : LineFault) → name_and_value s ≡ Err f → (f ≡ NoValue) × ((d : Directive) → IsNameAndValue s d → ⊥)
value_refused s f e = (from (value_cases s (length (after_word s) == 0) refl), λ d h. let is = value_spelled s d h in cc) where
  from : ((x : Directive) × (name_and_value s ≡ Ok x) × IsNameAndValue s x) ⊎ (name_and_value s ≡ Err NoValue) → f ≡ NoValue
  from (inl h) = let made = h.1 in cc
  from (inr h) = cc

-- what is spelled as no directive has no value
no_value : (s : List ℕ) → ((d : Directive) → IsNameAndValue s d → ⊥) → name_and_value s ≡ Err NoValue
no_value s none = from (value_cases s (length (after_word s) == 0) refl) where
  from : ((x : Directive) × (name_and_value s ≡ Ok x) × IsNameAndValue s x) ⊎ (name_and_value s ≡ Err NoValue) → name_and_value s ≡ Err NoValue
  from (inl h) = absurd (none h.0 h.2)
  from (inr h) = h

-- a directive in a block of a kind

period_is : (kind : BlockKind) → is_period kind ≡ true → kind ≡ TimePeriod
period_is TimePeriod e = refl
period_is kind e = let never : ⊥ = cc in absurd never

abbrev DayOrNot : BlockKind → List ℕ → Type 0
DayOrNot kind s = (IsDay kind s (day_line s (day_front s)) × (directive_of kind s ≡ Ok (day_line s (day_front s))))
    ⊎ (((x : Directive) → IsDay kind s x → ⊥) × (directive_of kind s ≡ name_and_value s))

in_period : (kind : BlockKind) (s : List ℕ) → is_period kind ≡ true → directive_of kind s ≡ day_or_value s (day_front s)
unfolding directive_of
in_period kind s e = rw e refl

in_other : (kind : BlockKind) (s : List ℕ) → is_period kind ≡ false → directive_of kind s ≡ name_and_value s
unfolding directive_of
in_other kind s e = rw e refl

day_taken : (s front : List ℕ) → 0 < length front → day_or_value s front ≡ Ok (day_line s front)
day_taken s [] some = absurd (omega arith)
day_taken s (b ∷ bs) some = refl

day_or_not : (kind : BlockKind) (s : List ℕ) → DayOrNot kind s
day_or_not kind s = by_kind (is_period kind) refl where
  by_kind : (t : Bool) → is_period kind ≡ t → DayOrNot kind s
  by_kind false e = inr (λ x is. let period : is_period kind ≡ true = ap is_period is.0 in let never : ⊥ = cc in never, in_other kind s e)
  by_kind true e = by_front (none_or_some (day_front s)) where
    by_front : (day_front s ≡ []) ⊎ (0 < length (day_front s)) → DayOrNot kind s
    by_front (inl none) = inr (λ x is. let some = day_some s x is.1 in omega (arith, some, ap length none), in_period kind s e ∙ ap (day_or_value s) none)
    by_front (inr some) = inl ((period_is kind e, day_written s some), in_period kind s e ∙ day_taken s (day_front s) some)

pub directive_spelled : (kind : BlockKind) (s : List ℕ) (d : Directive) → IsSpelled kind s d → directive_of kind s ≡ Ok d
directive_spelled kind s d (inl (period, is)) =
    in_period kind s (ap is_period period) ∙ day_taken s (day_front s) (day_some s d is) ∙ ap Ok (day_found s d is)
directive_spelled kind s d (inr (none, value)) = by_day (day_or_not kind s) where
  by_day : DayOrNot kind s → directive_of kind s ≡ Ok d
  by_day (inl h) = absurd (none (day_line s (day_front s)) h.0)
  by_day (inr h) = h.1 ∙ value_spelled s d value

-- what is taken for a directive is spelled so
pub directive_taken : (kind : BlockKind) (s : List ℕ) (d : Directive) → directive_of kind s ≡ Ok d → IsSpelled kind s d
directive_taken kind s d e = by_day (day_or_not kind s) where
  by_day : DayOrNot kind s → IsSpelled kind s d
  by_day (inl h) = let made = h.1 in let same : day_line s (day_front s) ≡ d = cc in inl (subst (IsDay kind s) same h.0)
  by_day (inr h) = inr (h.0, value_taken s d (sym h.1 ∙ e))

-- and what isn't has no value
pub directive_refused : (kind : BlockKind) (s : List ℕ) (f : LineFault) → directive_of kind s ≡ Err f → (f ≡ NoValue) × ((d : Directive) → IsSpelled kind s d → ⊥)
directive_refused kind s f e = (from (day_or_not kind s), λ d h. let is = directive_spelled kind s d h in cc) where
  from : DayOrNot kind s → f ≡ NoValue
  from (inl h) = let made = h.1 in cc
  from (inr h) = (value_refused s f (sym h.1 ∙ e)).0

-- what is spelled as no directive has no value
pub no_directive : (kind : BlockKind) (s : List ℕ) → ((d : Directive) → IsSpelled kind s d → ⊥) → directive_of kind s ≡ Err NoValue
no_directive kind s none = by_day (day_or_not kind s) where
  by_day : DayOrNot kind s → directive_of kind s ≡ Err NoValue
  by_day (inl h) = absurd (none (day_line s (day_front s)) (inl h.0))
  by_day (inr h) = h.1 ∙ no_value s (λ d v. none d (inr (h.0, v)))

-- the opening of a block is spelled so

opened_made : List ℕ → List ℕ → List ℕ → Result BlockKind LineFault
opened_made word name tail =
    if bytes_eq word (codes "define") && not (length name == 0) && bytes_eq (trim_start tail) (codes "{") then kind_of name else Err NotADefine

-- what follows a type begins with a byte that ends it
record Ends (tail : List ℕ) : Type 0 where
  first : ℕ
  others : List ℕ
  is : tail ≡ first ∷ others
  passes : ends_type first ≡ true

type_ends : (after : List ℕ) → AreBlanks after → Ends (after ++ codes "{")
type_ends [] h = record { first = 123; others = []; is = refl; passes = refl }
type_ends (y ∷ ys) h = record { first = y; others = ys ++ codes "{"; is = refl; passes = (let blank : is_blank y ≡ true = (and_parts (is_blank y) (list_all is_blank ys) h).0 in rw blank refl) }

-- a byte of a type is no blank
no_or : (a b : Bool) → not (a || b) ≡ true → a ≡ false
no_or true b h = sym h
no_or false b h = refl

type_word : (name : List ℕ) → 0 < length name → list_all (λ b. not (ends_type b)) name ≡ true → BeginsWith (λ b. not (is_blank b)) name
type_word [] some h = absurd (omega arith)
type_word (z ∷ zs) some h =
    let mark : is_blank z ≡ false = no_or (is_blank z) (z == 123) (and_parts (not (ends_type z)) (list_all (λ b. not (ends_type b)) zs) h).0 in
    record { first = z; others = zs; is = refl; passes = rw mark refl }

opened_is_made : (s : List ℕ) → opened s ≡ opened_made (first_word s) (before_first ends_type (after_word s)) (drop (length (before_first ends_type (after_word s))) (after_word s))
unfolding opened opened_made
opened_is_made s = refl

-- `define`, a type and {
made_so : (name after : List ℕ) → 0 < length name → AreBlanks after → opened_made (codes "define") name (after ++ codes "{") ≡ kind_of name
unfolding opened_made
made_so name after some blank =
    let e : (length name == 0) ≡ false = grind (arith, tests) in
    let brace : trim_start (after ++ codes "{") ≡ codes "{" = blanks_dropped after 123 [] blank refl in
    rw (e, brace) refl

pub opened_spelled : (s name : List ℕ) → IsDefine s name → opened s ≡ kind_of name
opened_spelled s name h =
    let end : List ℕ = h.after ++ codes "{" in
    let begins = type_word name h.some_type h.type_bytes in
    let z = begins.first in
    let zs = begins.others in
    let ends = type_ends h.after h.after_blank in
    let spelled : s ≡ codes "define" ++ (h.before ++ z ∷ (zs ++ end)) = h.parts ∙ ap (λ n. codes "define" ++ (h.before ++ (n ++ end))) begins.is in
    let taken = after_first_word (codes "define") h.before z (zs ++ end) refl h.before_blank h.some_blank (not_mark (is_blank z) begins.passes) in
    let w : first_word s ≡ codes "define" = ap first_word spelled ∙ taken.0 in
    let rest : after_word s ≡ name ++ end = ap after_word spelled ∙ taken.1 ∙ ap (λ n. n ++ end) (sym begins.is) in
    let place : position_or_len ends_type (name ++ end) ≡ length name = ap (λ e. position_or_len ends_type (name ++ e)) ends.is ∙ stops ends_type name ends.first ends.others h.type_bytes ends.passes in
    let whole : before_first ends_type (name ++ end) ≡ name = rw place (take-append_seam name end) in
    opened_is_made s
    ∙ ap (λ f. opened_made f (before_first ends_type (after_word s)) (drop (length (before_first ends_type (after_word s))) (after_word s))) w
    ∙ ap (λ r. opened_made (codes "define") (before_first ends_type r) (drop (length (before_first ends_type r)) r)) rest
    ∙ ap (λ n. opened_made (codes "define") n (drop (length n) (name ++ end))) whole
    ∙ ap (opened_made (codes "define") name) (drop-append_seam name end)
    ∙ made_so name h.after h.some_type h.after_blank

-- no type means that a line opens nothing
among_never : (ts : List (List ℕ × BlockKind)) (name : List ℕ) → kind_among ts name ≡ Err NotADefine → ⊥
among_never [] name e = cc
among_never (t ∷ ts) name e = by_name (among_never ts name) (bytes_eq name t.0) refl where
  by_name : (kind_among ts name ≡ Err NotADefine → ⊥) → (b : Bool) → bytes_eq name t.0 ≡ b → ⊥
  by_name later true d = let is : Ok t.1 ≡ Err NotADefine = rw d at e in cc
  by_name later false d = later (rw d at e)

kind_of-never : (name : List ℕ) → kind_of name ≡ Err NotADefine → ⊥
unfolding kind_of
kind_of-never name e = among_never types name e

define_parts : (s word between rest name tail after : List ℕ) → s ≡ word ++ (between ++ rest) → word ≡ codes "define" → rest ≡ name ++ tail → tail ≡ after ++ codes "{"
    → s ≡ codes "define" ++ (between ++ (name ++ (after ++ codes "{")))
define_parts s word between rest name tail after whole word_is rest_is tail_is =
    whole ∙ ap (λ w. w ++ (between ++ rest)) word_is ∙ ap (λ r. codes "define" ++ (between ++ r)) (rest_is ∙ ap (λ t. name ++ t) tail_is)

opened_cases : (s : List ℕ) (t : Bool)
    → (bytes_eq (first_word s) (codes "define") && not (length (before_first ends_type (after_word s)) == 0)
    && bytes_eq (trim_start (drop (length (before_first ends_type (after_word s))) (after_word s))) (codes "{")) ≡ t
    → ((name : List ℕ) × IsDefine s name × (opened s ≡ kind_of name)) ⊎ (opened s ≡ Err NotADefine)
unfolding opened
opened_cases s false e = inr (rw e refl)
opened_cases s true e =
    let mark : ℕ → Bool = λ b. not (is_blank b) in
    let rest : List ℕ = after_word s in
    let name : List ℕ = before_first ends_type rest in
    let tail : List ℕ = drop (length name) rest in
    let parts = and_parts _ _ e in
    let front = and_parts _ _ parts.0 in
    let word : first_word s ≡ codes "define" = (bytes_eq-Decides (first_word s) (codes "define")).0 front.0 in
    let brace : trim_start tail ≡ codes "{" = (bytes_eq-Decides (trim_start tail) (codes "{")).0 parts.1 in
    let named : (length name == 0) ≡ false = not_mark _ front.1 in
    let some : 0 < length name = grind (arith, tests) in
    let split : rest ≡ name ++ tail = front_and_rest ends_type rest in
    let rest_some : 0 < length rest = omega (arith, ap length split, length-append name tail) in
    let h = apart s rest_some in
    let after : tail ≡ before_first mark tail ++ codes "{" = sym (take-append-drop (position_or_len mark tail) tail) ∙ ap (λ b. before_first mark tail ++ b) brace in
    inl (
      name,
      record {
        before = h.between;
        after = before_first mark tail;
        parts = define_parts s (first_word s) h.between rest name tail (before_first mark tail) h.parts word split after;
        before_blank = h.blank;
        some_blank = h.some_blank;
        type_bytes = before_fails ends_type rest;
        some_type = some;
        after_blank = blanks_from (before_first mark tail) (before_fails mark tail);
      },
      rw e refl,
    )

abbrev Opening : List ℕ → Type 0
Opening s = ((name : List ℕ) × IsDefine s name × (opened s ≡ kind_of name)) ⊎ (opened s ≡ Err NotADefine)

opening : (s : List ℕ) → Opening s
opening s = opened_cases s _ refl

-- what is taken for the opening of a block is spelled so
pub opened_taken : (s : List ℕ) (kind : BlockKind) → opened s ≡ Ok kind → (name : List ℕ) × IsDefine s name × (kind_of name ≡ Ok kind)
opened_taken s kind e = from (opening s) where
  from : Opening s → (name : List ℕ) × IsDefine s name × (kind_of name ≡ Ok kind)
  from (inl h) = (h.0, h.1, sym h.2 ∙ e)
  from (inr h) = let no : ⊥ = cc in absurd no

-- and what isn't is no define, or of a type that isn't read
pub opened_refused : (s : List ℕ) (f : LineFault) → opened s ≡ Err f
    → ((name : List ℕ) × IsDefine s name × (kind_of name ≡ Err f)) ⊎ (((name : List ℕ) → IsDefine s name → ⊥) × (f ≡ NotADefine))
opened_refused s f e = from (opening s) where
  from : Opening s → ((name : List ℕ) × IsDefine s name × (kind_of name ≡ Err f)) ⊎ (((name : List ℕ) → IsDefine s name → ⊥) × (f ≡ NotADefine))
  from (inl h) = inl (h.0, h.1, sym h.2 ∙ e)
  from (inr h) = inr (λ name is. kind_of-never name (sym (opened_spelled s name is) ∙ h), cc)

pub no_define : (s : List ℕ) → ((name : List ℕ) → IsDefine s name → ⊥) → opened s ≡ Err NotADefine
no_define s none = from (opening s) where
  from : Opening s → opened s ≡ Err NotADefine
  from (inl h) = absurd (none h.0 h.1)
  from (inr h) = h
