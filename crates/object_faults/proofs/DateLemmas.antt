-- The lines of dates that are found are those of the definition.
use Rattle.std.proofs.Common.{◌≡◌, ℕ, zero, suc, Bool, true, false, not, cond, List, [], ◌∷◌, ◌++◌, length, map, reverse, Option, Some, None, refl, sym, ap, subst, ⊎_elim, ◌⊎◌, inl, inr, ◌∙◌}
use Rattle.std.specs.Prelude.{All, Contains, find, is_some, slice_get, ◌||◌, ◌&&◌}
use Rattle.std.specs.List.{list_any}
use Rattle.std.specs.Option.{option_and_then, option_map, option_map_or, option_to_list}
use Rattle.std.specs.Str.{bytes_eq}
use Rattle.std.proofs.lemmas.Bool.{false≢true}
use Rattle.std.proofs.lemmas.List.{reverse-append}
use Rattle.std.proofs.lemmas.List.Elements.{All-contains, Contains-append_cases}
use Rattle.std.proofs.lemmas.Slice.Eq.{bytes_eq-Decides}
use Rattle.lemmas.proofs.Elements.{at-Contains, Contains-cases, Contains-flat_map, Contains-here, Contains-later, Contains-map, Contains-none}
use Rattle.object_faults.specs.Columns.{date_at, date_by, date_fault}
use Rattle.object_faults.specs.claims.Dated.{directive_names, has_bad_line, has_line, has_other_line, is_bad_line, is_other_line}
use Rattle.object_faults.specs.declared.fault.ValueFault.{ValueFault}
use Rattle.object_faults.specs.claims.Faults.{is_registered}
use Rattle.object_inheritance.specs.claims.DatedLines.{AreLines, dated_line}
use Rattle.object_inheritance.specs.DatedLines.{named}
use Rattle.object_inheritance.specs.declared.dated_lines.Line.{Line}
use Rattle.object_inheritance.specs.claims.Kinds.{is_period}
use Rattle.object_inheritance.specs.claims.Inherited.{first_given, given, given_along, own, sources, value}
use Rattle.object_reader.specs.declared.block.Block.{Block}
use Rattle.object_reader.specs.declared.block.Directive.{Directive}
use Rattle.object_values.specs.claims.Ranges.{is_dated}
use Rattle.object_values.specs.claims.Values.{value_in}

same-name : (one other : List ℕ) → bytes_eq one other ≡ true → one ≡ other
same-name one other is = (bytes_eq-Decides one other).0 is

-- ---- elements

found-in : {X : Type 0} (p : X → Bool) (xs : List X) (x : X) → find p xs ≡ Some x → Contains xs x × (p x ≡ true)
found-in p [] x none = absurd (false≢true (ap is_some none))
found-in {X} p (y ∷ ys) x is = by_test (p y) refl is (λ rest. found-in p ys x rest)
  where
    by_test : (b : Bool) → p y ≡ b → cond b (Some y) (find p ys) ≡ Some x → (find p ys ≡ Some x → Contains ys x × (p x ≡ true)) → Contains (y ∷ ys) x × (p x ≡ true)
    by_test true passes here more = let same : y ≡ x = cc in (subst (λ (z : X). Contains (y ∷ ys) z) same (Contains-here y ys), ap p (sym same) ∙ passes)
    by_test false fails later more = let rest = more later in (Contains-later y x ys rest.0, rest.1)

Contains-reverse : {X : Type 0} (xs : List X) (x : X) → Contains (reverse xs) x → Contains xs x
Contains-reverse [] x at = at
Contains-reverse {X} (y ∷ ys) x at = ⊎_elim
    (λ (early : Contains (reverse ys) x). Contains-later y x ys (Contains-reverse ys x early))
    (λ (last : Contains (y ∷ []) x). ⊎_elim
    (λ (here : y ≡ x). subst (λ (z : X). Contains (y ∷ ys) z) here (Contains-here y ys))
    (λ (none : Contains [] x). absurd (Contains-none x none))
    (Contains-cases y x [] last))
    (Contains-append_cases (reverse ys) (y ∷ []) x (subst (λ (zs : List X). Contains zs x) (reverse-append (y ∷ []) ys) at))

-- ---- a name for which a block has a value is that of a directive

own-named : (blocks : List Block) (name : List ℕ) (place : ℕ) (text : List ℕ) → own blocks name place ≡ Some text → Contains (directive_names blocks) name
own-named blocks name place text is = by_block (slice_get blocks place) refl is
  where
    by_directive : (block : Block) (found : Option Directive) → Contains blocks block → find (λ (d : Directive). bytes_eq d.name name) (reverse block.directives) ≡ found
        → option_map (λ (d : Directive). d.value) found ≡ Some text → Contains (directive_names blocks) name
    by_directive block None at found none = absurd (false≢true (ap is_some none))
    by_directive block (Some d) at found is =
        let here = found-in (λ (x : Directive). bytes_eq x.name name) (reverse block.directives) d found in
        let named = Contains-map (λ (x : Directive). x.name) block.directives d (Contains-reverse block.directives d here.0) in
        Contains-flat_map (λ (b : Block). map (λ (x : Directive). x.name) b.directives) blocks block name at
        (subst (λ (n : List ℕ). Contains (map (λ (x : Directive). x.name) block.directives) n) (same-name d.name name here.1) named)

    by_block : (found : Option Block) → slice_get blocks place ≡ found → option_and_then (λ (block : Block). value_in block.directives name) found ≡ Some text → Contains (directive_names blocks) name
    by_block None here none = absurd (false≢true (ap is_some none))
    by_block (Some block) here is = by_directive block (find (λ (d : Directive). bytes_eq d.name name) (reverse block.directives)) (at-Contains blocks place block here) refl is

-- the first that is given is some block's
first-from : (f : ℕ → List (List ℕ)) (places : List ℕ) (text : List ℕ) → slice_get (first_given (map f places)) 0 ≡ Some text → (place : ℕ) × (slice_get (f place) 0 ≡ Some text)
first-from f [] text none = absurd (false≢true (ap is_some none))
first-from f (place ∷ places) text is = by_texts (f place) refl is (first-from f places text)
  where
    by_texts : (texts : List (List ℕ)) → f place ≡ texts → slice_get (first_given (texts ∷ map f places)) 0 ≡ Some text
        → (slice_get (first_given (map f places)) 0 ≡ Some text → (q : ℕ) × (slice_get (f q) 0 ≡ Some text)) → (q : ℕ) × (slice_get (f q) 0 ≡ Some text)
    by_texts [] none is more = more is
    by_texts (one ∷ others) are is more = (place, ap (λ (texts : List (List ℕ)). slice_get texts 0) are ∙ is)

along-named : (blocks : List Block) (name : List ℕ) (further place : ℕ) (text : List ℕ) → slice_get (given_along further blocks name place) 0 ≡ Some text → Contains (directive_names blocks) name
unfolding given_along
along-named blocks name zero place text none = absurd (false≢true (ap is_some none))
along-named blocks name (suc further) place text is = by_own (own blocks name place) refl is (along-named blocks name further)
  where
    by_own : (mine : Option (List ℕ)) → own blocks name place ≡ mine → slice_get (option_to_list mine ++ first_given (map (given_along further blocks name) (sources blocks name place))) 0 ≡ Some text
        → ((q : ℕ) (t : List ℕ) → slice_get (given_along further blocks name q) 0 ≡ Some t → Contains (directive_names blocks) name) → Contains (directive_names blocks) name
    by_own (Some one) mine is more = own-named blocks name place one mine
    by_own None mine is more = let from = first-from (given_along further blocks name) (sources blocks name place) text is in more from.0 text from.1

value-named : (blocks : List Block) (name : List ℕ) (place : ℕ) (text : List ℕ) → value blocks name place ≡ Some text → Contains (directive_names blocks) name
unfolding given
value-named blocks name place text is = along-named blocks name (length blocks) place text is

-- ---- whether there is such a line

any-found : (p : List ℕ → Bool) (xs : List (List ℕ)) → list_any p xs ≡ true → (x : List ℕ) × (p x ≡ true)
any-found p [] none = absurd (false≢true none)
any-found p (x ∷ xs) any = by_head (p x) refl any (any-found p xs)
  where
    by_head : (b : Bool) → p x ≡ b → (b || list_any p xs) ≡ true → (list_any p xs ≡ true → (y : List ℕ) × (p y ≡ true)) → (y : List ℕ) × (p y ≡ true)
    by_head true passes any more = (x, passes)
    by_head false fails any more = more any

any-from : (p : List ℕ → Bool) (xs : List (List ℕ)) (x : List ℕ) → Contains xs x → p x ≡ true → list_any p xs ≡ true
any-from p [] x at is = absurd (Contains-none x at)
any-from p (y ∷ ys) x at is = by_head (p y) refl (Contains-cases y x ys at) (λ later. any-from p ys x later is)
  where
    by_head : (b : Bool) → p y ≡ b → (y ≡ x) ⊎ Contains ys x → (Contains ys x → list_any p ys ≡ true) → (b || list_any p ys) ≡ true
    by_head true passes either more = refl
    by_head false fails (inl here) more = absurd (false≢true (sym fails ∙ ap p here ∙ is))
    by_head false fails (inr later) more = more later

same-flag : (a b : Bool) → (a ≡ true → b ≡ true) → (b ≡ true → a ≡ true) → a ≡ b
same-flag true b to from = sym (to refl)
same-flag false true to from = from refl
same-flag false false to from = refl

-- some line of these passes
abbrev any-line : (List ℕ → List ℕ → Bool) → List (List ℕ × List ℕ) → Bool
any-line passes lines = list_any (λ line. passes line.0 line.1) lines

line-found : (passes : List ℕ → List ℕ → Bool) (lines : List (List ℕ × List ℕ)) → any-line passes lines ≡ true
    → (line : List ℕ × List ℕ) × Contains lines line × (passes line.0 line.1 ≡ true)
line-found passes [] none = absurd (false≢true none)
line-found passes (x ∷ xs) any = by_head (passes x.0 x.1) refl any (line-found passes xs)
  where
    by_head : (b : Bool) → passes x.0 x.1 ≡ b → (b || any-line passes xs) ≡ true → (any-line passes xs ≡ true → (y : List ℕ × List ℕ) × Contains xs y × (passes y.0 y.1 ≡ true))
        → (y : List ℕ × List ℕ) × Contains (x ∷ xs) y × (passes y.0 y.1 ≡ true)
    by_head true is any more = (x, Contains-here x xs, is)
    by_head false fails any more = let later = more any in (later.0, Contains-later x later.0 xs later.1, later.2)

line-from : (passes : List ℕ → List ℕ → Bool) (lines : List (List ℕ × List ℕ)) (line : List ℕ × List ℕ) → Contains lines line → passes line.0 line.1 ≡ true → any-line passes lines ≡ true
line-from passes [] line at is = absurd (Contains-none line at)
line-from passes (y ∷ ys) line at is = by_head (passes y.0 y.1) refl (Contains-cases y line ys at) (λ later. line-from passes ys line later is)
  where
    by_head : (b : Bool) → passes y.0 y.1 ≡ b → (y ≡ line) ⊎ Contains ys line → (Contains ys line → any-line passes ys ≡ true) → (b || any-line passes ys) ≡ true
    by_head true is either more = refl
    by_head false fails (inl here) more = absurd (false≢true (sym fails ∙ ap (λ (l : List ℕ × List ℕ). passes l.0 l.1) here ∙ is))
    by_head false fails (inr later) more = more later

module _ (passes : List ℕ → List ℕ → Bool) (blocks : List Block) (place : ℕ) (lines : List (List ℕ × List ℕ)) (are : AreLines blocks place lines) where
  -- a line of the block passes where one of those that are found does
  line-is : any-line passes lines ≡ list_any (has_line passes blocks place) (directive_names blocks)
  line-is = same-flag _ _ to from
    where
      to : any-line passes lines ≡ true → list_any (has_line passes blocks place) (directive_names blocks) ≡ true
      to any =
          let found = line-found passes lines any in
          let line : dated_line found.0.0 (value blocks found.0.0 place) ≡ Some found.0.1 =
          All-contains (λ (l : List ℕ × List ℕ). dated_line l.0 (value blocks l.0 place) ≡ Some l.1) lines found.0 are.each found.1 in
          any-from (has_line passes blocks place) (directive_names blocks) found.0.0 (by_value found.0.0 found.0.1 (value blocks found.0.0 place) refl (is_dated found.0.0) line)
          (ap (λ text. option_map_or (passes found.0.0) text false) line ∙ found.2)
        where
          by_value : (name t : List ℕ) (text : Option (List ℕ)) → value blocks name place ≡ text → (b : Bool) → cond b text None ≡ Some t → Contains (directive_names blocks) name
          by_value name t (Some text) is b line = value-named blocks name place text is
          by_value name t None is true line = absurd (false≢true (ap is_some line))
          by_value name t None is false line = absurd (false≢true (ap is_some line))

      from : list_any (has_line passes blocks place) (directive_names blocks) ≡ true → any-line passes lines ≡ true
      from any =
          let found = any-found (has_line passes blocks place) (directive_names blocks) any in
          by_line found.0 (dated_line found.0 (value blocks found.0 place)) refl found.1
        where
          by_line : (name : List ℕ) (text : Option (List ℕ)) → dated_line name (value blocks name place) ≡ text → option_map_or (passes name) text false ≡ true → any-line passes lines ≡ true
          by_line name None is fails = absurd (false≢true fails)
          by_line name (Some text) is passing = line-from passes lines (name, text) (are.all name text is) passing

-- the same of lines as they are kept
any-named : (passes : List ℕ → List ℕ → Bool) (lines : List Line) → list_any (λ line. passes line.name.now line.text.now) lines ≡ any-line passes (named lines)
any-named passes [] = refl
any-named passes (line ∷ lines) = ap (λ rest. passes line.name.now line.text.now || rest) (any-named passes lines)

pub kept-line-is : (passes : List ℕ → List ℕ → Bool) (blocks : List Block) (place : ℕ) (lines : List Line) (flag : Bool) → flag ≡ list_any (λ line. passes line.name.now line.text.now) lines
    → AreLines blocks place (named lines) → flag ≡ list_any (has_line passes blocks place) (directive_names blocks)
kept-line-is passes blocks place lines flag is are = is ∙ any-named passes lines ∙ line-is passes blocks place (named lines) are

-- the fault of a registered period
pub fault-is : (blocks : List Block) (place : ℕ) (block : Block) (bad other : Bool) (fault : Option ValueFault) → slice_get blocks place ≡ Some block → is_registered block ≡ true
    → is_period block.kind ≡ true → bad ≡ has_bad_line blocks place → other ≡ has_other_line blocks place → fault ≡ date_by bad other → fault ≡ date_at blocks place
fault-is blocks place block bad other fault here registered period bad_is other_is is =
    is ∙ ap (λ (u : Bool). date_by u other) bad_is ∙ ap (λ (t : Bool). date_by (has_bad_line blocks place) t) other_is
    ∙ sym (ap (option_and_then (date_fault blocks place)) here
    ∙ ap (λ (b : Bool). cond (b && is_period block.kind) (date_by (has_bad_line blocks place) (has_other_line blocks place)) None) registered
    ∙ ap (λ (b : Bool). cond b (date_by (has_bad_line blocks place) (has_other_line blocks place)) None) period)

-- a block that is no registered period has no such fault
pub fault-unregistered : (blocks : List Block) (place : ℕ) (block : Block) → slice_get blocks place ≡ Some block → is_registered block ≡ false → None ≡ date_at blocks place
fault-unregistered blocks place block here is =
    sym (ap (option_and_then (date_fault blocks place)) here
    ∙ ap (λ (b : Bool). cond (b && is_period block.kind) (date_by (has_bad_line blocks place) (has_other_line blocks place)) None) is)

pub fault-no_period : (blocks : List Block) (place : ℕ) (block : Block) → slice_get blocks place ≡ Some block → is_period block.kind ≡ false → None ≡ date_at blocks place
fault-no_period blocks place block here is =
    sym (ap (option_and_then (date_fault blocks place)) here
    ∙ ap (λ (b : Bool). cond (is_registered block && b) (date_by (has_bad_line blocks place) (has_other_line blocks place)) None) is
    ∙ by_test (is_registered block))
  where
    by_test : (b : Bool) → cond {A = Option ValueFault} (b && false) (date_by (has_bad_line blocks place) (has_other_line blocks place)) None ≡ None
    by_test true = refl
    by_test false = refl
