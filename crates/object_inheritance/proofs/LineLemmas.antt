-- One line of dates more that is noted.
use Rattle.std.proofs.Common.{◌≡◌, ℕ, ◌<◌, Bool, true, false, cond, List, [], ◌∷◌, ◌++◌, length, get_or, map, reverse, Option, Some, None, Result, Ok, Err, refl, sym, ap, subst, ◌⊎◌, inl, inr, ◌∙◌}
use Rattle.std.specs.Prelude.{All, Contains, find, is_some, OnOk, ◌||◌}
use Rattle.std.specs.Map.{lookup}
use Rattle.std.specs.Option.{option_map, option_or}
use Rattle.std.specs.Str.{bytes_eq}
use Rattle.std.proofs.Common.{Bor}
use Rattle.std.proofs.lemmas.Bool.{false≢true}
use Rattle.std.proofs.lemmas.Cmp.{nat_list_eq_equiv}
use Rattle.std.proofs.lemmas.List.{reverse-append}
use Rattle.std.proofs.lemmas.List.Elements.{All-append, All-cons, All-nil, All-map}
use Rattle.std.proofs.lemmas.List.Folds.{find-append}
use Rattle.std.proofs.lemmas.Slice.Eq.{bytes_eq-Decides}
use Rattle.lemmas.proofs.Elements.{Contains-cases, Contains-here, Contains-later, Contains-map, Contains-none}
use Rattle.lemmas.proofs.Searches.{or-none, or-some}
use Rattle.object_inheritance.specs.claims.DatedLines.{AreLines, dated_line}
use Rattle.object_inheritance.specs.DatedLines.{named}
use Rattle.object_inheritance.specs.declared.dated_lines.Found.{Found}
use Rattle.object_inheritance.specs.declared.dated_lines.Line.{Line}
use Rattle.object_inheritance.specs.claims.Inherited.{value}
use Rattle.object_inheritance.specs.LineSearch.{IsFound, noted, said_by}
use Rattle.object_reader.specs.declared.block.Block.{Block}
use Rattle.object_reader.specs.declared.block.Directive.{Directive}
use Rattle.object_values.specs.claims.Ranges.{is_dated}
use Rattle.object_values.specs.claims.Values.{value_in}

pub same-name : (one other : List ℕ) → bytes_eq one other ≡ true → one ≡ other
same-name one other is = (bytes_eq-Decides one other).0 is

-- ---- what is found, or what another search finds

pub or-more : {X : Type 0} (x y z : Option X) → option_or (option_or x y) z ≡ option_or x (option_or y z)
or-more None y z = refl
or-more (Some one) y z = refl

-- both find nothing
pub or-nothing : {X : Type 0} (x y : Option X) → option_or x y ≡ None → (x ≡ None) × (y ≡ None)
or-nothing None y none = (refl, none)
or-nothing (Some x) y none = absurd (false≢true (sym (ap is_some none)))

-- only what the second finds matters where the first finds nothing
pub or-open : {X : Type 0} (found x y : Option X) → (found ≡ None → x ≡ y) → option_or found x ≡ option_or found y
or-open None x y same = same refl
or-open (Some one) x y same = refl

-- ---- lines

pub line-dated : (name : List ℕ) (text : Option (List ℕ)) → is_dated name ≡ true → dated_line name text ≡ text
line-dated name text is = ap (λ (b : Bool). cond b text None) is

pub line-undated : (name : List ℕ) (text : Option (List ℕ)) → is_dated name ≡ false → dated_line name text ≡ None
line-undated name text is = ap (λ (b : Bool). cond b text None) is

none-by : (b : Bool) → cond {A = Option (List ℕ)} b None None ≡ None
none-by true = refl
none-by false = refl

pub line-none : (name : List ℕ) → dated_line name None ≡ None
line-none name = none-by (is_dated name)

line-or : (name : List ℕ) (one other : Option (List ℕ)) → dated_line name (option_or one other) ≡ option_or (dated_line name one) (dated_line name other)
line-or name one other = by_test (is_dated name)
  where
    by_test : (b : Bool) → cond b (option_or one other) None ≡ option_or (cond b one None) (cond b other None)
    by_test true = refl
    by_test false = refl

-- what a directive says of another name, and of its own
said-other : (d : Directive) (name : List ℕ) → bytes_eq d.name name ≡ false → said_by d name ≡ None
said-other d name is = ap (λ (b : Bool). dated_line name (cond b (Some d.value) None)) is ∙ line-none name

said-own : (d : Directive) (name : List ℕ) → bytes_eq d.name name ≡ true → said_by d name ≡ dated_line name (Some d.value)
said-own d name is = ap (λ (b : Bool). dated_line name (cond b (Some d.value) None)) is

-- a line more
noted-more : (lines : List Line) (line : Line) (name : List ℕ)
    → noted (lines ++ line ∷ []) name ≡ option_or (noted lines name) (cond (bytes_eq line.name.now name) (Some line.text.now) None)
noted-more lines line name =
    ap (option_map (λ (l : Line). l.text.now)) (find-append (λ (l : Line). bytes_eq l.name.now name) lines (line ∷ []))
    ∙ by_found (find (λ (l : Line). bytes_eq l.name.now name) lines) (bytes_eq line.name.now name)
  where
    by_found : (found : Option Line) (b : Bool) → option_map (λ (l : Line). l.text.now) (option_or found (cond b (Some line) None))
        ≡ option_or (option_map (λ (l : Line). l.text.now) found) (cond b (Some line.text.now) None)
    by_found (Some x) b = refl
    by_found None true = refl
    by_found None false = refl

module _ (lines : List Line) (d : Directive) where
  -- one that is no line of dates
  pub note-undated : is_dated d.name ≡ false → (name : List ℕ) → noted lines name ≡ option_or (noted lines name) (said_by d name)
  note-undated undated name = sym (ap (option_or (noted lines name)) (by_name (bytes_eq d.name name) refl) ∙ or-none (noted lines name))
    where
      by_name : (b : Bool) → bytes_eq d.name name ≡ b → said_by d name ≡ None
      by_name false is = said-other d name is
      by_name true is = said-own d name is ∙ line-undated name (Some d.value) (ap is_dated (sym (same-name d.name name is)) ∙ undated)

  -- one of a name that is noted
  pub note-kept : is_some (noted lines d.name) ≡ true → (name : List ℕ) → noted lines name ≡ option_or (noted lines name) (said_by d name)
  note-kept there name = sym (by_name (bytes_eq d.name name) refl)
    where
      by_name : (b : Bool) → bytes_eq d.name name ≡ b → option_or (noted lines name) (said_by d name) ≡ noted lines name
      by_name false is = ap (option_or (noted lines name)) (said-other d name is) ∙ or-none (noted lines name)
      by_name true is = or-some (noted lines name) (said_by d name) (ap (λ n. is_some (noted lines n)) (sym (same-name d.name name is)) ∙ there)

  -- a new one
  pub note-new : (line : Line) → line.name.now ≡ d.name → line.text.now ≡ d.value → is_dated d.name ≡ true → (name : List ℕ)
      → noted (lines ++ line ∷ []) name ≡ option_or (noted lines name) (said_by d name)
  note-new line name_is text_is dated name =
      noted-more lines line name
      ∙ ap (option_or (noted lines name))
      (ap (λ n. cond (bytes_eq n name) (Some line.text.now) None) name_is ∙ ap (λ t. cond (bytes_eq d.name name) (Some t) None) text_is ∙ by_name (bytes_eq d.name name) refl)
    where
      by_name : (b : Bool) → bytes_eq d.name name ≡ b → cond b (Some d.value) None ≡ said_by d name
      by_name false is = sym (said-other d name is)
      by_name true is = sym (said-own d name is ∙ line-dated name (Some d.value) (ap is_dated (sym (same-name d.name name is)) ∙ dated))

-- a line of a new name is among the lines
module _ (old new : Found) (line : Line) (found : IsFound old) (are : new.lines.items ≡ old.lines.items ++ line ∷ []) (absent : noted old.lines.items line.name.now ≡ None)
    (names : (name : List ℕ) → is_some (lookup (λ key. bytes_eq name key.now) new.names.entries)
    ≡ cond (bytes_eq line.name.now name) true (is_some (lookup (λ key. bytes_eq name key.now) old.names.entries))) where
  pub found-more : IsFound new
  found-more = record {
    names = λ name. names name ∙ ap (cond (bytes_eq line.name.now name) true) (found.names name) ∙ sym (ap is_some (noted-new name) ∙ by_name (noted old.lines.items name) (bytes_eq line.name.now name));
    each = subst (λ (lines : List Line). All (λ (l : Line). noted lines l.name.now ≡ Some l.text.now) lines) (sym are)
        (All-append (λ (l : Line). noted (old.lines.items ++ line ∷ []) l.name.now ≡ Some l.text.now) old.lines.items (line ∷ []) earlier
        (All-cons (λ (l : Line). noted (old.lines.items ++ line ∷ []) l.name.now ≡ Some l.text.now) line [] here (All-nil _)));
  }
    where
      noted-new : (name : List ℕ) → noted new.lines.items name ≡ option_or (noted old.lines.items name) (cond (bytes_eq line.name.now name) (Some line.text.now) None)
      noted-new name = ap (λ (lines : List Line). noted lines name) are ∙ noted-more old.lines.items line name

      by_name : (known : Option (List ℕ)) (b : Bool) → is_some (option_or known (cond b (Some line.text.now) None)) ≡ cond b true (is_some known)
      by_name (Some text) true = refl
      by_name (Some text) false = refl
      by_name None true = refl
      by_name None false = refl

      here : noted (old.lines.items ++ line ∷ []) line.name.now ≡ Some line.text.now
      here = noted-more old.lines.items line line.name.now
          ∙ ap (λ known. option_or known (cond (bytes_eq line.name.now line.name.now) (Some line.text.now) None)) absent
          ∙ ap (λ (b : Bool). cond b (Some line.text.now) None) (nat_list_eq_equiv.refl line.name.now)

      earlier : All (λ (l : Line). noted (old.lines.items ++ line ∷ []) l.name.now ≡ Some l.text.now) old.lines.items
      earlier i l within =
          let one = get-one i l within in
          noted-more old.lines.items line (get_or old.lines.items i l).name.now
          ∙ ap (λ known. option_or known (cond (bytes_eq line.name.now (get_or old.lines.items i l).name.now) (Some line.text.now) None)) one
        where
          get-one : (i : ℕ) (l : Line) → i < length old.lines.items → noted old.lines.items (get_or old.lines.items i l).name.now ≡ Some (get_or old.lines.items i l).text.now
          get-one i l within = found.each i l within

-- ---- the lines of a block, from its end

value-front : (d : Directive) (ds : List Directive) (name : List ℕ) → value_in (d ∷ ds) name ≡ option_or (value_in ds name) (cond (bytes_eq d.name name) (Some d.value) None)
value-front d ds name =
    ap (λ (all : List Directive). option_map (λ (x : Directive). x.value) (find (λ (x : Directive). bytes_eq x.name name) all)) (reverse-append (d ∷ []) ds)
    ∙ ap (option_map (λ (x : Directive). x.value)) (find-append (λ (x : Directive). bytes_eq x.name name) (reverse ds) (d ∷ []))
    ∙ by_found (find (λ (x : Directive). bytes_eq x.name name) (reverse ds)) (bytes_eq d.name name)
  where
    by_found : (found : Option Directive) (b : Bool) → option_map (λ (x : Directive). x.value) (option_or found (cond b (Some d) None))
        ≡ option_or (option_map (λ (x : Directive). x.value) found) (cond b (Some d.value) None)
    by_found (Some x) b = refl
    by_found None true = refl
    by_found None false = refl

pub lines-more : (first old new : List Line) (ds rest : List Directive) (d : Directive) → ds ≡ d ∷ rest
    → ((name : List ℕ) → noted old name ≡ option_or (noted first name) (dated_line name (value_in rest name)))
    → ((name : List ℕ) → noted new name ≡ option_or (noted old name) (said_by d name))
    → (name : List ℕ) → noted new name ≡ option_or (noted first name) (dated_line name (value_in ds name))
lines-more first old new ds rest d is before more name =
    more name ∙ ap (λ (found : Option (List ℕ)). option_or found (said_by d name)) (before name)
    ∙ or-more (noted first name) (dated_line name (value_in rest name)) (said_by d name)
    ∙ ap (option_or (noted first name)) (sym (line-or name (value_in rest name) (cond (bytes_eq d.name name) (Some d.value) None))
    ∙ ap (dated_line name) (sym (value-front d rest name) ∙ ap (λ (all : List Directive). value_in all name) (sym is)))

pub lines-none : (first : List Line) (rest : List Directive) → rest ≡ [] → (name : List ℕ) → noted first name ≡ option_or (noted first name) (dated_line name (value_in rest name))
lines-none first rest none name =
    sym (ap (λ (ds : List Directive). option_or (noted first name) (dated_line name (value_in ds name))) none ∙ ap (option_or (noted first name)) (line-none name) ∙ or-none (noted first name))

-- what two clauses say of a value together
pub on-both : {X Y : Type 0} (r : Result X Y) (A B C : Type 0) → (A → B → C) → OnOk r A → OnOk r B → OnOk r C
on-both (Ok x) A B C f a b = f a b
on-both (Err e) A B C f a b = tt

-- ---- what is found

some-same : (x y : List ℕ) → Some x ≡ Some y → x ≡ y
some-same x y same = cc

pair : {x y : List ℕ} {s t : List ℕ} → x ≡ y → s ≡ t → (let one : List ℕ × List ℕ = (x, s) in one) ≡ (y, t)
pair {x} {y} {s} {t} xy st = ap (λ (n : List ℕ). let one : List ℕ × List ℕ = (n, s) in one) xy ∙ ap (λ (m : List ℕ). let one : List ℕ × List ℕ = (y, m) in one) st

-- the lines that a search found are those that the block has
pub lines-are : (blocks : List Block) (place : ℕ) (found : Found) → IsFound found → ((name : List ℕ) → noted found.lines.items name ≡ dated_line name (value blocks name place))
    → AreLines blocks place (named found.lines.items)
lines-are blocks place found is are = record {
  each = All-map (λ (line : List ℕ × List ℕ). dated_line line.0 (value blocks line.0 place) ≡ Some line.1) (λ (l : Line). (l.name.now, l.text.now)) found.lines.items
      (λ i l within. sym (are (get_or found.lines.items i l).name.now) ∙ is.each i l within);
  all = λ name text there. from_noted name text found.lines.items (are name ∙ there);
}
  where
    from_noted : (name text : List ℕ) (lines : List Line) → noted lines name ≡ Some text → Contains (named lines) (name, text)
    from_noted name text [] none = absurd (false≢true (ap is_some none))
    from_noted name text (line ∷ lines) is = by_name (bytes_eq line.name.now name) refl is (from_noted name text lines)
      where
        by_name : (b : Bool) → bytes_eq line.name.now name ≡ b → option_map (λ (l : Line). l.text.now) (cond b (Some line) (find (λ (l : Line). bytes_eq l.name.now name) lines)) ≡ Some text
            → (noted lines name ≡ Some text → Contains (named lines) (name, text)) → Contains (named (line ∷ lines)) (name, text)
        by_name true same is more =
            subst (λ (one : List ℕ × List ℕ). Contains (named (line ∷ lines)) one) (pair (same-name line.name.now name same) (some-same line.text.now text is)) (Contains-here (line.name.now, line.text.now) (named lines))
        by_name false other is more = Contains-later (line.name.now, line.text.now) (name, text) (named lines) (more is)

pub some-cond : (b : Bool) (known : Option Bool) → is_some (cond b (Some true) known) ≡ cond b true (is_some known)
some-cond true known = refl
some-cond false known = refl

-- nothing is found before a search
pub none-found : (found : Found) → found.lines.items ≡ [] → found.names.entries ≡ [] → IsFound found
none-found found lines names = record {
  names = λ name. ap (λ entries. is_some (lookup (λ key. bytes_eq name key.now) entries)) names ∙ sym (ap (λ (ls : List Line). is_some (noted ls name)) lines);
  each = subst (λ (ls : List Line). All (λ (l : Line). noted ls l.name.now ≡ Some l.text.now) ls) (sym lines) (All-nil _);
}
