-- One turn of a search for lines of dates.
use Rattle.std.proofs.Common.{◌≡◌, ℕ, ◌+◌, ◌<◌, ◌≤◌, Bool, true, false, cond, List, [], ◌∷◌, ◌++◌, length, map, set, get_or, Option, Some, None, refl, sym, ap, subst, eqb, eqb-true, ◌∙◌, arith}
use Rattle.std.specs.Prelude.{All, codes, is_some, slice_get, ◌||◌}
use Rattle.std.specs.Option.{option_or, option_to_list}
use Rattle.std.proofs.lemmas.Bool.{false≢true}
use Rattle.std.proofs.lemmas.List.{length-set, map-append}
use Rattle.std.proofs.lemmas.List.Elements.{All-append, All-cons, All-map, All-nil, All-tail}
use Rattle.lemmas.proofs.Writes.{at_set}
use Rattle.lemmas.proofs.Searches.{or-none}
use Rattle.object_inheritance.specs.claims.DatedLines.{dated_line}
use Rattle.object_inheritance.specs.declared.dated_lines.Line.{Line}
use Rattle.object_inheritance.specs.declared.dated_lines.LineMarks.{LineMarks}
use Rattle.object_inheritance.specs.declared.dated_lines.Turn.{Turn}
use Rattle.object_inheritance.specs.declared.dated_lines.Turn.TheVariants.{Enter, Leave}
use Rattle.object_inheritance.specs.LineSearch.{AreClosed, AreDone, AreMarks, first_text, IsOpen, IsSearch, IsTurn, noted, to_enter, used_at}
use Rattle.object_inheritance.proofs.LineLemmas.{line-dated, line-undated, or-more, or-nothing, or-open, same-name}
use Rattle.object_inheritance.specs.claims.Inherited.{first_given, given, own, stays, value}
use Rattle.object_inheritance.specs.Inherited.{AreInherited}
use Rattle.object_reader.specs.declared.block.Block.{Block}
use Rattle.object_values.specs.claims.Ranges.{is_dated}
use Rattle.std.specs.Str.{bytes_eq}

-- ---- lines of dates are inherited

stays-none : (name : List ℕ) → is_dated name ≡ true → stays name ≡ false
stays-none name dated = by_tests (bytes_eq name (codes "name")) (bytes_eq name (codes "use")) (bytes_eq name (codes "register")) refl refl refl
  where
    no : (word : List ℕ) → is_dated word ≡ false → bytes_eq name word ≡ true → ⊥
    no word undated is = false≢true (sym undated ∙ ap is_dated (sym (same-name name word is)) ∙ dated)

    by_tests : (a b c : Bool) → bytes_eq name (codes "name") ≡ a → bytes_eq name (codes "use") ≡ b → bytes_eq name (codes "register") ≡ c → (a || (b || (c || false))) ≡ false
    by_tests true b c one other third = absurd (no (codes "name") refl one)
    by_tests false true c one other third = absurd (no (codes "use") refl other)
    by_tests false false true one other third = absurd (no (codes "register") refl third)
    by_tests false false false one other third = refl

given-is : (blocks : List Block) → AreInherited blocks → (name : List ℕ) (place : ℕ) → is_dated name ≡ true
    → given blocks name place ≡ option_to_list (own blocks name place) ++ first_given (map (given blocks name) (used_at blocks place))
given-is blocks inherited name place dated =
    inherited name place
    ∙ ap (λ (b : Bool). option_to_list (own blocks name place) ++ first_given (map (given blocks name) (cond b [] (used_at blocks place)))) (stays-none name dated)

-- ---- the first that is given

first-one : (x : List (List ℕ)) → first_given (x ∷ []) ≡ x
first-one [] = refl
first-one (text ∷ texts) = refl

first-flat : (xs ys : List (List (List ℕ))) → first_given (first_given xs ∷ ys) ≡ first_given (xs ++ ys)
first-flat [] ys = refl
first-flat ([] ∷ xs) ys = first-flat xs ys
first-flat ((text ∷ texts) ∷ xs) ys = refl

-- ---- what is closed

mono : (Q P : List ℕ → Type 0) (blocks : List Block) → ((name : List ℕ) → P name → Q name) → (turns : List Turn) → AreClosed Q blocks turns → AreClosed P blocks turns
mono Q P blocks f [] closed = tt
mono Q P blocks f (Enter place ∷ turns) closed =
    mono (λ name. Q name × (given blocks name place ≡ [])) (λ name. P name × (given blocks name place ≡ [])) blocks (λ name both. (f name both.0, both.1)) turns closed
mono Q P blocks f (Leave place ∷ turns) closed = ((λ name free. closed.0 name (f name free)), mono Q P blocks f turns closed.1)

-- none of the blocks has anything
abbrev AreEmpty : List Block → List ℕ → List ℕ → Type 0
AreEmpty blocks name [] = Unit {0}
AreEmpty blocks name (place ∷ places) = (given blocks name place ≡ []) × AreEmpty blocks name places

empty-first : (blocks : List Block) (name : List ℕ) (places : List ℕ) → AreEmpty blocks name places → first_given (map (given blocks name) places) ≡ []
empty-first blocks name [] empty = refl
empty-first blocks name (place ∷ places) empty =
    ap (λ (texts : List (List ℕ)). first_given (texts ∷ map (given blocks name) places)) empty.0 ∙ empty-first blocks name places empty.1

closed-above : (Q : List ℕ → Type 0) (blocks : List Block) (places : List ℕ) (turns : List Turn) → AreClosed (λ name. Q name × AreEmpty blocks name places) blocks turns
    → AreClosed Q blocks (map Enter places ++ turns)
closed-above Q blocks [] turns closed = mono (λ name. Q name × AreEmpty blocks name []) Q blocks (λ name free. (free, tt)) turns closed
closed-above Q blocks (place ∷ places) turns closed =
    closed-above (λ name. Q name × (given blocks name place ≡ [])) blocks places turns
    (mono (λ name. Q name × AreEmpty blocks name (place ∷ places)) (λ name. (Q name × (given blocks name place ≡ [])) × AreEmpty blocks name places) blocks
    (λ name free. (free.0.0, (free.0.1, free.1))) turns closed)

enters-above : (places : List ℕ) (turns : List Turn) → to_enter (map Enter places ++ turns) ≡ places ++ to_enter turns
enters-above [] turns = refl
enters-above (place ∷ places) turns = ap (λ more. place ∷ more) (enters-above places turns)

-- ---- the turns

module _ (blocks : List Block) (root : ℕ) where
  pub search-begun : (marks : LineMarks) → root < length blocks → AreMarks blocks marks → IsSearch blocks root [] marks (Enter root ∷ [])
  search-begun marks low are = record {
    only_dated = λ name undated. refl;
    found = λ name dated. sym (ap (λ (texts : List (List ℕ)). slice_get texts 0) (first-one (given blocks name root)));
    are_done = are.done;
    are_closed = tt;
    are_turns = All-cons (IsTurn blocks) (Enter root) [] low (All-nil (IsTurn blocks));
    low = are.low;
    long = are.long;
  }

  pub search-done : (lines : List Line) (marks : LineMarks) → IsSearch blocks root lines marks [] → (name : List ℕ) → noted lines name ≡ dated_line name (value blocks name root)
  search-done lines marks is name = by_test (is_dated name) refl
    where
      by_test : (b : Bool) → is_dated name ≡ b → noted lines name ≡ dated_line name (value blocks name root)
      by_test true dated = sym (line-dated name (value blocks name root) dated ∙ is.found name dated ∙ or-none (noted lines name))
      by_test false undated = is.only_dated name undated ∙ sym (line-undated name (value blocks name root) undated)

  module _ (lines : List Line) (marks : LineMarks) (place : ℕ) (turns : List Turn) where
    -- a block is left
    pub taken-leave : (new : LineMarks) → IsSearch blocks root lines marks (Leave place ∷ turns) → new.mark ≡ marks.mark → new.marks.items ≡ set marks.marks.items place marks.mark
        → place < length marks.marks.items → IsSearch blocks root lines new turns
    taken-leave new is mark set_is low = record {
      only_dated = is.only_dated;
      found = is.found;
      are_done = λ k name marked free. by_test k name free (eqb place k) refl
          (sym (ap (λ (ms : List ℕ). get_or ms k 0) set_is ∙ at_set marks.marks.items place k marks.mark 0 low) ∙ marked ∙ mark);
      are_closed = is.are_closed.1;
      are_turns = All-tail (IsTurn blocks) (Leave place) turns is.are_turns;
      low = λ k. subst (λ m. get_or new.marks.items k 0 ≤ m) (sym mark)
          (subst (λ m. m ≤ marks.mark) (sym (ap (λ (ms : List ℕ). get_or ms k 0) set_is ∙ at_set marks.marks.items place k marks.mark 0 low)) (below k (eqb place k)));
      long = ap (λ (ms : List ℕ). length ms) set_is ∙ length-set marks.marks.items place marks.mark ∙ is.long;
    }
      where
        by_test : (k : ℕ) (name : List ℕ) → IsOpen lines name → (b : Bool) → eqb place k ≡ b → cond b marks.mark (get_or marks.marks.items k 0) ≡ marks.mark → given blocks name k ≡ []
        by_test k name free true same marked = subst (λ (n : ℕ). given blocks name n ≡ []) (eqb-true place k same) (is.are_closed.0 name free)
        by_test k name free false other marked = is.are_done k name marked free

        below : (k : ℕ) (b : Bool) → cond b marks.mark (get_or marks.marks.items k 0) ≤ marks.mark
        below k true = omega arith
        below k false = is.low k

    -- a block that is done is passed over
    pub taken-done : IsSearch blocks root lines marks (Enter place ∷ turns) → get_or marks.marks.items place 0 ≡ marks.mark → IsSearch blocks root lines marks turns
    taken-done is marked = record {
      only_dated = is.only_dated;
      found = λ name dated. is.found name dated ∙ or-open (noted lines name) _ _ (λ none.
          ap (λ (texts : List (List ℕ)). slice_get (first_given (texts ∷ map (given blocks name) (to_enter turns))) 0) (is.are_done place name marked (dated, none)));
      are_done = is.are_done;
      are_closed = mono (λ name. IsOpen lines name × (given blocks name place ≡ [])) (IsOpen lines) blocks (λ name free. (free, is.are_done place name marked free)) turns is.are_closed;
      are_turns = All-tail (IsTurn blocks) (Enter place) turns is.are_turns;
      low = is.low;
      long = is.long;
    }

    -- a block is entered
    module _ (inherited : AreInherited blocks) (new : List Line) (counted : LineMarks) (same : counted.marks.items ≡ marks.marks.items) (mark : counted.mark ≡ marks.mark)
        (within : place < length blocks) (leads : All (λ q. q < length blocks) (used_at blocks place)) (is : IsSearch blocks root lines marks (Enter place ∷ turns))
        (more : (name : List ℕ) → noted new name ≡ option_or (noted lines name) (dated_line name (own blocks name place))) where
      abbrev used : List ℕ
      used = used_at blocks place

      was-open : (name : List ℕ) → IsOpen new name → IsOpen lines name
      was-open name free = (free.0, (or-nothing (noted lines name) _ (sym (more name) ∙ free.1)).0)

      no-own : (name : List ℕ) → IsOpen new name → own blocks name place ≡ None
      no-own name free = sym (line-dated name (own blocks name place) free.0) ∙ (or-nothing (noted lines name) _ (sym (more name) ∙ free.1)).1

      closes : (name : List ℕ) → IsOpen new name → AreEmpty blocks name used → given blocks name place ≡ []
      closes name free empty =
          given-is blocks inherited name place free.0
          ∙ ap (λ (text : Option (List ℕ)). option_to_list text ++ first_given (map (given blocks name) used)) (no-own name free)
          ∙ empty-first blocks name used empty

      found-more : (name : List ℕ) → is_dated name ≡ true → first_text blocks name (place ∷ to_enter turns)
          ≡ option_or (own blocks name place) (first_text blocks name (used ++ to_enter turns))
      found-more name dated =
          ap (λ (texts : List (List ℕ)). slice_get (first_given (texts ∷ map (given blocks name) (to_enter turns))) 0) (given-is blocks inherited name place dated)
          ∙ by_own (own blocks name place)
        where
          by_own : (text : Option (List ℕ)) → slice_get (first_given ((option_to_list text ++ first_given (map (given blocks name) used)) ∷ map (given blocks name) (to_enter turns))) 0
              ≡ option_or text (first_text blocks name (used ++ to_enter turns))
          by_own (Some text) = refl
          by_own None = ap (λ (texts : List (List ℕ)). slice_get texts 0)
              (first-flat (map (given blocks name) used) (map (given blocks name) (to_enter turns)) ∙ ap first_given (sym (map-append (given blocks name) used (to_enter turns))))

      pub taken-enter : IsSearch blocks root new counted (map Enter used ++ Leave place ∷ turns)
      taken-enter = record {
        only_dated = λ name undated. more name ∙ ap (λ (found : Option (List ℕ)). option_or found (dated_line name (own blocks name place))) (is.only_dated name undated) ∙ line-undated name (own blocks name place) undated;
        found = λ name dated.
            is.found name dated ∙ or-open (noted lines name) _ _ (λ none. found-more name dated)
            ∙ sym (or-more (noted lines name) (own blocks name place) (first_text blocks name (used ++ to_enter turns)))
            ∙ ap (λ (found : Option (List ℕ)). option_or found (first_text blocks name (used ++ to_enter turns)))
            (ap (option_or (noted lines name)) (sym (line-dated name (own blocks name place) dated)) ∙ sym (more name))
            ∙ ap (λ (places : List ℕ). option_or (noted new name) (first_text blocks name places)) (sym (enters-above used (Leave place ∷ turns)));
        are_done = λ k name marked free. is.are_done k name (sym (ap (λ (ms : List ℕ). get_or ms k 0) same) ∙ marked ∙ mark) (was-open name free);
        are_closed = closed-above (IsOpen new) blocks used (Leave place ∷ turns) (
          (λ name free. closes name free.0 free.1),
          mono (λ name. IsOpen lines name × (given blocks name place ≡ [])) (λ name. IsOpen new name × AreEmpty blocks name used) blocks
              (λ name free. (was-open name free.0, closes name free.0 free.1)) turns is.are_closed,
        );
        are_turns = All-append (IsTurn blocks) (map Enter used) (Leave place ∷ turns) (All-map (IsTurn blocks) Enter used leads)
            (All-cons (IsTurn blocks) (Leave place) turns within (All-tail (IsTurn blocks) (Enter place) turns is.are_turns));
        low = λ k. subst (λ m. get_or counted.marks.items k 0 ≤ m) (sym mark) (subst (λ (ms : List ℕ). get_or ms k 0 ≤ marks.mark) (sym same) (is.low k));
        long = ap (λ (ms : List ℕ). length ms) same ∙ is.long;
      }

  -- a search that found nothing leaves done what it has done with, and after one that found a line nothing is marked
  pub marks-kept : (lines : List Line) (marks : LineMarks) → lines ≡ [] → IsSearch blocks root lines marks [] → AreMarks blocks marks
  marks-kept lines marks none is = record {
    done = subst (λ (ls : List Line). AreDone blocks ls marks.marks.items marks.mark) none is.are_done;
    low = is.low;
    long = is.long;
  }

  pub marks-new : (lines : List Line) (marks new : LineMarks) → new.marks.items ≡ marks.marks.items → new.mark ≡ marks.mark + 1 → IsSearch blocks root lines marks [] → AreMarks blocks new
  marks-new lines marks new same mark is = record {
    done = λ place name marked free. absurd (never place (is.low place) (sym (ap (λ (ms : List ℕ). get_or ms place 0) same) ∙ marked ∙ mark));
    low = λ place. subst (λ m. get_or new.marks.items place 0 ≤ m) (sym mark) (subst (λ (ms : List ℕ). get_or ms place 0 ≤ marks.mark + 1) (sym same) (up place (is.low place)));
    long = ap (λ (ms : List ℕ). length ms) same ∙ is.long;
  }
    where
      never : (place : ℕ) → get_or marks.marks.items place 0 ≤ marks.mark → get_or marks.marks.items place 0 ≡ marks.mark + 1 → ⊥
      never place low is = omega (arith, low, is)

      up : (place : ℕ) → get_or marks.marks.items place 0 ≤ marks.mark → get_or marks.marks.items place 0 ≤ marks.mark + 1
      up place low = omega (arith, low)
