-- What is kept of each block, by what is kept of the templates that it uses.
use Rattle.std.proofs.Common.{◌≡◌, ℕ, zero, suc, ◌+◌, ◌^◌, ◌<◌, ◌≤◌, Bool, true, false, cond, List, [], ◌∷◌, ◌++◌, append_assoc, length, map, drop, take, get_or, set, Option, Some, None, refl, sym, ap, subst, eqb, eq-eqb, inl, inr, ⊎_elim, ◌∙◌, Bor, arith}
use Rattle.std.specs.Prelude.{All, Contains, find, IfSome, is_some, reverse, slice_get, unwrap_or}
use Rattle.std.specs.Option.{option_and_then, option_map, option_to_list}
use Rattle.std.proofs.lemmas.Bool.{cases_eq, cases_lt, false≢true, ne_eqb}
use Rattle.std.proofs.lemmas.Grind.{get_or_default_zero}
use Rattle.std.proofs.lemmas.List.{append-nil, get_or_past, get_or-set_other, get_or-set_same, map-append, reverse-append, reverse-reverse}
use Rattle.graph.specs.claims.Edges.{Leads}
use Rattle.graph_order.specs.Order.{IsOrder}
use Rattle.object_reader.specs.declared.block.Block.{Block}
use Rattle.object_inheritance.specs.declared.templates.Uses.{Uses}
use Rattle.object_inheritance.specs.Faults.{AreUses, is_used}
use Rattle.object_inheritance.specs.Columns.{given_from, HasGiven, HasGivenFrom, HasKept, HasOwn, HasUsed, IsGivenAt, IsInherited, IsNext, IsOwn, line_of}
use Rattle.object_inheritance.specs.Givers.{last_at, text_at}
use Rattle.object_inheritance.specs.claims.Inherited.{first_given, given, own, own_entries, is_additive, joined_entries, list_given, sources, stays, value}
use Rattle.object_inheritance.specs.Inherited.{AreInherited}
use Rattle.object_inheritance.specs.claims.Templates.{template_graph}
use Rattle.object_values.specs.Values.{texts}
use Rattle.object_inheritance.specs.declared.givers.OwnText.{OwnText}
use Rattle.object_inheritance.specs.declared.inherited.Given.{Given}
use Rattle.object_inheritance.proofs.GiverLemmas.{last-more, take-next}
use Rattle.object_inheritance.proofs.InheritedLemmas.{given-nowhere, given-past, graph-long, sources-lead}
use Rattle.object_inheritance.proofs.LawLemmas.{own-first}
use Rattle.object_inheritance.proofs.UseLemmas.{leads-within}

-- ---- the first for which anything is given

drop-step : {X : Type 0} (xs : List X) (i : ℕ) (d : X) → i < length xs → drop i xs ≡ get_or xs i d ∷ drop (i + 1) xs
drop-step [] i d low = absurd (omega arith)
drop-step (x ∷ xs) zero d low = refl
drop-step (x ∷ xs) (suc i) d low =
    drop-step xs i d (omega arith) ∙ ap (λ (n : ℕ). get_or xs i d ∷ drop n (x ∷ xs)) (let next : suc (i + 1) ≡ suc i + 1 = omega arith in next)

pub find-here : {X : Type 0} (p : X → Bool) (xs : List X) (i : ℕ) (d : X) → i < length xs → p (get_or xs i d) ≡ true → find p (drop i xs) ≡ Some (get_or xs i d)
find-here p xs i d low is = ap (find p) (drop-step xs i d low) ∙ rw is refl

pub find-later : {X : Type 0} (p : X → Bool) (xs : List X) (i : ℕ) (d : X) → i < length xs → p (get_or xs i d) ≡ false → find p (drop i xs) ≡ find p (drop (i + 1) xs)
find-later p xs i d low is = ap (find p) (drop-step xs i d low) ∙ rw is refl

pub find-within : (P : ℕ → Type 0) (p : ℕ → Bool) (xs : List ℕ) (q : ℕ) → All P xs → find p xs ≡ Some q → P q
find-within P p [] q all is = absurd (false≢true (ap is_some is))
find-within P p (x ∷ xs) q all is =
    elim (p x) as (λ b. cond b (Some x) (find p xs) ≡ Some q → P q) [
      | true ↦ λ here. subst P (ap (λ (found : Option ℕ). unwrap_or found x) here) (all 0 0 (omega arith))
      | false ↦ λ later. find-within P p xs q (λ k d low. all (suc k) d (omega (arith, low))) later
    ] is

pub find-contains : (p : ℕ → Bool) (xs : List ℕ) (q : ℕ) → find p xs ≡ Some q → Contains xs q
find-contains p [] q is = absurd (false≢true (ap is_some is))
find-contains p (x ∷ xs) q is =
    elim (p x) as (λ b. cond b (Some x) (find p xs) ≡ Some q → Contains (x ∷ xs) q) [
      | true ↦ λ here. (0, omega arith, ap (λ (found : Option ℕ). unwrap_or found x) here)
      | false ↦ λ later. let at = find-contains p xs q later in (suc at.0, omega (arith, at.1), at.2)
    ] is

-- what is kept of a block that gives a text itself
own-gives : (blocks : List Block) (directive : List ℕ) (place : ℕ) (kept : Given) → IsOwn blocks place (own blocks directive place) (Some kept)
    → own blocks directive kept.origin ≡ Some (text_at blocks kept.origin kept.number)
own-gives blocks directive place kept is = ap (own blocks directive) is.origin ∙ sym is.text

own-given : (blocks : List Block) (directive : List ℕ) (place : ℕ) (kept : Option Given) → IsOwn blocks place (own blocks directive place) kept
    → IfSome kept (λ one. own blocks directive one.origin ≡ Some (text_at blocks one.origin one.number))
own-given blocks directive place None is = tt
own-given blocks directive place (Some kept) is = own-gives blocks directive place kept is

module _ (blocks : List Block) (directive : List ℕ) where
  first-one : (x : ℕ) (kept : Option Given) (rest : List (List (List ℕ))) (later : Option ℕ) → IsGivenAt blocks directive x kept
      → first_given rest ≡ given_from blocks directive later
      → first_given (given blocks directive x ∷ rest) ≡ given_from blocks directive (cond (is_some kept) (Some x) later)
  first-one x None rest later is others = ap (λ line. first_given (line ∷ rest)) is.line ∙ others
  first-one x (Some one) rest later is others = ap (λ line. first_given (line ∷ rest)) is.line ∙ sym is.line

  -- what the first of the places has for which anything is kept
  pub first-found : (kept : ℕ → Option Given) (places : List ℕ) → ((q : ℕ) → Contains places q → IsGivenAt blocks directive q (kept q))
      → first_given (map (given blocks directive) places) ≡ given_from blocks directive (find (λ q. is_some (kept q)) places)
  first-found kept [] each = refl
  first-found kept (x ∷ places) each =
      first-one x (kept x) _ _ (each x (0, omega arith, refl))
      (first-found kept places (λ q at. each q (suc at.0, omega (arith, at.1), at.2)))

  module _ (place : ℕ) (column : List (Option Given)) (next : IsNext blocks directive column place) (further : Option ℕ)
      (found : further ≡ find (λ q. is_some (get_or column q None)) (get_or (template_graph blocks) place [])) where
    equation : given blocks directive place ≡ option_to_list (own blocks directive place) ++ given_from blocks directive further
    equation = next.inherited.along directive place ∙ ap (λ line. option_to_list (own blocks directive place) ++ line)
        (first-found (λ q. get_or column q None) (sources blocks directive place) (λ q at. next.used q (sources-lead blocks directive place q at))
        ∙ ap (λ (b : Bool). given_from blocks directive (find (λ q. is_some (get_or column q None)) (cond b [] (get_or (template_graph blocks) place [])))) next.inherited.moves
        ∙ ap (given_from blocks directive) (sym found))

    pub given-own : (kept : Given) → get_or column place None ≡ Some kept
        → IsGivenAt blocks directive place (Some (record { origin = kept.origin; number = kept.number; further = further }))
    given-own kept is = record {
      line = equation
          ∙ ap (λ (gives : Option (List ℕ)). option_to_list gives ++ given_from blocks directive further)
          (sym (ap (option_map (λ (one : Given). text_at blocks one.origin one.number)) (sym is) ∙ next.gives.text));
      origin = ap (given blocks directive) (subst (λ (found : Option Given). IfSome found (λ one. one.origin ≡ place)) is next.gives.origin);
      gives = own-gives blocks directive place kept (subst (λ (found : Option Given). IsOwn blocks place (own blocks directive place) found) is next.gives);
    }

    none-own : get_or column place None ≡ None → own blocks directive place ≡ None
    none-own is = sym (ap (option_map (λ (one : Given). text_at blocks one.origin one.number)) (sym is) ∙ next.gives.text)

    pub given-none : get_or column place None ≡ None → further ≡ None → IsGivenAt blocks directive place None
    given-none is none = record {
      line = equation ∙ ap (λ (gives : Option (List ℕ)). option_to_list gives ++ given_from blocks directive further) (none-own is) ∙ ap (given_from blocks directive) none;
      origin = tt;
      gives = tt;
    }

    pub given-taken : (q : ℕ) → get_or column place None ≡ None → further ≡ Some q → IsGivenAt blocks directive place (get_or column q None)
    given-taken q is some =
        let taken = equation ∙ ap (λ (gives : Option (List ℕ)). option_to_list gives ++ given_from blocks directive further) (none-own is)
        ∙ ap (given_from blocks directive) some in
        let used = next.used q (find-contains (λ k. is_some (get_or column k None)) (get_or (template_graph blocks) place []) q (sym found ∙ some)) in
        record {
          line = taken ∙ used.line;
          origin = subst (λ (line : List (List ℕ)). IfSome (get_or column q None) (λ one. given blocks directive one.origin ≡ line)) (sym taken) used.origin;
          gives = used.gives;
        }

-- ---- what blocks give themselves

own-kept : (blocks : List Block) (one : OwnText) (place : ℕ) (gives : Option (List ℕ)) (kept : Option Given) → one.place ≡ place
    → gives ≡ Some (text_at blocks one.place one.number) → kept ≡ Some (record { origin = one.place; number = one.number; further = None }) → IsOwn blocks place gives kept
own-kept blocks one place gives kept here says is = record {
  text = ap (option_map (λ (x : Given). text_at blocks x.origin x.number)) is ∙ sym says;
  alone = ap (option_and_then (λ (x : Given). x.further)) is;
  origin = subst (λ (found : Option Given). IfSome found (λ x. x.origin ≡ place)) (sym is) here;
}

-- one text more in the column
pub own-written : (blocks : List Block) (texts : List OwnText) (column : List (Option Given)) (i : ℕ) (one d : OwnText) (kept : Option Given)
    → i < length texts → one ≡ get_or texts i d → one.place < length column → kept ≡ Some (record { origin = one.place; number = one.number; further = None })
    → ((place : ℕ) → IsOwn blocks place (last_at blocks (take i texts) place) (get_or column place None))
    → (place : ℕ) → IsOwn blocks place (last_at blocks (take (i + 1) texts) place) (get_or (set column one.place kept) place None)
own-written blocks texts column i one d kept low is within keeps before place =
    let last : last_at blocks (take (i + 1) texts) place ≡ cond (eqb one.place place) (Some (text_at blocks one.place one.number)) (last_at blocks (take i texts) place) =
    ap (λ (all : List OwnText). last_at blocks all place) (take-next texts i d low ∙ ap (λ (x : OwnText). take i texts ++ x ∷ []) (sym is)) ∙ last-more blocks (take i texts) one place in
    elim (cases_eq one.place place) [
      | inl same ↦ own-kept blocks one place (last_at blocks (take (i + 1) texts) place) (get_or (set column one.place kept) place None) same
          (last ∙ ap (λ (b : Bool). cond b (Some (text_at blocks one.place one.number)) (last_at blocks (take i texts) place)) (eq-eqb one.place place same))
          (ap (λ (q : ℕ). get_or (set column one.place kept) q None) (sym same) ∙ get_or-set_same column one.place kept None within ∙ keeps)
      | inr other ↦ subst (λ (gives : Option (List ℕ)). IsOwn blocks place gives (get_or (set column one.place kept) place None))
          (sym (last ∙ ap (λ (b : Bool). cond b (Some (text_at blocks one.place one.number)) (last_at blocks (take i texts) place)) (ne_eqb one.place place other)))
          (subst (λ (found : Option Given). IsOwn blocks place (last_at blocks (take i texts) place) found)
          (sym (get_or-set_other column one.place place kept None (λ same. other (sym same)))) (before place))
    ]

pub has-own : (givers blocks : List Block) (directive : List ℕ) (given : List OwnText) (column : List (Option Given)) → givers ≡ blocks
    → ((place : ℕ) → last_at givers given place ≡ own givers directive place) → ((place : ℕ) → IsOwn givers place (last_at givers given place) (get_or column place None)) → HasOwn blocks directive column
has-own givers blocks directive given column same last each = subst (λ (all : List Block). HasOwn all directive column) same
    (record { each = λ place. subst (λ (gives : Option (List ℕ)). IsOwn givers place gives (get_or column place None)) (last place) (each place) })

own-line : (blocks : List Block) (directive : List ℕ) (place : ℕ) (gives : Option (List ℕ)) (kept : Option Given) → IsOwn blocks place gives kept → option_to_list gives ≡ line_of blocks directive kept
own-line blocks directive place gives None is = ap option_to_list (sym is.text)
own-line blocks directive place gives (Some kept) is =
    ap option_to_list (sym is.text) ∙ ap (λ (further : Option ℕ). text_at blocks kept.origin kept.number ∷ given_from blocks directive further) (sym is.alone)

own-origin : (blocks : List Block) (directive : List ℕ) (place : ℕ) (kept : Option Given) → IfSome kept (λ one. one.origin ≡ place)
    → IfSome kept (λ one. given blocks directive one.origin ≡ given blocks directive place)
own-origin blocks directive place None is = tt
own-origin blocks directive place (Some kept) is = ap (given blocks directive) is

-- a directive that isn't inherited
pub stays-given : (blocks : List Block) (directive : List ℕ) (column : List (Option Given)) → AreInherited blocks → stays directive ≡ true
    → HasOwn blocks directive column → HasGiven blocks directive column
stays-given blocks directive column along is has = record {
  each = λ place. record {
    line = along directive place
        ∙ ap (λ (b : Bool). option_to_list (own blocks directive place) ++ first_given (map (given blocks directive) (cond b [] (get_or (template_graph blocks) place [])))) is
        ∙ append-nil (option_to_list (own blocks directive place))
        ∙ own-line blocks directive place (own blocks directive place) (get_or column place None) (has.each place);
    origin = own-origin blocks directive place (get_or column place None) (has.each place).origin;
    gives = own-given blocks directive place (get_or column place None) (has.each place);
  };
}

-- what is kept of a block to which nothing is given
none-kept : (blocks : List Block) (directive : List ℕ) (place : ℕ) (kept : Option Given) → given blocks directive place ≡ [] → kept ≡ None → IsGivenAt blocks directive place kept
none-kept blocks directive place kept none is =
    subst (λ (found : Option Given). IsGivenAt blocks directive place found) (sym is) (record { line = none; origin = tt; gives = tt })

-- a directive that no block gives
pub nothing-given : (blocks : List Block) (directive : List ℕ) (column : List (Option Given)) → column ≡ [] → ((place : ℕ) → own blocks directive place ≡ None) → HasGiven blocks directive column
nothing-given blocks directive column is none = record {
  each = λ place. none-kept blocks directive place (get_or column place None) (given-nowhere blocks directive none place) (ap (λ (kept : List (Option Given)). get_or kept place None) is);
}

-- ---- along the order, from its end

module _ (blocks : List Block) (directive : List ℕ) (uses : Uses) (are : AreUses blocks uses) where
  uses-order : IsOrder (template_graph blocks) uses.order.items
  uses-order = subst (λ (graph : List (List ℕ)). IsOrder graph uses.order.items) are.same are.ordered

  uses-marked : (p q : ℕ) → Leads (template_graph blocks) p q → is_used uses q ≡ true
  uses-marked p q leads = are.marked p q (subst (λ (graph : List (List ℕ)). Leads graph p q) (sym are.same) leads)

  used-done : (i : ℕ) (column : List (Option Given)) → i < length uses.order.items → HasGivenFrom blocks directive uses (i + 1) column
      → (q : ℕ) → Leads (template_graph blocks) (get_or uses.order.items i 0) q → IsGivenAt blocks directive q (get_or column q None)
  used-done i column low has q leads =
      let order = uses.order.items in
      let at = uses-order.each q (subst (λ (n : ℕ). q < n) (sym (graph-long blocks)) (leads-within blocks (get_or order i 0) q leads)) in
      let here : get_or order at.0 0 ≡ q = sym (get_or_default_zero order at.0 q at.1) ∙ at.2 in
      let later : i < at.0 = uses-order.forward i at.0 low at.1 (subst (λ (k : ℕ). Leads (template_graph blocks) (get_or order i 0) k) (sym here) leads) in
      subst (λ (k : ℕ). IsGivenAt blocks directive k (get_or column k None)) here
      (has.done at.0 (omega (arith, later)) at.1 (ap (λ (k : ℕ). is_used uses k) here ∙ uses-marked (get_or order i 0) q leads))

  next-is : (i : ℕ) (column : List (Option Given)) → i < length uses.order.items → IsInherited blocks directive
      → HasGivenFrom blocks directive uses (i + 1) column → IsNext blocks directive column (get_or uses.order.items i 0)
  next-is i column low inherited has = record {
    inherited = inherited;
    gives = has.ahead i (omega arith);
    used = used-done i column low has;
  }

  one-kept : (i : ℕ) (column : List (Option Given)) (kept : Option Given) → i < length uses.order.items → length column ≡ length blocks
      → is_used uses (get_or uses.order.items i 0) ≡ true
      → HasGivenFrom blocks directive uses (i + 1) column → IsGivenAt blocks directive (get_or uses.order.items i 0) kept
      → HasGivenFrom blocks directive uses i (set column (get_or uses.order.items i 0) kept)
  one-kept i column kept low long marked has here =
      let order = uses.order.items in
      record {
        ahead = λ j before.
            subst (λ (x : Option Given). IsOwn blocks (get_or order j 0) (own blocks directive (get_or order j 0)) x)
            (sym (get_or-set_other column (get_or order i 0) (get_or order j 0) kept None (uses-order.once j i 0 before low)))
            (has.ahead j (omega (arith, before)));
        done = λ j from inside used. ⊎_elim
            (λ (later : i < j).
            subst (λ (x : Option Given). IsGivenAt blocks directive (get_or order j 0) x)
            (sym (get_or-set_other column (get_or order i 0) (get_or order j 0) kept None (λ same. uses-order.once i j 0 later inside (sym same))))
            (has.done j (omega (arith, later)) inside used))
            (λ (back : j ≤ i).
            let same : i ≡ j = omega (arith, back, from) in
            subst (λ (k : ℕ). IsGivenAt blocks directive (get_or order k 0) (get_or (set column (get_or order i 0) kept) (get_or order k 0) None)) same
            (subst (λ (x : Option Given). IsGivenAt blocks directive (get_or order i 0) x)
            (sym (get_or-set_same column (get_or order i 0) kept None
            (subst (λ (n : ℕ). get_or order i 0 < n) (graph-long blocks ∙ sym long) (uses-order.within i 0 low)))) here))
            (cases_lt i j);
        rest = λ place unused.
            subst (λ (x : Option Given). IsOwn blocks place (own blocks directive place) x)
            (sym (get_or-set_other column (get_or order i 0) place kept None
            (λ (same : place ≡ get_or order i 0). false≢true (sym unused ∙ ap (λ (k : ℕ). is_used uses k) same ∙ marked))))
            (has.rest place unused);
      }

  -- one block more that others use, from the end of the order
  pub one-more : (i left : ℕ) (column seen : List (Option Given)) (kept : Option Given) → left ≡ i + 1 → i < length uses.order.items → length column ≡ length blocks
      → is_used uses (get_or uses.order.items i 0) ≡ true
      → IsInherited blocks directive → HasGivenFrom blocks directive uses left column → seen ≡ column
      → (IsNext blocks directive seen (get_or uses.order.items i 0) → IsGivenAt blocks directive (get_or uses.order.items i 0) kept)
      → HasGivenFrom blocks directive uses i (set column (get_or uses.order.items i 0) kept)
  one-more i left column seen kept is low long marked inherited has same step =
      let all = subst (λ (n : ℕ). HasGivenFrom blocks directive uses n column) is has in
      one-kept i column kept low long marked all
      (step (subst (λ (xs : List (Option Given)). IsNext blocks directive xs (get_or uses.order.items i 0)) (sym same) (next-is i column low inherited all)))

  -- one block more that no other uses
  pub one-passed : (i left : ℕ) (column : List (Option Given)) → left ≡ i + 1 → is_used uses (get_or uses.order.items i 0) ≡ false
      → HasGivenFrom blocks directive uses left column → HasGivenFrom blocks directive uses i column
  one-passed i left column is unused has = record {
    ahead = λ j before. has.ahead j (omega (arith, before, is));
    done = λ j from inside used. ⊎_elim
        (λ (later : i < j). has.done j (omega (arith, later, is)) inside used)
        (λ (back : j ≤ i).
        let same : j ≡ i = omega (arith, back, from) in
        absurd (false≢true (sym unused ∙ ap (λ (k : ℕ). is_used uses (get_or uses.order.items k 0)) (sym same) ∙ used)))
        (cases_lt i j);
    rest = has.rest;
  }

  -- at the end of the order nothing is done yet
  pub none-yet : (left : ℕ) (column : List (Option Given)) → left ≡ length uses.order.items → HasOwn blocks directive column
      → HasGivenFrom blocks directive uses left column
  none-yet left column is has = record {
    ahead = λ j _. has.each (get_or uses.order.items j 0);
    done = λ j from inside _. absurd (omega (arith, from, inside, is));
    rest = λ place _. has.each place;
  }

  pub all-used : (column : List (Option Given)) → length blocks < 2 ^ 32 → length column ≡ length blocks → IsInherited blocks directive
      → HasGivenFrom blocks directive uses 0 column → HasUsed blocks directive uses column
  all-used column few long inherited has = record {
    inherited = inherited;
    using = are;
    few = few;
    long = long;
    done = λ place used. ⊎_elim
        (λ (low : place < length blocks).
        let at = uses-order.each place (subst (λ (n : ℕ). place < n) (sym (graph-long blocks)) low) in
        let here : get_or uses.order.items at.0 0 ≡ place = sym (get_or_default_zero uses.order.items at.0 place at.1) ∙ at.2 in
        subst (λ (k : ℕ). IsGivenAt blocks directive k (get_or column k None)) here
        (has.done at.0 (omega arith) at.1 (ap (λ (k : ℕ). is_used uses k) here ∙ used)))
        (λ (past : length blocks ≤ place).
        none-kept blocks directive place (get_or column place None) (given-past blocks directive place past) (get_or_past column place None (omega (arith, long, past))))
        (cases_lt place (length blocks));
    rest = has.rest;
  }

-- ---- what is asked of a block

-- past the column nothing is given
pub kept-past : (blocks : List Block) (directive : List ℕ) (uses : Option Uses) (column : List (Option Given)) (place : ℕ) → HasKept blocks directive uses column
    → length column ≤ place → IsGivenAt blocks directive place None
kept-past blocks directive None column place has past =
    subst (λ (kept : Option Given). IsGivenAt blocks directive place kept) (get_or_past column place None past) (has.each place)
kept-past blocks directive (Some uses) column place has past =
    none-kept blocks directive place None (given-past blocks directive place (omega (arith, past, has.long))) refl

-- where all is kept
pub kept-all : (blocks : List Block) (directive : List ℕ) (uses : Option Uses) (column : List (Option Given)) (place : ℕ) → HasKept blocks directive uses column
    → uses ≡ None → IsGivenAt blocks directive place (get_or column place None)
kept-all blocks directive uses column place has none = (subst (λ (found : Option Uses). HasKept blocks directive found column) none has).each place

-- where it is kept of blocks alone that others use
pub kept-some : (blocks : List Block) (directive : List ℕ) (uses : Option Uses) (one : Uses) (column : List (Option Given)) → HasKept blocks directive uses column
    → uses ≡ Some one → HasUsed blocks directive one column
kept-some blocks directive uses one column has some = subst (λ (found : Option Uses). HasKept blocks directive found column) some has

-- a block that no other uses
pub next-asked : (blocks : List Block) (directive : List ℕ) (uses : Uses) (column : List (Option Given)) (place : ℕ) → HasUsed blocks directive uses column
    → is_used uses place ≡ false → IsNext blocks directive column place
next-asked blocks directive uses column place has unused = record {
  inherited = has.inherited;
  gives = has.rest place unused;
  used = λ q leads. has.done q (uses-marked blocks directive uses has.using place q leads);
}

-- ---- where it comes from

-- past the column is a block to which nothing is given
pub past-none : (blocks : List Block) (directive : List ℕ) (uses : Option Uses) (column : List (Option Given)) → HasKept blocks directive uses column
    → given blocks directive (length column) ≡ []
past-none blocks directive uses column has = (kept-past blocks directive uses column (length column) has (omega arith)).line

-- a block to which nothing is given gives nothing itself
pub none-given : (blocks : List Block) (directive : List ℕ) (place : ℕ) → given blocks directive place ≡ [] → own blocks directive place ≡ None
none-given blocks directive place none = by_own (own blocks directive place) refl
  where
    by_own : (found : Option (List ℕ)) → own blocks directive place ≡ found → found ≡ None
    by_own None is = refl
    by_own (Some text) is =
        let front = own-first blocks directive place text is in
        let more : length (text ∷ front.0) ≡ 0 = ap (λ (line : List (List ℕ)). length line) (sym front.1 ∙ none) in
        absurd (omega (arith, more))

-- the block that what is kept comes from gives itself the value of the block at the place
pub origin-gives : (blocks : List Block) (directive : List ℕ) (place : ℕ) (kept : Option Given) → IsGivenAt blocks directive place kept
    → IfSome kept (λ one. own blocks directive one.origin ≡ value blocks directive place)
origin-gives blocks directive place None is = tt
origin-gives blocks directive place (Some kept) is = is.gives ∙ sym (ap (λ (line : List (List ℕ)). slice_get line 0) is.line)

-- where nothing is kept, a block to which nothing is given gives it too
pub none-gives : (blocks : List Block) (directive : List ℕ) (place origin : ℕ) (kept : Option Given) → IsGivenAt blocks directive place kept → kept ≡ None
    → given blocks directive origin ≡ [] → own blocks directive origin ≡ value blocks directive place
none-gives blocks directive place origin kept is none past =
    none-given blocks directive origin past ∙ sym (ap (λ (line : List (List ℕ)). slice_get line 0) (is.line ∙ ap (line_of blocks directive) none))

-- ---- lists

pub texts-reverse : (xs : List (Bor (List ℕ))) → texts (reverse xs) ≡ reverse (texts xs)
texts-reverse [] = refl
texts-reverse (x ∷ xs) =
    ap texts (reverse-append (x ∷ []) xs) ∙ map-append (λ text. text.now) (reverse xs) (x ∷ [])
    ∙ ap (λ front. front ++ x.now ∷ []) (texts-reverse xs) ∙ sym (reverse-append (x.now ∷ []) (texts xs))

pub joined-beside : (additive : Bool) (line : List (List ℕ)) → joined_entries (cond additive line []) ≡ cond additive (joined_entries line) []
joined-beside true line = refl
joined-beside false line = refl

-- the entries of one more text, added to those so far
pub one-text : (text : List ℕ) (line beside whole old new : List (List ℕ)) → joined_entries (text ∷ line) ++ reverse old ≡ whole
    → beside ≡ cond (is_additive text) line [] → new ≡ old ++ reverse (own_entries text)
    → joined_entries beside ++ reverse new ≡ whole
one-text text line beside whole old new before is more =
    let all : reverse new ≡ own_entries text ++ reverse old =
    ap reverse more ∙ reverse-append old (reverse (own_entries text)) ∙ ap (λ own. own ++ reverse old) (reverse-reverse (own_entries text)) in
    ap (λ rest. joined_entries rest ++ reverse new) is ∙ ap (λ rest. rest ++ reverse new) (joined-beside (is_additive text) line)
    ∙ ap (λ late. cond (is_additive text) (joined_entries line) [] ++ late) all
    ∙ sym (append_assoc (cond (is_additive text) (joined_entries line) []) (own_entries text) (reverse old)) ∙ before

pub fewer : (text : List ℕ) (line beside : List (List ℕ)) → beside ≡ cond (is_additive text) line [] → length beside < length (text ∷ line)
fewer text line beside is = subst (λ rest. length rest < length (text ∷ line)) (sym is) (by_sign (is_additive text))
  where
    by_sign : (b : Bool) → length (cond b line []) < length (text ∷ line)
    by_sign true = omega arith
    by_sign false = omega arith

-- a list that isn't additive
pub plain-list : (blocks : List Block) (directive : List ℕ) (kept : Given) → is_additive (text_at blocks kept.origin kept.number) ≡ false
    → list_given (line_of blocks directive (Some kept)) ≡ Some (own_entries (text_at blocks kept.origin kept.number))
plain-list blocks directive kept is = ap (λ (b : Bool). Some (cond b (joined_entries (given_from blocks directive kept.further)) [] ++ own_entries (text_at blocks kept.origin kept.number))) is
