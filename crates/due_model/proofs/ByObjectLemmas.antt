-- What the lists of objects have of some entries, one more at a time; and that of all they have what is said of escalations and of
-- dependencies.
use Rattle.std.proofs.Common.{◌≡◌, ℕ, zero, suc, ◌+◌, ◌<◌, ◌≤◌, Bool, true, false, cond, eqb, List, [], ◌∷◌, ◌++◌, length, filter, get_or, set, replicate, take, None, Some, slice_get, refl, sym, ap, subst, ◌∙◌, ⊎_elim, arith}
use Rattle.std.specs.Prelude.{All}
use Rattle.std.specs.List.{range_with_len}
use Rattle.std.proofs.lemmas.Bool.{eq-eqb, eqb-true}
use Rattle.std.proofs.lemmas.List.{append-nil, get_or-set_other, get_or-set_same, length-replicate, length-set, length-take-le, map-id, take_all, take_more}
use Rattle.std.proofs.lemmas.List.Elements.{All-get_or}
use Rattle.std.proofs.lemmas.Option.{slice_get_cases}
use Rattle.std.proofs.lemmas.List.FromFn.{filter_of_map_range_with_len_more}
use Rattle.due_model.specs.declared.config.Dependency.{Dependency}
use Rattle.due_model.specs.declared.config.Escalation.{Escalation}
use Rattle.due_model.specs.ByObject.{AreEntries, AreKept, ArePlaces, entries_of, is_of, kept_from, places_below}
use Rattle.due_model.proofs.ObjectIndex.{get_or-replicate_nil}

-- a list after a value went to the end of one
pushed : {X : Type 0} (lists : List (List X)) (n o : ℕ) (x : X) → n < length lists
    → get_or (set lists n (get_or lists n [] ++ x ∷ [])) o [] ≡ get_or lists o [] ++ cond (eqb n o) (x ∷ []) []
pushed {X} lists n o x within =
    let more : List X = get_or lists n [] ++ x ∷ [] in
    elim (eqb n o) as (λ b. eqb n o ≡ b → get_or (set lists n more) o [] ≡ get_or lists o [] ++ cond b (x ∷ []) []) [
      | true ↦ λ same. subst (λ (q : ℕ). get_or (set lists n more) q [] ≡ get_or lists q [] ++ x ∷ []) (eqb-true n o same) (get_or-set_same lists n more [] within)
      | false ↦ λ other. get_or-set_other lists n o more [] (λ is. let same : eqb n o ≡ true = eq-eqb n o (sym is) in cc) ∙ sym (append-nil (get_or lists o []))
    ] refl

-- there are so many lists, and they have what is kept of these entries
pub record HasKept {E T : Type 0} (number : E → ℕ) (kept : E → ℕ → T) (objects : ℕ) (entries : List E)
    (lists : List (List T)) : Type 0 where
  pub as_many : length lists ≡ objects
  pub each : AreKept number kept entries lists

pub HasKept-none : {E T : Type 0} (number : E → ℕ) (kept : E → ℕ → T) (objects : ℕ) → HasKept number kept objects [] (replicate objects [])
unfolding kept_from
HasKept-none {E} {T} number kept objects = record {
  as_many = length-replicate {A = List T} objects [];
  each = λ o. get_or-replicate_nil objects o;
}

kept_from-more : {E T : Type 0} (number : E → ℕ) (kept : E → ℕ → T) (o at : ℕ) (entries : List E) (e : E)
    → kept_from number kept o at (entries ++ e ∷ []) ≡ kept_from number kept o at entries ++ cond (eqb (number e) o) (kept e (at + length entries) ∷ []) []
unfolding kept_from
kept_from-more number kept o at [] e = let none : at + 0 ≡ at = omega arith in rw none refl
kept_from-more {E} {T} number kept o at (x ∷ xs) e =
    let shift : at + suc (length xs) ≡ (at + 1) + length xs = omega arith in
    let rest : kept_from number kept o (at + 1) (xs ++ e ∷ []) ≡ kept_from number kept o (at + 1) xs ++ cond (eqb (number e) o) (kept e (at + suc (length xs)) ∷ []) [] =
    rw shift (kept_from-more number kept o (at + 1) xs e) in
    elim (eqb (number x) o) as (λ (b : Bool). cond b (kept x at ∷ kept_from number kept o (at + 1) (xs ++ e ∷ [])) (kept_from number kept o (at + 1) (xs ++ e ∷ []))
    ≡ cond b (kept x at ∷ kept_from number kept o (at + 1) xs) (kept_from number kept o (at + 1) xs) ++ cond (eqb (number e) o) (kept e (at + suc (length xs)) ∷ []) []) [
      | true ↦ ap (λ (ys : List T). kept x at ∷ ys) rest
      | false ↦ rest
    ]

-- one entry more goes to the end of its object's list
pub HasKept-more : {E T : Type 0} (number : E → ℕ) (kept : E → ℕ → T) (objects : ℕ) (entries : List E) (i : ℕ) (e : E) (lists : List (List T))
    → i < length entries → e ≡ get_or entries i e → All (λ x. number x < objects) entries
    → HasKept number kept objects (take i entries) lists
    → HasKept number kept objects (take (i + 1) entries) (set lists (number e) (get_or lists (number e) [] ++ kept e i ∷ []))
HasKept-more {E} {T} number kept objects entries i e lists low is among has =
    let own : number e < objects = subst (λ (x : E). number x < objects) (sym is) (All-get_or (λ (x : E). number x < objects) entries i e low among) in
    let taken : length (take i entries) ≡ i = length-take-le i entries (omega (arith, low)) in
    let long : 0 + length (take i entries) ≡ i = omega (arith, taken) in
    let more : take (i + 1) entries ≡ take i entries ++ e ∷ [] = take_more entries i e low ∙ ap (λ (x : E). take i entries ++ x ∷ []) (sym is) in
    record {
      as_many = length-set lists (number e) (get_or lists (number e) [] ++ kept e i ∷ []) ∙ has.as_many;
      each = λ o. pushed lists (number e) o (kept e i) (omega (arith, own, has.as_many))
          ∙ ap (λ (xs : List T). xs ++ cond (eqb (number e) o) (kept e i ∷ []) []) (has.each o)
          ∙ sym (ap (kept_from number kept o 0) more ∙ kept_from-more number kept o 0 (take i entries) e
          ∙ ap (λ (place : ℕ). kept_from number kept o 0 (take i entries) ++ cond (eqb (number e) o) (kept e place ∷ []) []) long);
    }

-- ---- escalations

places_below-more : (es : List Escalation) (i o : ℕ) (e : Escalation) → slice_get es i ≡ Some e
    → places_below es (i + 1) o ≡ places_below es i o ++ cond (eqb e.object.0 o) (i ∷ []) []
places_below-more es i o e at =
    let here : is_of es o i ≡ eqb e.object.0 o = rw (is_of, at) refl in
    ap (filter (is_of es o)) (sym (map-id (range_with_len 0 (i + 1))))
    ∙ filter_of_map_range_with_len_more (is_of es o) (λ k. k) 0 i i (omega arith)
    ∙ ap (λ xs. filter (is_of es o) xs ++ cond (is_of es o i) (i ∷ []) []) (map-id (range_with_len 0 i))
    ∙ ap (λ (b : Bool). places_below es i o ++ cond b (i ∷ []) []) here

places_so_far : (o : ℕ) (es : List Escalation) (count : ℕ) → count ≤ length es
    → kept_from (λ (e : Escalation). e.object.0) (λ (_ : Escalation) place. place) o 0 (take count es) ≡ places_below es count o
unfolding kept_from
places_so_far o es zero within = refl
places_so_far o es (suc i) within =
    let one : i + 1 ≡ suc i = omega arith in
    let taken : length (take i es) ≡ i = length-take-le i es (omega (arith, within)) in
    let long : 0 + length (take i es) ≡ i = omega (arith, taken) in
    ⊎_elim
    (λ (here : (e : Escalation) × (i < length es) × (slice_get es i ≡ Some e) × (get_or es i e ≡ e)).
    subst (λ (n : ℕ). kept_from (λ (x : Escalation). x.object.0) (λ (_ : Escalation) place. place) o 0 (take n es) ≡ places_below es n o) one (
    ap (kept_from (λ (x : Escalation). x.object.0) (λ (_ : Escalation) place. place) o 0) (take_more es i here.0 here.1 ∙ ap (λ (x : Escalation). take i es ++ x ∷ []) here.3)
    ∙ kept_from-more (λ (x : Escalation). x.object.0) (λ (_ : Escalation) place. place) o 0 (take i es) here.0
    ∙ ap (λ (place : ℕ). kept_from (λ (x : Escalation). x.object.0) (λ (_ : Escalation) place. place) o 0 (take i es) ++ cond (eqb here.0.object.0 o) (place ∷ []) []) long
    ∙ ap (λ (front : List ℕ). front ++ cond (eqb here.0.object.0 o) (i ∷ []) []) (places_so_far o es i (omega (arith, within)))
    ∙ sym (places_below-more es i o here.0 here.2)))
    (λ (past : (length es ≤ i) × (slice_get es i ≡ None)). absurd (omega (arith, past.0, within)))
    (slice_get_cases es i).1

-- what is kept of escalations is their places
pub places-kept : (es : List Escalation) (lists : List (List ℕ)) → AreKept (λ (e : Escalation). e.object.0) (λ (_ : Escalation) place. place) es lists → ArePlaces es lists
places-kept es lists have = λ o. have o
    ∙ sym (ap (kept_from (λ (x : Escalation). x.object.0) (λ (_ : Escalation) place. place) o 0) (take_all (length es) es (omega arith)))
    ∙ places_so_far o es (length es) (omega arith)

-- ---- dependencies

entries_from : (o at : ℕ) (dependencies : List Dependency)
    → kept_from (λ (entry : Dependency). entry.dependent.0) (λ (entry : Dependency) _. entry) o at dependencies ≡ entries_of dependencies o
unfolding kept_from
entries_from o at [] = refl
entries_from o at (entry ∷ rest) = rw (entries_from o (at + 1) rest) refl

-- what is kept of dependencies is the entries
pub entries-kept : (dependencies : List Dependency) (lists : List (List Dependency))
    → AreKept (λ (entry : Dependency). entry.dependent.0) (λ (entry : Dependency) _. entry) dependencies lists → AreEntries dependencies lists
entries-kept dependencies lists have = λ o. have o ∙ entries_from o 0 dependencies
