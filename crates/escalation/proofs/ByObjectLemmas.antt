-- The escalations that stand at the places of an object.
use Rattle.std.proofs.Common.{◌≡◌, ℕ, zero, suc, ◌+◌, ◌<◌, ◌≤◌, Bool, true, false, cond, eqb, List, [], ◌∷◌, ◌++◌, length, filter, take, Some, slice_get, refl, sym, ap, subst, ◌∙◌, arith}
use Rattle.std.specs.Prelude.{All}
use Rattle.std.specs.List.{filter_map, range_with_len}
use Rattle.std.proofs.lemmas.List.{take_all, take_more}
use Rattle.std.proofs.lemmas.List.Elements.{All-filter, filter-append, filter_map-append}
use Rattle.std.proofs.lemmas.List.FromFn.{get_or-range_with_len, length-range_with_len}
use Rattle.std.proofs.lemmas.Option.{get_or_from_slice_get, slice_get_within}
use Rattle.lemmas.proofs.Lists.{filter_range_more, some_at}
use Rattle.due_model.specs.declared.config.Escalation.{Escalation}
use Rattle.due_model.specs.ByObject.{is_of, places_below, places_of}

-- whether the escalation at a place is one of object o, where it is known
of_at : (es : List Escalation) (o i : ℕ) (e : Escalation) → slice_get es i ≡ Some e → is_of es o i ≡ eqb e.object.0 o
of_at es o i e at = rw (is_of, at) refl

pub take_one : {X : Type 0} (xs : List X) (i : ℕ) (x : X) → slice_get xs i ≡ Some x → take (i + 1) xs ≡ take i xs ++ x ∷ []
take_one {X} xs i x at = take_more xs i x (slice_get_within xs i x at) ∙ ap (λ (y : X). take i xs ++ y ∷ []) (get_or_from_slice_get xs i x x at)

-- what stands at one place, if it is read
at_one : (es : List Escalation) (i : ℕ) (e : Escalation) (b : Bool) → slice_get es i ≡ Some e → filter_map (slice_get es) (cond b (i ∷ []) []) ≡ cond b (e ∷ []) []
at_one es i e true at = rw at refl
at_one es i e false at = refl

at_places_below : (es : List Escalation) (o n : ℕ) → n ≤ length es
    → filter_map (slice_get es) (places_below es n o) ≡ filter (λ e. eqb e.object.0 o) (take n es)
at_places_below es o zero few = refl
at_places_below es o (suc n) few =
    let one : suc n ≡ n + 1 = omega arith in
    let found = some_at es n (omega arith) in
    let e : Escalation = found.0 in
    let rest = at_places_below es o n (omega arith) in
    subst (λ (m : ℕ). filter_map (slice_get es) (places_below es m o) ≡ filter (λ (x : Escalation). eqb x.object.0 o) (take m es)) (sym one) (
    ap (filter_map (slice_get es)) (filter_range_more (is_of es o) n ∙ ap (λ (b : Bool). places_below es n o ++ cond b (n ∷ []) []) (of_at es o n e found.1))
    ∙ filter_map-append (slice_get es) (places_below es n o) (cond (eqb e.object.0 o) (n ∷ []) [])
    ∙ ap (λ (xs : List Escalation). filter_map (slice_get es) (places_below es n o) ++ xs) (at_one es n e (eqb e.object.0 o) found.1)
    ∙ ap (λ (xs : List Escalation). xs ++ cond (eqb e.object.0 o) (e ∷ []) []) rest
    ∙ sym (ap (filter (λ (x : Escalation). eqb x.object.0 o)) (take_one es n e found.1) ∙ filter-append (λ (x : Escalation). eqb x.object.0 o) (take n es) (e ∷ [])))

-- the escalations at the places of object o are its own
pub own_at : (es : List Escalation) (o : ℕ) → filter_map (slice_get es) (places_of es o) ≡ filter (λ e. eqb e.object.0 o) es
own_at es o = at_places_below es o (length es) (omega arith) ∙ ap (filter (λ (e : Escalation). eqb e.object.0 o)) (take_all (length es) es (omega arith))

pub places_within : (es : List Escalation) (o : ℕ) → All (λ place. place < length es) (places_of es o)
places_within es o = All-filter (is_of es o) (λ place. place < length es) (range_with_len 0 (length es)) (λ k d low.
    let few : k < length es = omega (arith, low, length-range_with_len 0 (length es)) in
    omega (arith, few, get_or-range_with_len 0 (length es) k d few))
