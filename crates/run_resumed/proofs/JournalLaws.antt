-- The lines of the journals, one lane after another.
use Rattle.std.proofs.Common.{◌≡◌, ℕ, ◌+◌, ◌<◌, ◌≤◌, ◌⊎◌, inl, inr, List, [], ◌∷◌, ◌++◌, flat_map, get_or, length, map, Option, None, Some, refl, sym, ap, ◌∙◌, subst, arith, append-nil, length-append}
use Rattle.std.specs.Prelude.{slice_get}
use Rattle.std.proofs.lemmas.Bool.{cases_eq}
use Rattle.std.proofs.lemmas.Grind.{flat_map-append}
use Rattle.std.proofs.lemmas.List.{get_or_append_left, get_or_push}
use Rattle.std.specs.Option.{option_map}
use Rattle.std.proofs.lemmas.Option.{slice_get_cases, slice_get_past, slice_get-get_or, slice_get-map}
use Rattle.due_model.specs.declared.config.Config.{Config}
use Rattle.due_model.specs.declared.notice.Notice.{Notice}
use Rattle.journaled.specs.Claims.{Past}
use Rattle.journaled.specs.Wrapped.{Wrapped}
use Rattle.earlier_runs.specs.declared.left.LaneState.{LaneState}
use Rattle.earlier_runs.specs.declared.tally.LaneTally.{LaneTally}
use Rattle.earlier_runs.specs.State.{past_in}
use Rattle.earlier_runs.specs.Tally.{IsTally, journal_line}
use Rattle.run_resumed.specs.JournalLines.{HasLines, IsLine, taken_by}

-- one within a list
some_within : {X : Type 0} (xs : List X) (l : ℕ) (x : X) → slice_get xs l ≡ Some x → (l < length xs) × (get_or xs l x ≡ x)
some_within {X} xs l x at = by (slice_get_cases xs l).1
  where
    same : (y : X) → slice_get xs l ≡ Some y → y ≡ x
    same y e = cc

    none_some : (x : X) → None ≡ Some x → ⊥
    none_some x e = cc

    by : ((y : X) × (l < length xs) × (slice_get xs l ≡ Some y) × (get_or xs l y ≡ y)) ⊎ ((length xs ≤ l) × (slice_get xs l ≡ None))
        → (l < length xs) × (get_or xs l x ≡ x)
    by (inl h) = (h.1, subst (λ (y : X). get_or xs l y ≡ y) (same h.0 h.2) h.3)
    by (inr h) = absurd (none_some x (sym h.1 ∙ at))

-- of a list with one more: it is among those before, or is the last
push_cases : {X : Type 0} (xs : List X) (x : X) (l : ℕ) (y : X) → slice_get (xs ++ x ∷ []) l ≡ Some y
    → (slice_get xs l ≡ Some y) ⊎ ((l ≡ length xs) × (x ≡ y))
push_cases {X} xs x l y at = by (cases_eq l (length xs))
  where
    is : (l < length (xs ++ x ∷ [])) × (get_or (xs ++ x ∷ []) l y ≡ y)
    is = some_within (xs ++ x ∷ []) l y at

    by : (l ≡ length xs) ⊎ (l ≡ length xs → ⊥) → (slice_get xs l ≡ Some y) ⊎ ((l ≡ length xs) × (x ≡ y))
    by (inl e) = inr (e, sym (get_or_push xs x y l (sym e)) ∙ is.1)
    by (inr n) =
        let long : length (xs ++ x ∷ []) ≡ length xs + 1 = length-append xs (x ∷ []) in
        let lt : l < length (xs ++ x ∷ []) = is.0 in
        let inside : l < length xs = omega (arith, long, lt, n) in
        inl (slice_get-get_or xs l y inside ∙ ap Some (sym (get_or_append_left xs (x ∷ []) y l inside) ∙ is.1))

module _ {C J : Type 0} (c : Config) (states : List LaneState) (channels : List (List (Wrapped C J))) where
  -- of no lane there is none
  pub no_lines : (text : List ℕ) → text ≡ [] → HasLines c states channels 0 text
  no_lines text empty = record {
    lines = [];
    many = refl;
    each = λ l line at. absurd (none_some line at);
    text_is = empty;
  }
    where
      none_some : (line : List ℕ) → None ≡ Some line → ⊥
      none_some line e = cc

  -- the line of one lane more
  pub line_more : (count next : ℕ) (before after : List ℕ) (one : List ℕ) → next ≡ count + 1 → HasLines c states channels count before
      → IsLine c count (slice_get states count) (slice_get channels count) one → after ≡ before ++ one → HasLines c states channels next after
  line_more count next before after one more h is grown = record {
    lines = h.lines ++ one ∷ [];
    many = length-append h.lines (one ∷ []) ∙ ap (λ (n : ℕ). n + 1) h.many ∙ sym more;
    each = λ l line at. by l line (push_cases h.lines one l line at);
    text_is = grown ∙ ap (λ (bs : List ℕ). bs ++ one) h.text_is ∙ ap (λ (bs : List ℕ). flat_map (λ (xs : List ℕ). xs) h.lines ++ bs) (sym (append-nil one))
        ∙ sym (flat_map-append (λ (xs : List ℕ). xs) h.lines (one ∷ []));
  }
    where
      by : (l : ℕ) (line : List ℕ) → (slice_get h.lines l ≡ Some line) ⊎ ((l ≡ length h.lines) × (one ≡ line))
          → IsLine c l (slice_get states l) (slice_get channels l) line
      by l line (inl at) = h.each l line at
      by l line (inr e) =
          let here : count ≡ l = sym (e.0 ∙ h.many) in
          subst (λ (k : ℕ). IsLine c k (slice_get states k) (slice_get channels k) line) here
          (subst (λ (xs : List ℕ). IsLine c count (slice_get states count) (slice_get channels count) xs) e.1 is)

-- ---- of one lane

-- of a lane of which nothing is known none is added
pub no_state_line : {C J : Type 0} (c : Config) (l place : ℕ) (states : List LaneState) (channels : Option (List (Wrapped C J))) (before after : List ℕ) → place ≡ l
    → length states ≤ place → after ≡ before → (line : List ℕ) × (after ≡ before ++ line) × IsLine c l (slice_get states l) channels line
no_state_line {C} {J} c l place states channels before after here past same =
    let none : slice_get states l ≡ None = slice_get_past states l (subst (λ (n : ℕ). length states ≤ n) here past) in
    ([], same ∙ sym (append-nil before), subst (λ (o : Option LaneState). IsLine c l o channels []) (sym none) refl)

-- nor of one that has no channels
pub no_channels_line : {C J V : Type 0} (items : V → List (Wrapped C J)) (c : Config) (l place : ℕ) (state : Option LaneState) (channels : List V) (before after : List ℕ) → place ≡ l
    → length channels ≤ place → after ≡ before → (line : List ℕ) × (after ≡ before ++ line) × IsLine c l state (slice_get (map items channels) l) line
no_channels_line {C} {J} {V} items c l place state channels before after here past same =
    let none : slice_get (map items channels) l ≡ None =
    slice_get-map items channels l ∙ ap (option_map items) (slice_get_past channels l (subst (λ (n : ℕ). length channels ≤ n) here past)) in
    ([], same ∙ sym (append-nil before), subst (λ (o : Option (List (Wrapped C J))). IsLine c l state o []) (sym none) (by state))
  where
    by : (state : Option LaneState) → IsLine {C = C} {J = J} c l state None []
    by None = refl
    by (Some s) = refl

-- that of a lane of which something is known, and which has channels
pub number_line : {C J V : Type 0} (items : V → List (Wrapped C J)) (c : Config) (l place : ℕ) (states : List LaneState) (channels : List V) (state : LaneState) (v : V)
    (of_lane : List (Wrapped C J)) (before after : List ℕ) → place ≡ l → place < length states → state ≡ get_or states place state → place < length channels
    → v ≡ get_or channels place v → of_lane ≡ items v → (line : List ℕ) × (after ≡ before ++ line) × IsLine c l (Some state) (Some of_lane) line
    → (line : List ℕ) × (after ≡ before ++ line) × IsLine c l (slice_get states l) (slice_get (map items channels) l) line
number_line {C} {J} {V} items c l place states channels state v of_lane before after here within is within' is' same (line, grown, one) =
    let at : slice_get states l ≡ Some state = subst (λ (n : ℕ). slice_get states n ≡ Some state) here (slice_get-get_or states place state within ∙ ap Some (sym is)) in
    let found : slice_get channels l ≡ Some v = subst (λ (n : ℕ). slice_get channels n ≡ Some v) here (slice_get-get_or channels place v within' ∙ ap Some (sym is')) in
    let at' : slice_get (map items channels) l ≡ Some of_lane = slice_get-map items channels l ∙ ap (option_map items) found ∙ ap Some (sym same) in (
      line,
      grown,
      subst (λ (o : Option LaneState). IsLine c l o (slice_get (map items channels) l) line) (sym at)
          (subst (λ (o : Option (List (Wrapped C J))). IsLine c l (Some state) o line) (sym at') one),
    )

-- the line of a lane, which counts what its channels took
pub lane_line : {C J : Type 0} (c : Config) (l : ℕ) (state : LaneState) (channels : List (Wrapped C J)) (tally : LaneTally) (past : Past) (taken : List Notice)
    (before after : List ℕ) → past ≡ past_in state → taken ≡ taken_by channels → IsTally past taken tally → tally.earlier ≡ state.earlier
    → after ≡ before ++ journal_line c l tally → (line : List ℕ) × (after ≡ before ++ line) × IsLine c l (Some state) (Some channels) line
lane_line {C} {J} c l state channels tally past taken before after same took is earlier grown = (
  journal_line c l tally,
  grown,
  (
    tally,
    subst (λ (x : Past). IsTally x (taken_by channels) tally) same (subst (λ (ns : List Notice). IsTally past ns tally) took is),
    earlier,
    refl,
  ),
)
