-- A walk through the entries that an object's chains reach, and that it answers as the definition does.
use Rattle.std.proofs.Common.{◌≡◌, ◌≢◌, ℕ, zero, suc, ◌+◌, ◌<◌, ◌≤◌, Bool, true, false, cond, eqb, ◌==◌, ◌&&◌, ◌||◌, List, [], ◌∷◌, ◌++◌, length, map, filter, get_or, take, refl, sym, ap, subst, ◌∙◌, inl, inr, ⊎_elim, arith, append_assoc}
use Rattle.std.specs.Prelude.{All, AllPairs, Contains}
use Rattle.std.specs.List.{list_any}
use Rattle.std.proofs.lemmas.Bool.{cases_lt, eqb-true, or_left, or_right}
use Rattle.std.proofs.lemmas.Bool.Decides.{Decides-eqb}
use Rattle.std.proofs.lemmas.Map.Made.{IsDistinct-from_AllPairs}
use Rattle.std.proofs.lemmas.Map.Steps.{length-le_from_distinct_below}
use Rattle.std.proofs.lemmas.Map.Views.{Contains-from_any}
use Rattle.std.proofs.lemmas.List.{append-nil, get_or_append_left, get_or_default, map-append, take_more}
use Rattle.std.proofs.lemmas.List.Elements.{All-filter, All-get_or, All-head, All-tail, All-weaker, Contains-get_or, Contains-append_left, Contains-append_right, Contains-append_cases, filter-append}
use Rattle.std.proofs.lemmas.List.Folds.{list_any-append, list_any_at, list_any_none}
use Rattle.graph.specs.Reach.{Gains}
use Rattle.due_model.specs.declared.config.Config.{Config}
use Rattle.due_model.specs.declared.config.Dependency.{Dependency}
use Rattle.due_model.specs.declared.state.State.{State}
use Rattle.due_model.specs.declared.zone.Zone.{Zone}
use Rattle.due_model.specs.claims.Accepted.{DependencyFits, IsAccepted}
use Rattle.due_model.specs.ByObject.{entries_of}
use Rattle.due_model.specs.claims.Dependencies.{dependency_fails, entry_fails, fails_at}
use Rattle.due_model.specs.claims.Periods.{in_period}
use Rattle.lemmas.proofs.Dependencies.{fails_at_any_depth}
use Rattle.dependency.specs.Entry.{fails_by, masters_of}
use Rattle.dependency.specs.Search.{Fails, IsWalk}

-- no more than the nodes were found
pub few_found : (nodes : ℕ) (found : List ℕ) → All (λ q. q < nodes) found → AllPairs (λ p q. p ≢ q) found → length found ≤ nodes
few_found nodes found within once = length-le_from_distinct_below found nodes (IsDistinct-from_AllPairs Decides-eqb found once)
    (λ q any. let at : Contains found q = Contains-from_any eqb-true q found any in subst (λ (p : ℕ). p < nodes) at.2 (All-get_or (λ (p : ℕ). p < nodes) found at.0 q at.1 within))

-- nothing more is found
pub Gains-none : (found : List ℕ) → Gains found [] found
Gains-none found = record {
  front = ([], sym (append-nil found));
  only = λ q at. inl at;
  each = λ q at. absurd (omega (arith, at.1));
}

-- one gain after another
pub Gains-append : (old early late found new : List ℕ) → Gains old early found → Gains found late new → Gains old (early ++ late) new
Gains-append old early late found new before after = record {
  front = (before.front.0 ++ after.front.0, after.front.1 ∙ ap (λ (front : List ℕ). front ++ after.front.0) before.front.1 ∙ append_assoc old before.front.0 after.front.0);
  only = λ q at. ⊎_elim
      (λ (there : Contains found q). ⊎_elim
      (λ (first : Contains old q). inl first)
      (λ (among : Contains early q). inr (Contains-append_left early late q among))
      (before.only q there))
      (λ (last : Contains late q). inr (Contains-append_right early late q last))
      (after.only q at);
  each = λ q at. ⊎_elim
      (λ (first : Contains early q). rw after.front.1 (Contains-append_left found after.front.0 q (before.each q first)))
      (λ (last : Contains late q). after.each q last)
      (Contains-append_cases early late q at);
}

any_of_filter : {X : Type 0} (p q r : X → Bool) (xs : List X) → list_any (λ x. p x && q x && r x) xs ≡ list_any (λ x. q x && r x) (filter p xs)
any_of_filter p q r [] = refl
any_of_filter p q r (x ∷ xs) = elim (p x) as (λ b. (b && q x && r x || list_any (λ y. p y && q y && r y) xs) ≡ list_any (λ y. q y && r y) (cond b (x ∷ filter p xs) (filter p xs))) [
  | true ↦ ap (λ b. q x && r x || b) (any_of_filter p q r xs)
  | false ↦ any_of_filter p q r xs
]

parted : (t l i m a b : Bool) → (t && (l || i && m) || (a || b)) ≡ (t && l || a || cond (t && i) (m || b) b)
parted false l i m a b = refl
parted true true i m a b = refl
parted true false false m a b = refl
parted true false true m false b = refl
parted true false true true true b = refl
parted true false true false true b = refl

-- masters, one entry more
pub masters_of-more : (c : Config) (zone : Zone) (t : ℕ) (entries : List Dependency) (i : ℕ) (d : Dependency) → i < length entries
    → masters_of c zone t (take (i + 1) entries) ≡ masters_of c zone t (take i entries) ++ masters_of c zone t (get_or entries i d ∷ [])
masters_of-more c zone t entries i d low =
    ap (masters_of c zone t) (take_more entries i d low)
    ∙ ap (map (λ (x : Dependency). x.master.0)) (filter-append (λ (x : Dependency). in_period c zone x.period t && x.inherits) (take i entries) (get_or entries i d ∷ []))
    ∙ map-append (λ (x : Dependency). x.master.0) (filter (λ (x : Dependency). in_period c zone x.period t && x.inherits) (take i entries)) (filter (λ (x : Dependency). in_period c zone x.period t && x.inherits) (get_or entries i d ∷ []))

masters_of-one : (c : Config) (zone : Zone) (t : ℕ) (e : Dependency) → masters_of c zone t (e ∷ []) ≡ cond (in_period c zone e.period t && e.inherits) (e.master.0 ∷ []) []
masters_of-one c zone t e = elim (in_period c zone e.period t && e.inherits) as (λ b. map (λ (x : Dependency). x.master.0) (cond b (e ∷ []) []) ≡ cond b (e.master.0 ∷ []) []) [ true ↦ refl | false ↦ refl ]

-- the master to which one entry leads on, where its period holds
pub masters_of-valid : (c : Config) (zone : Zone) (t : ℕ) (e : Dependency) → in_period c zone e.period t ≡ true → masters_of c zone t (e ∷ []) ≡ cond e.inherits (e.master.0 ∷ []) []
masters_of-valid c zone t e valid = masters_of-one c zone t e ∙ ap (λ b. cond (b && e.inherits) (e.master.0 ∷ []) []) valid

-- there is none where it doesn't
pub masters_of-invalid : (c : Config) (zone : Zone) (t : ℕ) (e : Dependency) → in_period c zone e.period t ≡ false → masters_of c zone t (e ∷ []) ≡ []
masters_of-invalid c zone t e invalid = masters_of-one c zone t e ∙ ap (λ b. cond (b && e.inherits) (e.master.0 ∷ []) []) invalid

-- the masters of one entry more are found
pub Gains-more : (c : Config) (zone : Zone) (t : ℕ) (entries : List Dependency) (i : ℕ) (d : Dependency) (old found new : List ℕ) → i < length entries
    → Gains old (masters_of c zone t (take i entries)) found → Gains found (masters_of c zone t (get_or entries i d ∷ [])) new → Gains old (masters_of c zone t (take (i + 1) entries)) new
Gains-more c zone t entries i d old found new low before now =
    subst (λ (masters : List ℕ). Gains old masters new) (sym (masters_of-more c zone t entries i d low))
    (Gains-append old (masters_of c zone t (take i entries)) (masters_of c zone t (get_or entries i d ∷ [])) found new before now)

-- one element more that doesn't pass
pub any_none-more : {X : Type 0} (f : X → Bool) (xs : List X) (i : ℕ) (d : X) → i < length xs → list_any f (take i xs) ≡ false → f (get_or xs i d) ≡ false
    → list_any f (take (i + 1) xs) ≡ false
any_none-more f xs i d low before now =
    ap (list_any f) (take_more xs i d low) ∙ list_any-append f (take i xs) (get_or xs i d ∷ []) ∙ rw (before, now) refl

-- each entry of an object fits
pub fits-own : (c : Config) (p : ℕ) → IsAccepted c → All (DependencyFits c) (entries_of c.dependencies p)
fits-own c p accepted = All-filter (λ (x : Dependency). eqb x.dependent.0 p) (DependencyFits c) c.dependencies accepted.dependencies

-- an object beyond all has no entries
none_beyond : (objects p : ℕ) (dependencies : List Dependency) → objects ≤ p → All (λ e. e.dependent.0 < objects) dependencies → entries_of dependencies p ≡ []
none_beyond objects p [] past within = refl
none_beyond objects p (e ∷ dependencies) past within =
    let low : e.dependent.0 < objects = All-head (λ (x : Dependency). x.dependent.0 < objects) e dependencies within in
    elim (eqb e.dependent.0 p) as (λ b. eqb e.dependent.0 p ≡ b → cond b (e ∷ entries_of dependencies p) (entries_of dependencies p) ≡ []) [
      | true ↦ λ same. absurd (omega (arith, low, past, eqb-true e.dependent.0 p same))
      | false ↦ λ other. none_beyond objects p dependencies past (All-tail (λ (x : Dependency). x.dependent.0 < objects) e dependencies within)
    ] refl

-- an object that has an entry is there
pub is_there : (c : Config) (p : ℕ) (entries : List Dependency) → IsAccepted c → entries ≡ entries_of c.dependencies p → false ≡ (length entries == 0) → p < length c.objects
is_there c p entries accepted are some = ⊎_elim
    (λ (low : p < length c.objects). low)
    (λ (past : length c.objects ≤ p).
    let none : entries ≡ [] =
    are ∙ none_beyond (length c.objects) p c.dependencies past (All-weaker (DependencyFits c) (λ (x : Dependency). x.dependent.0 < length c.objects) (λ d fits. fits.dependent) c.dependencies accepted.dependencies) in
    let both : false ≡ true = some ∙ ap (λ (es : List Dependency). length es == 0) none in
    absurd (cc))
    (cases_lt p (length c.objects))

module _ (c : Config) (zone : Zone) (states : ℕ → State) (t : ℕ) where
  abbrev fails_in : ℕ → ℕ → Bool
  fails_in depth = entry_fails depth c zone states t

  masters-cons : (f : ℕ → Bool) (e : Dependency) (es : List Dependency)
      → list_any f (masters_of c zone t (e ∷ es)) ≡ cond (in_period c zone e.period t && e.inherits) (f e.master.0 || list_any f (masters_of c zone t es)) (list_any f (masters_of c zone t es))
  masters-cons f e es = elim (in_period c zone e.period t && e.inherits) as (λ b.
      list_any f (map (λ (x : Dependency). x.master.0) (cond b (e ∷ filter (λ (x : Dependency). in_period c zone x.period t && x.inherits) es) (filter (λ (x : Dependency). in_period c zone x.period t && x.inherits) es)))
      ≡ cond b (f e.master.0 || list_any f (masters_of c zone t es)) (list_any f (masters_of c zone t es))) [ true ↦ refl | false ↦ refl ]

  any_parted : (f : ℕ → Bool) (es : List Dependency)
      → list_any (λ e. in_period c zone e.period t && (fails_at c.choices.dep_pending e.states (states e.master.0) || e.inherits && f e.master.0)) es
      ≡ (list_any (fails_by c zone states t) es || list_any f (masters_of c zone t es))
  any_parted f [] = refl
  any_parted f (e ∷ es) =
      ap (λ b. in_period c zone e.period t && (fails_at c.choices.dep_pending e.states (states e.master.0) || e.inherits && f e.master.0) || b) (any_parted f es)
      ∙ parted (in_period c zone e.period t) (fails_at c.choices.dep_pending e.states (states e.master.0)) e.inherits (f e.master.0) (list_any (fails_by c zone states t) es) (list_any f (masters_of c zone t es))
      ∙ ap (λ b. fails_by c zone states t e || list_any (fails_by c zone states t) es || b) (sym (masters-cons f e es))

  abbrev own : ℕ → List Dependency
  own p = entries_of c.dependencies p

  -- one entry, and then a chain that is one shorter
  fails-step : (depth p : ℕ) → fails_in (suc depth) p ≡ (list_any (fails_by c zone states t) (own p) || list_any (fails_in depth) (masters_of c zone t (own p)))
  fails-step depth p =
      any_of_filter (λ (e : Dependency). e.dependent.0 == p) (λ e. in_period c zone e.period t) (λ e. fails_at c.choices.dep_pending e.states (states e.master.0) || e.inherits && fails_in depth e.master.0) c.dependencies
      ∙ any_parted (fails_in depth) (entries_of c.dependencies p)

  Fails-one : (p : ℕ) → list_any (fails_by c zone states t) (own p) ≡ true → Fails c zone states t p
  Fails-one p is = (1, fails-step 0 p ∙ or_left (list_any (fails_by c zone states t) (own p)) (list_any (fails_in 0) (masters_of c zone t (own p))) is)

  Fails-on : (p q : ℕ) → Contains (masters_of c zone t (own p)) q → Fails c zone states t q → Fails c zone states t p
  Fails-on p q at (depth, is) =
      let masters = masters_of c zone t (own p) in
      let one : list_any (fails_in depth) masters ≡ true = list_any_at (fails_in depth) masters at.0 q at.1 (ap (fails_in depth) at.2 ∙ is) in
      (suc depth, fails-step depth p ∙ or_right (list_any (fails_by c zone states t) (own p)) (list_any (fails_in depth) masters) one)

  -- an object that isn't there has no dependencies
  pub fails-alone : (p : ℕ) → own p ≡ [] → dependency_fails c zone states t p ≡ false
  fails-alone p none = at_depth (length c.dependencies)
    where
      at_depth : (depth : ℕ) → fails_in depth p ≡ false
      at_depth zero = refl
      at_depth (suc depth) = fails-step depth p
          ∙ ap (λ es. list_any (fails_by c zone states t) es || list_any (fails_in depth) (masters_of c zone t es)) none

  pub IsWalk-start : (from : ℕ) (old nodes found : List ℕ) → Gains old nodes found → old ≡ [] → nodes ≡ from ∷ [] → IsWalk c zone states t from 0 found
  IsWalk-start from old nodes found gained none one =
      let gains : Gains [] (from ∷ []) found = rw (← one, ← none) gained in
      record {
        start = gains.each from (0, omega arith, refl);
        reached = λ q at fails. ⊎_elim
            (λ (none : Contains [] q). absurd (omega (arith, none.1)))
            (λ (one : Contains (from ∷ []) q). subst (λ (x : ℕ). Fails c zone states t x) (sym (only_one q one)) fails)
            (gains.only q at);
        passed = λ k low. absurd (omega (arith, low));
        seen = λ k q low at. absurd (omega (arith, low));
      }
    where
      only_one : (q : ℕ) → Contains (from ∷ []) q → from ≡ q
      only_one q (zero, within, at) = at
      only_one q (suc k, within, at) = absurd (omega (arith, within))

  -- object p has its turn
  module _ (from turn : ℕ) (found : List ℕ) (p : ℕ) (low : turn < length found) (next : p ≡ get_or found turn 0)
      (is : IsWalk c zone states t from turn found) where
    among : Contains found p
    among = subst (Contains found) (sym next) (Contains-get_or found turn 0 low)

    -- it fails by itself
    pub IsWalk-fails : list_any (fails_by c zone states t) (own p) ≡ true → dependency_fails c zone states t from ≡ true
    IsWalk-fails fails = let there = is.reached p among (Fails-one p fails) in fails_at_any_depth c zone states t there.0 from there.1

    -- it doesn't
    pub IsWalk-more : (new : List ℕ) → list_any (fails_by c zone states t) (own p) ≡ false → Gains found (masters_of c zone t (own p)) new → IsWalk c zone states t from (turn + 1) new
    IsWalk-more new none gains =
        let stays : (q : ℕ) → Contains found q → Contains new q = λ q at. rw gains.front.1 (Contains-append_left found gains.front.0 q at) in
        let same : (k : ℕ) → k < length found → get_or new k 0 ≡ get_or found k 0 =
        λ k within. ap (λ (xs : List ℕ). get_or xs k 0) gains.front.1 ∙ get_or_append_left found gains.front.0 0 k within in
        let now : (k : ℕ) → k ≡ turn → get_or new k 0 ≡ p =
        λ k is_turn. same k (omega (arith, low, is_turn)) ∙ ap (λ (i : ℕ). get_or found i 0) is_turn ∙ sym next in
        record {
          start = stays from is.start;
          reached = λ q at fails. ⊎_elim
              (λ (old : Contains found q). is.reached q old fails)
              (λ (master : Contains (masters_of c zone t (own p)) q). is.reached p among (Fails-on p q master fails))
              (gains.only q at);
          passed = λ k before. ⊎_elim
              (λ (early : k < turn). ap (λ (x : ℕ). list_any (fails_by c zone states t) (own x)) (same k (omega (arith, early, low))) ∙ is.passed k early)
              (λ (late : turn ≤ k). ap (λ (x : ℕ). list_any (fails_by c zone states t) (own x)) (now k (omega (arith, late, before))) ∙ none)
              (cases_lt k turn);
          seen = λ k q before at. ⊎_elim
              (λ (early : k < turn). stays q (is.seen k q early (subst (λ (x : ℕ). Contains (masters_of c zone t (own x)) q) (same k (omega (arith, early, low))) at)))
              (λ (late : turn ≤ k). gains.each q (subst (λ (x : ℕ). Contains (masters_of c zone t (own x)) q) (now k (omega (arith, late, before))) at))
              (cases_lt k turn);
        }

  -- all that was found had its turn
  pub IsWalk-end : (from turn : ℕ) (found : List ℕ) → IsWalk c zone states t from turn found → length found ≤ turn → dependency_fails c zone states t from ≡ false
  IsWalk-end from turn found is over = at_depth (length c.dependencies) from is.start
    where
      at_depth : (depth p : ℕ) → Contains found p → fails_in depth p ≡ false
      at_depth zero p at = refl
      at_depth (suc depth) p at =
          let here : get_or found at.0 0 ≡ p = get_or_default found at.0 0 p at.1 ∙ at.2 in
          let before : at.0 < turn = omega (arith, at.1) in
          let none : list_any (fails_by c zone states t) (own p) ≡ false = subst (λ (x : ℕ). list_any (fails_by c zone states t) (own x) ≡ false) here (is.passed at.0 before) in
          let masters = masters_of c zone t (own p) in
          let more : list_any (fails_in depth) masters ≡ false = list_any_none (fails_in depth) masters (λ k d within. at_depth depth (get_or masters k d)
          (is.seen at.0 (get_or masters k d) before (subst (λ (x : ℕ). Contains (masters_of c zone t (own x)) (get_or masters k d)) (sym here) (Contains-get_or masters k d within)))) in
          fails-step depth p ∙ ap (λ b. b || list_any (fails_in depth) masters) none ∙ more
