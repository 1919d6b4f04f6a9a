-- A dependency that fails by a chain of any length fails: a chain that comes to an entry twice is cut short, so that it has no more
-- entries than the configuration.
use Rattle.std.proofs.Common.{◌≡◌, ℕ, zero, suc, ◌<◌, ◌≤◌, Bool, true, false, eqb, ◌==◌, ◌&&◌, ◌||◌, List, [], ◌∷◌, length, slice_get, Some, refl, ap, ◌∙◌, subst, arith, eqb-true, eq-eqb, ◌⊎◌, inl, inr}
use Rattle.std.specs.List.{list_any, IsDistinct, AllByRecursion}
use Rattle.std.proofs.lemmas.Bool.{and_parts, and_from, or_cases, or_left, or_parts, or_right, cases_Bool}
use Rattle.std.proofs.lemmas.List.Folds.{Any-from_list_any}
use Rattle.std.proofs.lemmas.Map.Keys.{any_passes_from_place}
use Rattle.std.proofs.lemmas.Map.Steps.{length-le_from_distinct_below}
use Rattle.std.proofs.lemmas.Option.{slice_get_within, slice_get-get_or}
use Rattle.due_model.specs.declared.config.Config.{Config}
use Rattle.due_model.specs.declared.config.Dependency.{Dependency}
use Rattle.due_model.specs.declared.state.State.{State}
use Rattle.due_model.specs.declared.zone.Zone.{Zone}
use Rattle.due_model.specs.claims.Dependencies.{dependency_fails, entry_fails, fails_at}
use Rattle.due_model.specs.claims.Periods.{in_period}

-- what no element passes, each fails
pub each_fails : {X : Type 0} (test : X → Bool) (xs : List X) → list_any test xs ≡ false → AllByRecursion (λ x. test x ≡ false) xs
each_fails test [] h = tt
each_fails test (x ∷ xs) h = let parts = or_parts (test x) (list_any test xs) h in (parts.0, each_fails test xs parts.1)

distinct_cons : (n : ℕ) (ns : List ℕ) → list_any (eqb n) ns ≡ false → IsDistinct eqb ns → IsDistinct eqb (n ∷ ns)
unfolding IsDistinct
distinct_cons n ns new distinct = (each_fails (eqb n) ns new, distinct)

module _ (c : Config) (zone : Zone) (states : ℕ → State) (t : ℕ) where
  abbrev in_time : Dependency → Bool
  in_time e = in_period c zone e.period t

  abbrev listed : Dependency → Bool
  listed e = fails_at c.choices.dep_pending e.states (states e.master.0)

  -- whether an entry makes object o fail, where `inner` says which objects fail
  abbrev fails_by : (ℕ → Bool) → ℕ → Dependency → Bool
  fails_by inner o e = e.dependent.0 == o && in_time e && (listed e || e.inherits && inner e.master.0)

  -- the entries at these places are a chain from object o
  abbrev pub Leads : ℕ → List ℕ → Type 0
  Leads o [] = ⊥
  Leads o (n ∷ ns) = (e : Dependency) × (slice_get c.dependencies n ≡ Some e) × (e.dependent.0 ≡ o) × (in_time e ≡ true)
      × (((ns ≡ []) × (listed e ≡ true)) ⊎ ((e.inherits ≡ true) × Leads e.master.0 ns))

  fails_why : (depth : ℕ) (e : Dependency) (ns : List ℕ) → (((ns ≡ []) × (listed e ≡ true)) ⊎ ((e.inherits ≡ true) × Leads e.master.0 ns))
      → (Leads e.master.0 ns → entry_fails depth c zone states t e.master.0 ≡ true) → (listed e || e.inherits && entry_fails depth c zone states t e.master.0) ≡ true
  fails_why depth e ns (inl (last, is)) further = or_left (listed e) (e.inherits && entry_fails depth c zone states t e.master.0) is
  fails_why depth e ns (inr (inherits, more)) further =
      or_right (listed e) (e.inherits && entry_fails depth c zone states t e.master.0) (and_from e.inherits (entry_fails depth c zone states t e.master.0) inherits (further more))

  -- a chain makes the definition fail, at a depth of its length
  fails_from : (depth o : ℕ) (ns : List ℕ) → length ns ≤ depth → Leads o ns → entry_fails depth c zone states t o ≡ true
  fails_from zero o [] few h = absurd h
  fails_from zero o (n ∷ ns) few h = absurd (omega (arith, few))
  fails_from (suc depth) o [] few h = absurd h
  fails_from (suc depth) o (n ∷ ns) few (e, at, of, now, why) =
      any_passes_from_place (fails_by (entry_fails depth c zone states t) o) c.dependencies n e at
      (and_from (e.dependent.0 == o && in_time e) (listed e || e.inherits && entry_fails depth c zone states t e.master.0)
      (and_from (e.dependent.0 == o) (in_time e) (eq-eqb e.dependent.0 o of) now)
      (fails_why depth e ns why (fails_from depth e.master.0 ns (omega (arith, few)))))

  -- the part of a chain from one of its places on
  record PartFrom (n : ℕ) : Type 0 where
    pub entry : Dependency
    pub at : slice_get c.dependencies n ≡ Some entry
    pub places : List ℕ
    pub leads : Leads entry.dependent.0 places
    pub distinct : IsDistinct eqb places

  part_here : (o n m : ℕ) (ns : List ℕ) → n ≡ m → Leads o (m ∷ ns) → IsDistinct eqb (m ∷ ns) → PartFrom n
  part_here o n m ns same (e, at, of, now, why) distinct =
      record { entry = e; at = ap (slice_get c.dependencies) same ∙ at; places = m ∷ ns; leads = (e, at, refl, now, why); distinct = distinct }

  part_on : (o n m : ℕ) (ns : List ℕ) → ((o' : ℕ) → Leads o' ns → IsDistinct eqb ns → list_any (eqb n) ns ≡ true → PartFrom n)
      → (b : Bool) → eqb n m ≡ b → Leads o (m ∷ ns) → IsDistinct eqb (m ∷ ns) → (b || list_any (eqb n) ns) ≡ true → PartFrom n
  unfolding IsDistinct
  part_on o n m ns further true is leads distinct found = part_here o n m ns (eqb-true n m is) leads distinct
  part_on o n m ns further false is (e, at, of, now, inl (last, ends)) distinct found =
      let none : list_any (eqb n) ns ≡ false = ap (list_any (eqb n)) last in cc
  part_on o n m ns further false is (e, at, of, now, inr (inherits, more)) distinct found = further e.master.0 more distinct.1 found

  part_from : (n : ℕ) (ns : List ℕ) (o : ℕ) → Leads o ns → IsDistinct eqb ns → list_any (eqb n) ns ≡ true → PartFrom n
  part_from n [] o leads distinct found = absurd leads
  part_from n (m ∷ ns) o leads distinct found = part_on o n m ns (part_from n ns) (eqb n m) refl leads distinct found

  -- a chain that comes to no place twice
  abbrev Short : ℕ → Type 0
  Short o = (ns : List ℕ) × Leads o ns × IsDistinct eqb ns

  one_more : (o n : ℕ) (e : Dependency) → slice_get c.dependencies n ≡ Some e → e.dependent.0 ≡ o → in_time e ≡ true → e.inherits ≡ true → Short e.master.0
      → Short o
  one_more o n e at of now inherits (ns, leads, distinct) = by_place (cases_Bool (list_any (eqb n) ns))
    where
      by_place : (list_any (eqb n) ns ≡ true) ⊎ (list_any (eqb n) ns ≡ false) → Short o
      by_place (inl found) =
          let part = part_from n ns e.master.0 leads distinct found in
          let found_at = part.at in
          let one : part.entry ≡ e = cc in
          (part.places, subst (λ (x : ℕ). Leads x part.places) (ap (λ (d : Dependency). d.dependent.0) one ∙ of) part.leads, part.distinct)
      by_place (inr new) = (n ∷ ns, (e, at, of, now, inr (inherits, leads)), distinct_cons n ns new distinct)

  shortened : (ns : List ℕ) (o : ℕ) → Leads o ns → Short o
  unfolding IsDistinct
  shortened [] o leads = absurd leads
  shortened (n ∷ ns) o (e, at, of, now, inl (last, ends)) = (n ∷ [], (e, at, of, now, inl (refl, ends)), (tt, tt))
  shortened (n ∷ ns) o (e, at, of, now, inr (inherits, more)) = one_more o n e at of now inherits (shortened ns e.master.0 more)

  -- each place is one of the list
  place_on : (o q m : ℕ) (ns : List ℕ) → ((o' : ℕ) → Leads o' ns → list_any (eqb q) ns ≡ true → q < length c.dependencies)
      → (b : Bool) → eqb q m ≡ b → Leads o (m ∷ ns) → (b || list_any (eqb q) ns) ≡ true → q < length c.dependencies
  place_on o q m ns further true is (e, at, of, now, why) found = let same = eqb-true q m is in let within = slice_get_within c.dependencies m e at in omega (arith, same, within)
  place_on o q m ns further false is (e, at, of, now, inl (last, ends)) found = let none : list_any (eqb q) ns ≡ false = ap (list_any (eqb q)) last in cc
  place_on o q m ns further false is (e, at, of, now, inr (inherits, more)) found = further e.master.0 more found

  place_within : (q : ℕ) (ns : List ℕ) (o : ℕ) → Leads o ns → list_any (eqb q) ns ≡ true → q < length c.dependencies
  place_within q [] o leads found = absurd leads
  place_within q (m ∷ ns) o leads found = place_on o q m ns (place_within q ns) (eqb q m) refl leads found

  -- where there is a chain, a dependency fails
  pub leads_fails : (o : ℕ) (ns : List ℕ) → Leads o ns → dependency_fails c zone states t o ≡ true
  leads_fails o ns leads =
      let (ms, short, distinct) = shortened ns o leads in
      fails_from (length c.dependencies) o ms (length-le_from_distinct_below ms (length c.dependencies) distinct (λ q. place_within q ms o short)) short

  -- and a chain where the definition fails
  abbrev Placed : ℕ → Type 0
  Placed o = (ns : List ℕ) × Leads o ns

  placed_by : (depth o : ℕ) → ((p : ℕ) → entry_fails depth c zone states t p ≡ true → Placed p) → (e : Dependency) (n : ℕ) → slice_get c.dependencies n ≡ Some e
      → e.dependent.0 ≡ o → in_time e ≡ true → (listed e ≡ true) ⊎ ((e.inherits && entry_fails depth c zone states t e.master.0) ≡ true) → Placed o
  placed_by depth o further e n at of now (inl ends) = (n ∷ [], (e, at, of, now, inl (refl, ends)))
  placed_by depth o further e n at of now (inr more) =
      let parts = and_parts e.inherits (entry_fails depth c zone states t e.master.0) more in
      let rest = further e.master.0 parts.1 in
      (n ∷ rest.0, (e, at, of, now, inr (parts.0, rest.1)))

  placed : (depth o : ℕ) → entry_fails depth c zone states t o ≡ true → Placed o
  placed zero o h = cc
  placed (suc depth) o h =
      let (n, e, within, is, test) = Any-from_list_any (fails_by (entry_fails depth c zone states t) o) c.dependencies h in
      let outer = and_parts (e.dependent.0 == o && in_time e) (listed e || e.inherits && entry_fails depth c zone states t e.master.0) test in
      let inner = and_parts (e.dependent.0 == o) (in_time e) outer.0 in
      placed_by depth o (placed depth) e n (slice_get-get_or c.dependencies n e within ∙ ap Some is) (eqb-true e.dependent.0 o inner.0) inner.1
      (or_cases (listed e) (e.inherits && entry_fails depth c zone states t e.master.0) outer.1)

pub fails_at_any_depth : (c : Config) (zone : Zone) (states : ℕ → State) (t depth o : ℕ) → entry_fails depth c zone states t o ≡ true → dependency_fails c zone states t o ≡ true
fails_at_any_depth c zone states t depth o h = let found = placed c zone states t depth o h in leads_fails c zone states t o found.0 found.1
