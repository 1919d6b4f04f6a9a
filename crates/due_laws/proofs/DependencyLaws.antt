-- A dependency fails exactly where a chain of entries leads to a listed state. A chain is kept as the places of its entries in the list.
use Rattle.std.proofs.Common.{◌≡◌, ◌↔◌, ℕ, zero, suc, Bool, true, ◌==◌, ◌&&◌, ◌||◌, List, [], ◌∷◌, ◌++◌, length, slice_get, Contains, Some, refl, ap, ap₂, ◌∙◌, eqb-true, ◌⊎◌, inl, inr}
use Rattle.std.proofs.lemmas.Bool.{and_parts, or_cases}
use Rattle.std.proofs.lemmas.List.Elements.{All-nil, All-cons, All-head, All-tail}
use Rattle.std.proofs.lemmas.List.Folds.{Any-from_list_any}
use Rattle.std.proofs.lemmas.Option.{slice_get-get_or}
use Rattle.due_model.specs.declared.config.Config.{Config}
use Rattle.due_model.specs.declared.config.Dependency.{Dependency}
use Rattle.due_model.specs.declared.state.State.{State}
use Rattle.due_model.specs.declared.zone.Zone.{Zone}
use Rattle.due_model.specs.claims.Dependencies.{dependency_fails, entry_fails, fails_at}
use Rattle.due_model.specs.claims.Periods.{in_period}
use Rattle.due_laws.specs.Dependencies.{IsFailingChain}
use Rattle.lemmas.proofs.Dependencies.{Leads as LeadsAlong, leads_fails}

head_is : {x y : ℕ} {xs ys : List ℕ} → x ∷ xs ≡ y ∷ ys → x ≡ y
head_is h = cc

tail_is : {x y : ℕ} {xs ys : List ℕ} → x ∷ xs ≡ y ∷ ys → xs ≡ ys
tail_is h = cc

module _ (c : Config) (zone : Zone) (states : ℕ → State) (t : ℕ) where
  abbrev in_time : Dependency → Bool
  in_time e = in_period c zone e.period t

  abbrev listed : Dependency → Bool
  listed e = fails_at c.choices.dep_pending e.states (states e.master.0)

  -- whether an entry makes object o fail, where `inner` says which objects fail
  abbrev fails_by : (ℕ → Bool) → ℕ → Dependency → Bool
  fails_by inner o e = e.dependent.0 == o && in_time e && (listed e || e.inherits && inner e.master.0)

  -- the entries at these places are a chain from object o
  abbrev Leads : ℕ → List ℕ → Type 0
  Leads o ns = LeadsAlong c zone states t o ns

  -- the places of the entries of a chain
  place_of : (e : Dependency) → Contains c.dependencies e → (n : ℕ) × (slice_get c.dependencies n ≡ Some e)
  place_of e (n, within, is) = (n, slice_get-get_or c.dependencies n e within ∙ ap Some is)

  places_of : (front : List Dependency) (last : Dependency) (o : ℕ) → IsFailingChain c zone states t o front last → (ns : List ℕ) × Leads o ns
  places_of [] last o h =
      let (n, at) = place_of last (All-head (Contains c.dependencies) last [] h.entries) in
      let of : last.dependent.0 ≡ o = head_is h.linked in
      (n ∷ [], (last, at, of, All-head (λ e. in_time e ≡ true) last [] h.in_time, inl (refl, h.listed)))
  places_of (e ∷ front) last o h =
      let (n, at) = place_of e (All-head (Contains c.dependencies) e (front ++ last ∷ []) h.entries) in
      let of : e.dependent.0 ≡ o = head_is h.linked in
      let rest = places_of front last e.master.0 (record {
        entries = All-tail (Contains c.dependencies) e (front ++ last ∷ []) h.entries;
        linked = tail_is h.linked;
        in_time = All-tail (λ x. in_time x ≡ true) e (front ++ last ∷ []) h.in_time;
        inherited = All-tail (λ (x : Dependency). x.inherits ≡ true) e front h.inherited;
        listed = h.listed;
      }) in
      (n ∷ rest.0, (e, at, of, All-head (λ x. in_time x ≡ true) e (front ++ last ∷ []) h.in_time, inr (All-head (λ (x : Dependency). x.inherits ≡ true) e front h.inherited, rest.1)))

  -- and the chain that an answer of the definition comes from
  abbrev Chained : ℕ → Type 0
  Chained o = (front : List Dependency) × (last : Dependency) × IsFailingChain c zone states t o front last

  chain_of_one : (o : ℕ) (e : Dependency) → Contains c.dependencies e → e.dependent.0 ≡ o → in_time e ≡ true → listed e ≡ true → Chained o
  chain_of_one o e among of now ends = (
    [],
    e,
    record {
      entries = All-cons (Contains c.dependencies) e [] among (All-nil (Contains c.dependencies));
      linked = ap (λ x. x ∷ []) of;
      in_time = All-cons (λ x. in_time x ≡ true) e [] now (All-nil (λ x. in_time x ≡ true));
      inherited = All-nil (λ (x : Dependency). x.inherits ≡ true);
      listed = ends;
    },
  )

  chain_more : (o : ℕ) (e : Dependency) → Contains c.dependencies e → e.dependent.0 ≡ o → in_time e ≡ true → e.inherits ≡ true → Chained e.master.0 → Chained o
  chain_more o e among of now inherits (front, last, h) = (
    e ∷ front,
    last,
    record {
      entries = All-cons (Contains c.dependencies) e (front ++ last ∷ []) among h.entries;
      linked = ap₂ (λ x xs. x ∷ xs) of h.linked;
      in_time = All-cons (λ x. in_time x ≡ true) e (front ++ last ∷ []) now h.in_time;
      inherited = All-cons (λ (x : Dependency). x.inherits ≡ true) e front inherits h.inherited;
      listed = h.listed;
    },
  )

  chained_by : (depth o : ℕ) → ((p : ℕ) → entry_fails depth c zone states t p ≡ true → Chained p) → (e : Dependency) → Contains c.dependencies e → e.dependent.0 ≡ o → in_time e ≡ true
      → (listed e ≡ true) ⊎ ((e.inherits && entry_fails depth c zone states t e.master.0) ≡ true) → Chained o
  chained_by depth o further e among of now (inl ends) = chain_of_one o e among of now ends
  chained_by depth o further e among of now (inr more) =
      let parts = and_parts e.inherits (entry_fails depth c zone states t e.master.0) more in
      chain_more o e among of now parts.0 (further e.master.0 parts.1)

  chained : (depth o : ℕ) → entry_fails depth c zone states t o ≡ true → Chained o
  chained zero o h = cc
  chained (suc depth) o h =
      let (k, e, within, is, test) = Any-from_list_any (fails_by (entry_fails depth c zone states t) o) c.dependencies h in
      let outer = and_parts (e.dependent.0 == o && in_time e) (listed e || e.inherits && entry_fails depth c zone states t e.master.0) test in
      let inner = and_parts (e.dependent.0 == o) (in_time e) outer.0 in
      chained_by depth o (chained depth) e (k, within, is) (eqb-true e.dependent.0 o inner.0) inner.1 (or_cases (listed e) (e.inherits && entry_fails depth c zone states t e.master.0) outer.1)

pub fails_by_chains : (c : Config) (zone : Zone) (states : ℕ → State) (t o : ℕ)
    → (dependency_fails c zone states t o ≡ true) ↔ ((front : List Dependency) × (last : Dependency) × IsFailingChain c zone states t o front last)
fails_by_chains c zone states t o = (
  λ h. chained c zone states t (length c.dependencies) o h,
  λ h. let found = places_of c zone states t h.0 h.1 o h.2 in leads_fails c zone states t o found.0 found.1,
)
