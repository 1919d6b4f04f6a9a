-- The logs of the deciders, merged one after another.
use Rattle.std.proofs.Common.{◌≡◌, ℕ, ◌<◌, ◌≤◌, ◌+◌, All, Bool, true, false, not, nat_lt, cond, List, [], ◌∷◌, filter, slice_get, length, Some, refl, sym, ap, ◌∙◌, subst, ⊎_elim, arith}
use Rattle.std.proofs.lemmas.Bool.{cases_eq, lt-ltb, ltb-true}
use Rattle.std.proofs.lemmas.List.Elements.{All-cons, All-head, All-nil, All-tail}
use Rattle.std.proofs.lemmas.Option.{same_Some, slice_get_within}
use Rattle.due_model.specs.declared.notice.Suppression.{Suppression}
use Rattle.decider_thread.specs.declared.ring.DeciderEnd.{DeciderEnd}
use Rattle.engine_threads.specs.Merge.{HasBoth}
use Rattle.engine_threads.specs.Logs.{HasEach}
use Rattle.lemmas.proofs.Lists.{some_at}

-- a test keeps nothing of the logs before this place, but for one
abbrev NoneBut : (place : ℕ) → List DeciderEnd → (Suppression → Bool) → (d : ℕ) → Type 0
NoneBut place ends keeps d = (k : ℕ) (f : DeciderEnd) → k < place → ¬ (k ≡ d) → slice_get ends k ≡ Some f → filter keeps f.log.items ≡ []

-- the logs before this place were merged
pub record HasBelow (place : ℕ) (ends : List DeciderEnd) (log : List Suppression) : Type 0 where
  pub each : (keeps : Suppression → Bool) (d : ℕ) (e : DeciderEnd) → d < place → slice_get ends d ≡ Some e → NoneBut place ends keeps d → filter keeps log ≡ filter keeps e.log.items
  pub none : (keeps : Suppression → Bool) → ((k : ℕ) (f : DeciderEnd) → k < place → slice_get ends k ≡ Some f → filter keeps f.log.items ≡ []) → filter keeps log ≡ []

-- none yet
pub none_below : (ends : List DeciderEnd) → HasBelow 0 ends []
none_below ends = record {
  each = λ keeps d e lt. absurd (omega (arith, lt));
  none = λ keeps all. refl;
}

-- one more
pub one_more : (place : ℕ) (ends : List DeciderEnd) (log more : List Suppression) (e : DeciderEnd) → slice_get ends place ≡ Some e → HasBoth log e.log.items more → HasBelow place ends log → HasBelow (place + 1) ends more
one_more place ends log more e at both below = record {
  each = λ keeps d f lt at_f others. ⊎_elim
      (λ (is : d ≡ place).
      let same : e ≡ f = same_Some e f (sym at ∙ subst (λ (k : ℕ). slice_get ends k ≡ Some f) is at_f) in
      subst (λ (g : DeciderEnd). filter keeps more ≡ filter keeps g.log.items) same
      (both.of_second keeps (below.none keeps (λ k g below_k at_g. others k g (omega (arith, below_k)) (λ (here : k ≡ d). absurd (omega (arith, below_k, here, is))) at_g))))
      (λ (apart : ¬ (d ≡ place)).
      let nothing : filter keeps e.log.items ≡ [] = others place e (omega arith) (λ (here : place ≡ d). apart (sym here)) at in
      both.of_first keeps nothing ∙ below.each keeps d f (omega (arith, lt, apart)) at_f (λ k g below_k other at_g. others k g (omega (arith, below_k)) other at_g))
      (cases_eq d place);
  none = λ keeps all.
      both.of_first keeps (all place e (omega arith) at) ∙ below.none keeps (λ k g below_k at_g. all k g (omega (arith, below_k)) at_g);
}

-- all
pub all_below : (place : ℕ) (ends : List DeciderEnd) (log : List Suppression) → length ends ≤ place → HasBelow place ends log → HasEach ends log
all_below place ends log whole below keeps d e at others =
    let within = slice_get_within ends d e at in
    below.each keeps d e (omega (arith, within, whole)) at (λ k f lt other at_f. others k f other at_f)

-- ---- what is in the log of objects below a number

module _ {X : Type 0} (key : X → ℕ) (n : ℕ) where
  -- it isn't below the bound
  abbrev pub is_above : X → Bool
  is_above x = not (nat_lt (key x) n)

  pub none_above : (xs : List X) → All (λ x. key x < n) xs → filter is_above xs ≡ []
  none_above [] below = refl
  none_above (x ∷ xs) below =
      ap (λ (b : Bool). cond (not b) (x ∷ filter is_above xs) (filter is_above xs)) (lt-ltb (key x) n (All-head (λ y. key y < n) x xs below))
      ∙ none_above xs (All-tail (λ y. key y < n) x xs below)

  pub keys_below : (xs : List X) → filter is_above xs ≡ [] → All (λ x. key x < n) xs
  keys_below [] none = All-nil (λ x. key x < n)
  keys_below (x ∷ xs) none = by_test (nat_lt (key x) n) refl none (λ kept. keys_below xs kept)
    where
      by_test : (b : Bool) → nat_lt (key x) n ≡ b → cond (not b) (x ∷ filter is_above xs) (filter is_above xs) ≡ [] → (filter is_above xs ≡ [] → All (λ y. key y < n) xs) → All (λ y. key y < n) (x ∷ xs)
      by_test true is kept more = All-cons (λ y. key y < n) x xs (ltb-true (key x) n is) (more kept)
      by_test false is kept more = absurd cc

-- where each decider's log is of objects below a number, so is the log that they make
pub named_below : (n : ℕ) (ends : List DeciderEnd) (log : List Suppression) → 0 < length ends → HasEach ends log
    → ((d : ℕ) (e : DeciderEnd) → slice_get ends d ≡ Some e → All (λ s. s.object.0 < n) e.log.items) → All (λ s. s.object.0 < n) log
named_below n ends log some each all =
    let first = some_at ends 0 some in
    let none : (d : ℕ) (e : DeciderEnd) → slice_get ends d ≡ Some e → filter (is_above (λ (s : Suppression). s.object.0) n) e.log.items ≡ [] = λ d e at. none_above (λ (s : Suppression). s.object.0) n e.log.items (all d e at) in
    keys_below (λ (s : Suppression). s.object.0) n log
    (each (is_above (λ (s : Suppression). s.object.0) n) 0 first.0 first.1 (λ k f apart at. none k f at) ∙ none 0 first.0 first.1)
