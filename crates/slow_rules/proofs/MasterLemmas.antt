-- Dependencies by the states of the configuration's own objects.
use Rattle.std.proofs.Common.{◌≡◌, ◌==◌, ℕ, zero, suc, ◌<◌, Bool, ◌&&◌, ◌||◌, List, [], ◌∷◌, length, map, All, refl, ap, ap₂, ◌∙◌, arith}
use Rattle.std.specs.List.{list_any, range_with_len}
use Rattle.std.proofs.lemmas.List.Elements.{All-head, All-tail}
use Rattle.std.proofs.lemmas.List.FromFn.{get_or-map-range_with_len}
use Rattle.due_model.specs.declared.config.Config.{Config}
use Rattle.due_model.specs.declared.event.Event.{Event}
use Rattle.due_model.specs.declared.state.State.{State}
use Rattle.due_model.specs.declared.state.State.TheVariants.{Pending}
use Rattle.due_model.specs.declared.zone.Zone.{Zone}
use Rattle.due_model.specs.claims.Accepted.{DependencyFits, IsAccepted}
use Rattle.due_model.specs.claims.Dependencies.{dependency_fails, entry_fails, fails_at}
use Rattle.due_model.specs.claims.Periods.{in_period}
use Rattle.due_model.specs.claims.Readings.{hard, moment}
use Rattle.slow_rules.specs.Rounds.{state_of}

any_agree : {X : Type 0} (P : X → Type 0) (p q : X → Bool) → ((x : X) → P x → p x ≡ q x) → (xs : List X) → All P xs → list_any p xs ≡ list_any q xs
any_agree P p q same [] h = refl
any_agree P p q same (x ∷ xs) h = ap₂ (λ (a b : Bool). a || b) (same x (All-head P x xs h)) (any_agree P p q same xs (All-tail P x xs h))

module _ (c : Config) (zone : Zone) (f g : ℕ → State) (t : ℕ) (same : (o : ℕ) → o < length c.objects → f o ≡ g o) where
  entries_agree : (depth o : ℕ) → All (DependencyFits c) c.dependencies → entry_fails depth c zone f t o ≡ entry_fails depth c zone g t o
  entries_agree zero o fit = refl
  entries_agree (suc depth) o fit =
      any_agree (DependencyFits c) _ _ (λ e fits.
      ap₂ (λ (s : State) (b : Bool). e.dependent.0 == o && in_period c zone e.period t && (fails_at c.choices.dep_pending e.states s || e.inherits && b))
      (same e.master.0 fits.master) (entries_agree depth e.master.0 fit)) c.dependencies fit

  -- whether one fails, by states that agree there
  pub dependencies_agree : (o : ℕ) → All (DependencyFits c) c.dependencies → dependency_fails c zone f t o ≡ dependency_fails c zone g t o
  dependencies_agree o fit = entries_agree (length c.dependencies) o fit

-- the states of the configuration's objects, by number, are those that the definition asks for
pub depends_is : (c : Config) (zone : Zone) (past : List Event) (states : List State) (t o : ℕ) → IsAccepted c
    → states ≡ map (λ m. hard m past) (range_with_len 0 (length c.objects)) → t ≡ moment past
    → dependency_fails c zone (state_of states) t o ≡ dependency_fails c zone (λ master. hard master past) (moment past) o
depends_is c zone past states t o accepted are now =
    ap (λ n. dependency_fails c zone (state_of states) n o) now
    ∙ dependencies_agree c zone (state_of states) (λ master. hard master past) (moment past)
    (λ m low. ap (λ xs. state_of xs m) are ∙ get_or-map-range_with_len (λ k. hard k past) 0 (length c.objects) m m Pending low (omega arith)) o accepted.dependencies
