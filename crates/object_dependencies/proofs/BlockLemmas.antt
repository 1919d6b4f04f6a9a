-- The pairs of a block.
use Rattle.std.proofs.Common.{◌≡◌, ℕ, true, false, not, cond, List, [], Option, Some, None, is_some, sym, ap, subst, ◌∙◌}
use Rattle.std.specs.Prelude.{codes, Contains, slice_get}
use Rattle.std.proofs.lemmas.Bool.{false≢true}
use Rattle.lemmas.proofs.Elements.{Contains-none}
use Rattle.lemmas.proofs.Lists.{AllPairs-nil}
use Rattle.due_model.specs.declared.state.StateSet.{StateSet}
use Rattle.object_groups.specs.claims.Objects.{is_object, is_object_at}
use Rattle.object_groups.specs.ObjectLaws.{object-at}
use Rattle.object_listing.specs.claims.Listing.{AreThose}
use Rattle.object_reached.specs.declared.roles.Role.TheVariants.{Dependent, Master}
use Rattle.object_reached.specs.claims.Reached.{SpeaksOf}
use Rattle.object_reader.specs.declared.block.Block.{Block}
use Rattle.object_reader.specs.declared.block.BlockKind.TheVariants.{HostDependency, ServiceDependency}
use Rattle.object_listing.specs.claims.Readings.{own_states}
use Rattle.object_values.specs.declared.options.CriteriaKind.TheVariants.{OfHosts, OfServices}
use Rattle.object_dependencies.specs.claims.Pairs.{ArePairs, DependsAt, IsBefore, kept_states, Pair}
use Rattle.object_dependencies.specs.Pairs.{paired}
use Rattle.object_dependencies.proofs.PairLemmas.{ordered-from}
use Rattle.object_dependencies.specs.PairLaws.{paired-from, paired-has}

-- ---- which states a block keeps

abbrev host_states : List Block → ℕ → Option StateSet
host_states blocks place = own_states blocks (codes "notification_failure_criteria") OfHosts place

abbrev service_states : List Block → ℕ → Option StateSet
service_states blocks place = own_states blocks (codes "notification_failure_criteria") OfServices place

module _ (blocks : List Block) (place : ℕ) (x : Block) (here : slice_get blocks place ≡ Some x) where
  pub kept-hosts : true ≡ is_object HostDependency x → own_states blocks (codes "notification_failure_criteria") OfHosts place ≡ kept_states blocks place
  kept-hosts is = sym (ap (λ b. cond b (host_states blocks place) (cond (is_object_at blocks ServiceDependency place) (service_states blocks place) None)) (object-at blocks HostDependency place x true here is))

  pub kept-services : false ≡ is_object HostDependency x → true ≡ is_object ServiceDependency x
      → own_states blocks (codes "notification_failure_criteria") OfServices place ≡ kept_states blocks place
  kept-services not is = sym (ap (λ b. cond b (host_states blocks place) (cond (is_object_at blocks ServiceDependency place) (service_states blocks place) None)) (object-at blocks HostDependency place x false here not)
      ∙ ap (λ b. cond b (service_states blocks place) None) (object-at blocks ServiceDependency place x true here is))

  pub kept-none : false ≡ is_object HostDependency x → false ≡ is_object ServiceDependency x → None ≡ kept_states blocks place
  kept-none not neither = sym (ap (λ b. cond b (host_states blocks place) (cond (is_object_at blocks ServiceDependency place) (service_states blocks place) None)) (object-at blocks HostDependency place x false here not)
      ∙ ap (λ b. cond b (service_states blocks place) None) (object-at blocks ServiceDependency place x false here neither))

-- ---- the pairs of a block

module _ (blocks : List Block) (lists : List (List ℕ)) (place : ℕ) (pairs : List Pair) where
  none-are : pairs ≡ [] → ((dependent master : ℕ) → DependsAt blocks lists place dependent master → ⊥) → ArePairs blocks lists place pairs
  none-are empty none = subst (ArePairs blocks lists place) (sym empty) (record {
    ordered = AllPairs-nil IsBefore;
    exactly = λ d m. ((λ at. absurd (Contains-none (d, m) at)), (λ at. absurd (none d m at)));
  })

  pub no-criteria : is_some (kept_states blocks place) ≡ false → pairs ≡ [] → ArePairs blocks lists place pairs
  no-criteria is empty = none-are empty (λ d m at. false≢true (sym is ∙ at.0))

  pub no-masters : (masters : List ℕ) → AreThose (SpeaksOf blocks lists Master place) masters → masters ≡ [] → pairs ≡ [] → ArePairs blocks lists place pairs
  no-masters masters those none empty = none-are empty (λ d m at. Contains-none m (subst (λ (ns : List ℕ). Contains ns m) none ((those.exactly m).1 at.2)))

  pub no-dependents : (dependents : List ℕ) → AreThose (SpeaksOf blocks lists Dependent place) dependents → dependents ≡ [] → pairs ≡ [] → ArePairs blocks lists place pairs
  no-dependents dependents those none empty = none-are empty (λ d m at. Contains-none d (subst (λ (ns : List ℕ). Contains ns d) none ((those.exactly d).1 at.1)))

  pub pairs-are : (dependents masters : List ℕ) → is_some (kept_states blocks place) ≡ true → AreThose (SpeaksOf blocks lists Dependent place) dependents
      → AreThose (SpeaksOf blocks lists Master place) masters → pairs ≡ paired dependents masters → ArePairs blocks lists place pairs
  pairs-are dependents masters kept those also are = subst (ArePairs blocks lists place) (sym are) (record {
    ordered = ordered-from dependents masters those.rising also.rising;
    exactly = λ d m. (
      (λ at. let both = paired-from dependents masters (d, m) at in (kept, (those.exactly d).0 both.0, (also.exactly m).0 both.1)),
      (λ at. paired-has dependents masters (d, m) ((those.exactly d).1 at.1) ((also.exactly m).1 at.2)),
    );
  })
