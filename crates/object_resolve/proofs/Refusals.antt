-- Blocks with a fault give no configuration.
use Rattle.std.proofs.Common.{◌≡◌, ℕ, Bool, true, false, List, Result, Ok, Err, IfErr, refl, sym, ap, subst, ◌∙◌, ◌⊎◌, inl, inr}
use Rattle.std.proofs.lemmas.Option.{none-some}
use Rattle.due_model.specs.declared.config.Config.{Config}
use Rattle.object_escalations.specs.Laws as escalations
use Rattle.object_faults.specs.claims.Faults as values
use Rattle.object_inheritance.specs.claims.Faults as templates
use Rattle.object_reader.specs.declared.block.Block.{Block}
use Rattle.object_resolve.specs.claims.First.{IsFirstAt, IsNowhere}
use Rattle.object_periods.specs.claims.Loops.{IsLoopedAt}
use Rattle.object_resolve.specs.Fault.{IsAmong}
use Rattle.object_resolve.specs.claims.Names.{IsFirstMisnamed, IsMisnamed}
use Rattle.object_resolve.specs.claims.Resolve.{IsFirstLooped, IsLoopedOrOver, IsMistemplated, IsMisvalued, IsRefusal, IsResolved, IsUnfit}
use Rattle.object_faults.specs.declared.load_fault.LoadFault.{LoadFault}
use Rattle.object_faults.specs.declared.load_fault.LoadFault.TheVariants as load
use Rattle.object_faults.specs.declared.load_fault.BlockFault.{BlockFault}
use Rattle.object_resolve.proofs.LimitLemmas.{over-nowhere}
use Rattle.object_services.specs.Laws.{WithinPassesNowhere}

-- what is said nowhere has no first place
first-nowhere : (P : ℕ → Type 0) (blocks : List Block) (line : ℕ) → IsNowhere P → IsFirstAt P blocks line → ⊥
first-nowhere P blocks line none at = none at.place at.first.0

-- blocks that are free of faults have no first one
valued-none : (blocks : List Block) (line : ℕ) (fault : BlockFault) → values.AreFree blocks → IsMisvalued blocks line fault → ⊥
valued-none blocks line fault free (own, first, is) = none-some own (sym (free first.place first.block first.here) ∙ first.refused)

templated-none : (blocks : List Block) (line : ℕ) (fault : BlockFault) → templates.AreFree blocks → IsMistemplated blocks line fault → ⊥
templated-none blocks line fault free (own, first, is) =
    let none = free first.place first.block first.here in
    none-some own (none.is ∙ ap (λ (looped : Bool). templates.fault_by (templates.uses_unknown blocks first.block) looped (templates.is_doubled blocks first.place first.block))
    (same none.looped (first.refused).looped (λ on. ((first.refused).lies).1 ((none.lies).0 on)) (λ on. (none.lies).1 (((first.refused).lies).0 on)))
    ∙ sym (first.refused).is)
  where
    same : (a b : Bool) → (a ≡ true → b ≡ true) → (b ≡ true → a ≡ true) → a ≡ b
    same true b to from = sym (to refl)
    same false true to from = from refl
    same false false to from = refl

pub resolved-unrefused : WithinPassesNowhere → escalations.WithinPassesNowhere → (blocks : List Block) (config : Config) (line : ℕ) (fault : BlockFault)
    → IsResolved blocks config → IsRefusal blocks line fault → ⊥
resolved-unrefused law escalation_law blocks config line fault of (inl templated) = templated-none blocks line fault of.templates templated
resolved-unrefused law escalation_law blocks config line fault of (inr (free, inl valued)) = valued-none blocks line fault of.values valued
resolved-unrefused law escalation_law blocks config line fault of (inr (free, inr (good, inl misnamed))) = first-nowhere _ blocks line of.fitting.named misnamed.first
resolved-unrefused law escalation_law blocks config line fault of (inr (free, inr (good, inr (named, inl looped)))) = first-nowhere _ blocks line of.fitting.no_loop looped.1
resolved-unrefused law escalation_law blocks config line fault of (inr (free, inr (good, inr (named, inr (unlooped, inl looped))))) =
    first-nowhere _ blocks line of.fitting.no_dependency_loop looped.1
resolved-unrefused law escalation_law blocks config line fault of (inr (free, inr (good, inr (named, inr (unlooped, inr (none, over)))))) =
    first-nowhere _ blocks line (over-nowhere law escalation_law blocks of.fitting.within) over.1

-- ---- the refusal of one pass is that of the blocks

among-weaker : (P Q : ℕ → BlockFault → Type 0) → ((line : ℕ) (fault : BlockFault) → P line fault → Q line fault)
    → (fault : LoadFault) → IsAmong P fault → IsAmong Q fault
among-weaker P Q weaker (load.Block line fault) refused = weaker line fault refused
among-weaker P Q weaker load.NoMemory refused = refused
among-weaker P Q weaker (load.Line line fault) refused = absurd refused
among-weaker P Q weaker load.TooLarge refused = absurd refused

pub values-refused : (blocks : List Block) (fault : LoadFault)
    → IsAmong (λ line f. IsMistemplated blocks line f ⊎ (templates.AreFree blocks × IsMisvalued blocks line f)) fault → IsAmong (IsRefusal blocks) fault
values-refused blocks fault refused =
    among-weaker (λ line f. IsMistemplated blocks line f ⊎ (templates.AreFree blocks × IsMisvalued blocks line f)) (IsRefusal blocks) of_both fault refused
  where
    of_both : (line : ℕ) (f : BlockFault) → IsMistemplated blocks line f ⊎ (templates.AreFree blocks × IsMisvalued blocks line f) → IsRefusal blocks line f
    of_both line f (inl templated) = inl templated
    of_both line f (inr (free, valued)) = inr (free, inl valued)

pub all-refused : (blocks : List Block) → templates.AreFree blocks → values.AreFree blocks → (fault : LoadFault)
    → IsAmong (IsUnfit blocks) fault → IsAmong (IsRefusal blocks) fault
all-refused blocks free good fault refused =
    among-weaker (IsUnfit blocks) (IsRefusal blocks) (λ line f said. inr (free, inr (good, said))) fault refused

-- ---- that of names, of loops and of limits is that of all of them

pub names-unfit : (blocks : List Block) (fault : LoadFault) → IsAmong (IsFirstMisnamed blocks) fault → IsAmong (IsUnfit blocks) fault
names-unfit blocks fault refused = among-weaker (IsFirstMisnamed blocks) (IsUnfit blocks) (λ line f said. inl said) fault refused

pub loops-unfit : (blocks : List Block) → IsNowhere (IsMisnamed blocks) → (fault : LoadFault) → IsAmong (IsFirstLooped blocks) fault → IsAmong (IsUnfit blocks) fault
loops-unfit blocks named fault refused = among-weaker (IsFirstLooped blocks) (IsUnfit blocks) (λ line f said. inr (named, inl said)) fault refused

pub limits-unfit : (blocks : List Block) → IsNowhere (IsMisnamed blocks) → IsNowhere (IsLoopedAt blocks) → (fault : LoadFault) → IsAmong (IsLoopedOrOver blocks) fault
    → IsAmong (IsUnfit blocks) fault
limits-unfit blocks named unlooped fault refused =
    among-weaker (IsLoopedOrOver blocks) (IsUnfit blocks) (λ line f said. inr (named, inr (unlooped, said))) fault refused

-- as the code has it
pub all-refused_if : (blocks own : List Block) (r : Result Config LoadFault) → own ≡ blocks → templates.AreFree blocks → values.AreFree blocks
    → IfErr r (IsAmong (IsUnfit own)) → IfErr r (IsAmong (IsRefusal blocks))
all-refused_if blocks own (Ok config) same free good said = tt
all-refused_if blocks own (Err fault) same free good said =
    all-refused blocks free good fault (subst (λ (bs : List Block). IsAmong (IsUnfit bs) fault) same said)
