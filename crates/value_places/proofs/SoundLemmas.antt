-- Blocks that are sound aren't refused.
use Rattle.std.proofs.Common.{◌≡◌, ℕ, Bool, true, false, List, Result, Ok, Err, is_ok, refl, sym, ap, subst, ◌∙◌}
use Rattle.std.proofs.lemmas.Bool.{true≢false}
use Rattle.std.proofs.lemmas.Option.{none-some}
use Rattle.object_inheritance.specs.claims.Faults as templates
use Rattle.object_inheritance.specs.declared.templates.TemplateFault.{TemplateFault}
use Rattle.object_reader.specs.Blocks.{Gives}
use Rattle.object_reader.specs.declared.block.Block.{Block}
use Rattle.object_reader.specs.declared.fault.LineFault.{LineFault}
use Rattle.object_reader.specs.declared.fault.ReadFault.{ReadFault}
use Rattle.object_reader.specs.declared.fault.ReadFault.TheVariants as read
use Rattle.object_services.specs.Limits.{IsFirstOver}
use Rattle.value_places.specs.Places.{AreSound}

same : (a b : Bool) → (a ≡ true → b ≡ true) → (b ≡ true → a ≡ true) → a ≡ b
same true b to from = sym (to refl)
same false true to from = from refl
same false false to from = refl

pub sound-templates : (blocks : List Block) (line : ℕ) (fault : TemplateFault) → AreSound blocks → templates.IsFirstFault blocks line fault → ⊥
sound-templates blocks line fault sound first =
    let none = sound.free first.place first.block first.here in
    none-some fault (none.is ∙ ap (λ (looped : Bool). templates.fault_by (templates.uses_unknown blocks first.block) looped (templates.is_doubled blocks first.place first.block))
    (same none.looped (first.refused).looped (λ on. ((first.refused).lies).1 ((none.lies).0 on)) (λ on. (none.lies).1 (((first.refused).lies).0 on)))
    ∙ sym (first.refused).is)

pub sound-limit : (blocks : List Block) (place line : ℕ) → AreSound blocks → IsFirstOver blocks place line → ⊥
sound-limit blocks place line sound over = sound.within place over.passes

-- ---- what the reading of a text says of others

-- blocks that a text gives are those that were read
pub read-same : (r : Result (List Block) ReadFault) (blocks others : List Block) → r ≡ Ok blocks → Gives r (Ok others) → blocks ≡ others
read-same r blocks others is gives = sym (ap blocks_in (subst (λ given. Gives given (Ok others)) is gives))
  where
    blocks_in : Result (List Block) ReadFault → List Block
    blocks_in (Ok bs) = bs
    blocks_in (Err fault) = others

-- a text of blocks has no fault
pub no-large : (others : List Block) → Gives (Err read.TooLarge) (Ok others) → ⊥
no-large others gives = true≢false (ap is_ok gives)

pub no-line : (others : List Block) (line : ℕ) (fault : LineFault) → Gives (Err (read.AtLine line fault)) (Ok others) → ⊥
no-line others line fault gives = true≢false (ap is_ok gives)
