-- What is kept of the directives, read for a block.
use Rattle.std.proofs.Common.{◌≡◌, ℕ, ◌<◌, Bool, true, false, cond, eqb, eqb-true, List, length, set, get_or, Option, None, Some, refl, sym, ap, subst, ◌∙◌}
use Rattle.std.specs.Prelude.{IfSome, slice_get, unwrap_or}
use Rattle.std.specs.Option.{option_and_then}
use Rattle.due_model.specs.claims.Options.{every_letter}
use Rattle.due_model.specs.declared.options.OptionLetters.{OptionLetters}
use Rattle.lemmas.proofs.Writes.{at_set}
use Rattle.object_inheritance.specs.Columns.{Column}
use Rattle.object_inheritance.specs.claims.Inherited.{given}
use Rattle.object_reader.specs.declared.block.Block.{Block}
use Rattle.object_listing.specs.claims.Readings.{letters_at}
use Rattle.object_settings.specs.Own.{AreRead}
use Rattle.object_values.specs.claims.Options.{options_in}
use Rattle.object_values.specs.declared.options.OptionKind.{OptionKind}

-- a value that is read of one column
pub read-are : {X : Type 0} (f : List Block → List ℕ → X) (blocks inside : List Block) (directive : List ℕ) (column : Column) → inside ≡ blocks → column ≡ record { blocks = inside; directive = directive }
    → f column.blocks column.directive ≡ f blocks directive
read-are f blocks inside directive column same are =
    ap (λ (c : Column). f c.blocks c.directive) are ∙ ap (λ (bs : List Block). f bs directive) same

-- ---- the options, read once for all blocks that take them from one

module _ (options : Column) (kind : OptionKind) (read : List (Option OptionLetters)) (origin place : ℕ) (letters : OptionLetters)
    (same : given options.blocks options.directive origin ≡ given options.blocks options.directive place) (are : AreRead options kind read) where
  letters-same : letters_at options.blocks options.directive kind origin ≡ letters_at options.blocks options.directive kind place
  letters-same = ap (λ (texts : List (List ℕ)). unwrap_or (option_and_then (options_in kind) (slice_get texts 0)) every_letter) same

  -- what was read of the block that gives it
  pub read-before : get_or read origin None ≡ Some letters → letters ≡ letters_at options.blocks options.directive kind place
  read-before is =
      subst (λ (kept : Option OptionLetters). IfSome kept (λ l. l ≡ letters_at options.blocks options.directive kind origin)) is (are.each origin) ∙ letters-same

  -- and what is read of it now
  pub read-now : origin < length read → letters ≡ letters_at options.blocks options.directive kind place → AreRead options kind (set read origin (Some letters))
  read-now within is = record {
    each = λ at. subst (λ (kept : Option OptionLetters). IfSome kept (λ l. l ≡ letters_at options.blocks options.directive kind at))
        (sym (at_set read origin at (Some letters) None within)) (kept-at at (eqb origin at) refl);
  }
    where
      kept-at : (at : ℕ) (b : Bool) → eqb origin at ≡ b → IfSome (cond b (Some letters) (get_or read at None)) (λ l. l ≡ letters_at options.blocks options.directive kind at)
      kept-at at true equal = is ∙ sym letters-same ∙ ap (letters_at options.blocks options.directive kind) (eqb-true origin at equal)
      kept-at at false other = are.each at
