-- The counts of warnings, added up.
use Rattle.std.proofs.Common.{◌≡◌, ℕ, ◌+◌, ◌<◌, Bool, true, false, cond, List, length, Option, refl, sym, ap, ◌∙◌, arith}
use Rattle.std.specs.Prelude.{count_by, is_some}
use Rattle.std.specs.List.Sorted.{IsPermutation}
use Rattle.std.proofs.lemmas.List.Sorted.{length_permutation}
use Rattle.due_model.specs.declared.config.Config.{Config}
use Rattle.object_inheritance.specs.claims.Faults as templates
use Rattle.object_inheritance.specs.declared.templates.TemplateFault.{TemplateFault}
use Rattle.object_reader.specs.declared.block.Block.{Block}
use Rattle.object_warnings.specs.Hours.{AreFirst}
use Rattle.object_warnings.specs.declared.hours.Span.{Span}
use Rattle.object_warnings.specs.declared.warning.Warning.{Warning}
use Rattle.object_warnings.specs.declared.warning.Warning.TheVariants.{NoHours}
use Rattle.site_check.proofs.FaultLemmas.{templated-none}
use Rattle.site_check.specs.Warnings.{IsHours, IsIfFree, IsOfConfig, IsOfFaulty, is_left_out, of_blocks, of_hours, of_objects, of_periods, of_templates, of_unused, told_of}
use Rattle.site_check.specs.declared.options.Form.{Form}

-- templates without a fault give theirs
pub free-more : (form : Form) (blocks own : List Block) (old new : ℕ) → templates.AreFree blocks → own ≡ blocks → new ≡ old + of_templates form own → IsIfFree form blocks old new
free-more form blocks own old new free same more = record {
  free = λ again. more ∙ ap (λ (bs : List Block). old + of_templates form bs) same;
  faulty = λ broken. absurd (broken free);
}

-- those with one give none
pub faulty-same : (form : Form) (blocks : List Block) (line : ℕ) (fault : TemplateFault) (n : ℕ) → templates.IsFirstFault blocks line fault → IsIfFree form blocks n n
faulty-same form blocks line fault n first = record {
  free = λ free. absurd (templated-none blocks line fault free first);
  faulty = λ broken. refl;
}

-- what isn't left out counts
pub told-more : (form : Form) (warning : Warning) (numbers others : List ℕ) (old new : ℕ) → is_left_out form warning ≡ false → numbers ≡ others → new ≡ old + length numbers
    → new ≡ old + told_of form warning (length others)
told-more form warning numbers others old new told same more =
    more ∙ ap (λ (n : ℕ). old + n) (ap length same ∙ sym (ap (λ (b : Bool). cond b 0 (length others)) told))

-- gaps that are left out count nothing
pub hours-none : (form : Form) (c : Config) (spans : List (Option Span)) (n : ℕ) → is_left_out form NoHours ≡ true → AreFirst c spans → IsHours form c n n
hours-none form c spans n out first =
    let none : of_hours form spans ≡ 0 = ap (λ (b : Bool). cond b 0 (count_by is_some spans)) out in record {
      spans = spans;
      first = first;
      is = omega (arith, none);
    }

-- the others each
pub hours-more : (form : Form) (c : Config) (spans : List (Option Span)) (old new : ℕ) → is_left_out form NoHours ≡ false → AreFirst c spans → new ≡ old + count_by is_some spans → IsHours form c old new
hours-more form c spans old new told first more = record {
  spans = spans;
  first = first;
  is = more ∙ ap (λ (n : ℕ). old + n) (sym (ap (λ (b : Bool). cond b 0 (count_by is_some spans)) told));
}

-- all warnings of blocks of which some has a fault
pub faulty-counted : (form : Form) (blocks : List Block) (none some all : ℕ) → none ≡ 0 → some ≡ none + of_blocks form blocks → IsIfFree form blocks some all → IsOfFaulty form blocks all
faulty-counted form blocks none some all begun more last = record {
  free = λ free. let is = last.free free in omega (arith, begun, more, is);
  faulty = λ broken. let is = last.faulty broken in omega (arith, begun, more, is);
}

-- all warnings of blocks that have a configuration
pub config-counted : (form : Form) (blocks own : List Block) (config : Config) (start of_them of_theirs unused objects hours periods : ℕ) → own ≡ blocks → start ≡ 0
    → of_them ≡ start + of_blocks form own → of_theirs ≡ of_them + of_templates form blocks → unused ≡ of_theirs + of_unused form blocks → objects ≡ unused + of_objects form config
    → IsHours form config objects hours → periods ≡ hours + of_periods form config → IsOfConfig form blocks config periods
config-counted form blocks own config start of_them of_theirs unused objects hours periods same none a b c d e f =
    let first : of_them ≡ start + of_blocks form blocks = a ∙ ap (λ (bs : List Block). start + of_blocks form bs) same in
    let more = e.is in record {
      spans = e.spans;
      first = e.first;
      is = omega (arith, none, first, b, c, d, more, f);
    }

-- ---- sums

-- two gains
pub two-more : (w0 w1 w2 a b : ℕ) → w1 ≡ w0 + a → w2 ≡ w1 + b → w2 ≡ w0 + (a + b)
two-more w0 w1 w2 a b one two = omega (arith, one, two)

-- three gains
pub three-more : (w0 w1 w2 w3 a b c : ℕ) → w1 ≡ w0 + a → w2 ≡ w1 + b → w3 ≡ w2 + c → w3 ≡ w0 + (a + b + c)
three-more w0 w1 w2 w3 a b c one two three = omega (arith, one, two, three)

-- what is brought into order stays some
pub sorted-some : {X : Type 0} (xs sorted : List X) → 0 < length xs → IsPermutation xs sorted → 0 < length sorted
sorted-some xs sorted some same = let long = length_permutation xs sorted same in omega (arith, some, long)
