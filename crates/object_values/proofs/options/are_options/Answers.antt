use Rattle.std.proofs.Common.{◌||◌, eqb, length, rules, tests}
use Rattle.std.specs.List.{list_any}
use Rattle.std.specs.Str.{bytes_eq}
use Rattle.std.proofs.lemmas.Iterator.Search.{all_from_yields_List}
use Rattle.std.proofs.lemmas.Iterator.Splits.{YieldsList-from_slice_split}
use Rattle.object_reader.specs.claims.Blanks.{is_blank}
use Rattle.object_values.specs.claims.Options.{option_words}
use Rattle.object_values.specs.claims.Values.{is_comma}
use Rattle.object_values.proofs.options.are_options.Goals as goal

pub returns : goal.returns
returns c =
    all_from_yields_List (λ part. eqb (length part) 0 || list_any (bytes_eq part) (option_words c.args.kind)) _ _ _ c.all.ensures.ran
    (YieldsList-from_slice_split _ (λ b. is_comma b || is_blank b) c.args.text.now c.split.ensures.rest c.split.ensures.done c.split.ensures.closure (λ x r q k. search (rules, tests)))
    (λ x b q k. search (rules, tests))
