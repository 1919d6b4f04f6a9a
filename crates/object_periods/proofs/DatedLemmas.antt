-- One line of dates more.
use Rattle.std.proofs.Common.{◌≡◌, ℕ, ◌+◌, ◌<◌, List, [], ◌∷◌, ◌++◌, length, map, take, get_or, Option, None, Some, refl, sym, ap, ◌∙◌}
use Rattle.std.specs.Prelude.{filter_map}
use Rattle.std.specs.List.{cons_option}
use Rattle.std.specs.Option.{option_to_list}
use Rattle.std.proofs.lemmas.List.{map-append, take_more}
use Rattle.std.proofs.lemmas.List.Elements.{filter_map-append}
use Rattle.due_model.specs.declared.config.Dated.{Dated}
use Rattle.object_inheritance.specs.DatedLines.{named}
use Rattle.object_inheritance.specs.declared.dated_lines.Line.{Line}
use Rattle.object_periods.specs.claims.Periods.{dated_in}

one : (found : Option Dated) → cons_option found [] ≡ option_to_list found
one None = refl
one (Some dated) = refl

pub dated-more : (lines : List Line) (i : ℕ) (d : Line) (old new : List Dated) → i < length lines → old ≡ filter_map dated_in (named (take i lines))
    → new ≡ old ++ option_to_list (dated_in ((get_or lines i d).name.now, (get_or lines i d).text.now)) → new ≡ filter_map dated_in (named (take (i + 1) lines))
dated-more lines i d old new within before more =
    more ∙ ap (λ (ds : List Dated). ds ++ option_to_list (dated_in ((get_or lines i d).name.now, (get_or lines i d).text.now))) before
    ∙ sym (ap (λ (ls : List Line). filter_map dated_in (named ls)) (take_more lines i d within)
    ∙ ap (filter_map dated_in) (map-append (λ (l : Line). (l.name.now, l.text.now)) (take i lines) (get_or lines i d ∷ []))
    ∙ filter_map-append dated_in (named (take i lines)) (named (get_or lines i d ∷ []))
    ∙ ap (λ (ds : List Dated). filter_map dated_in (named (take i lines)) ++ ds) (one (dated_in ((get_or lines i d).name.now, (get_or lines i d).text.now))))
