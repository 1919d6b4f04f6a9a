use Rattle.std.proofs.Common.{List, ap, ℕ, ◌∙◌}
use Rattle.std.specs.List.{list_any}
use Rattle.std.specs.Str.{bytes_eq}
use Rattle.object_warnings.proofs.TableLemmas.{any-map}
use Rattle.object_warnings.proofs.directives.is_read.Goals as goal

pub returns : goal.returns
returns c =
    c.is_among.ensures ∙ any-map (bytes_eq c.args.name.now) (λ text. text.now) c.read_here.result.now
    ∙ ap (λ (names : List (List ℕ)). list_any (bytes_eq c.args.name.now) names) c.read_here.ensures
