use Rattle.std.proofs.Common.{◌∙◌, [], ap, sym}
use Rattle.std.proofs.lemmas.List.{get_or-map, length-map}
use Rattle.std.proofs.lemmas.List.Folds.{list_any_at}
use Rattle.object_groups.specs.claims.Names.{is_exclusion}
use Rattle.object_values.specs.Values.{texts}
use Rattle.object_groups.proofs.names.has_exclusion.Goals as goal

pub returns-then-is_exclusion : goal.returns-then-is_exclusion
returns-then-is_exclusion c =
    let entries = c.args.entries.now in
    let i = c.loop-entry.entry-index in
    sym (list_any_at is_exclusion (texts entries) i [] (rw (length-map entries (λ text. text.now)) c.loop-entry-test.true)
    (ap is_exclusion (get_or-map (λ text. text.now) entries i _ [] c.loop-entry-test.true) ∙ sym c.if-is_exclusion.ensures))
