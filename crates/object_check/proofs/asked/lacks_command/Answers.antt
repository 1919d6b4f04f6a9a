use Rattle.std.proofs.Common.{◌∙◌, Bor, List, ap, sym, take_all, ℕ}
use Rattle.std.specs.List.{list_any}
use Rattle.lemmas.proofs.Searches.{any-at, none-more}
use Rattle.object_groups.specs.claims.Names.{lacks}
use Rattle.object_check.proofs.MarkLemmas.{any-of_each}
use Rattle.object_check.proofs.asked.lacks_command.Goals as goal
use Rattle.object_values.specs.claims.Values.{command_name}
use Rattle.object_values.specs.Values.{texts}

pub returns-then-lacks : goal.returns-then-lacks
returns-then-lacks c =
    any-at (λ entry. lacks c.args.names.now (command_name entry)) c.args.entries.now c.loop-entry.entry-index _ c.loop-entry-test.true
    (c.if-lacks.ensures ∙ ap (λ (name : List ℕ). lacks c.args.names.now name) c.command_name.ensures)
    ∙ any-of_each (lacks c.args.names.now) command_name (texts c.args.entries.now)

pub loop-entry-preserved : goal.loop-entry-preserved
loop-entry-preserved c =
    none-more (λ entry. lacks c.args.names.now (command_name entry)) c.args.entries.now c.loop-entry.entry-index _ c.loop-entry-test.true c.loop-entry.invariant
    (sym (c.if-lacks.ensures ∙ ap (λ (name : List ℕ). lacks c.args.names.now name) c.command_name.ensures))

pub returns : goal.returns
returns c =
    sym (sym (any-of_each (lacks c.args.names.now) command_name (texts c.args.entries.now))
    ∙ sym (ap (λ (entries : List (Bor (List ℕ))). list_any (λ entry. lacks c.args.names.now (command_name entry)) (texts entries))
    (take_all c.loop-entry.entry-index c.args.entries.now c.loop-entry-test.false)) ∙ c.loop-entry.invariant)
