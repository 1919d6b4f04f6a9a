use Rattle.std.proofs.Common.{◌≡◌, ◌∙◌, List, None, ap, sym, ℕ}
use Rattle.std.specs.Prelude.{is_some}
use Rattle.std.specs.Map.{lookup}
use Rattle.std.specs.Str.{bytes_eq}
use Rattle.lemmas.proofs.Searches.{is_none-from}
use Rattle.object_inheritance.specs.declared.dated_lines.Line.{Line}
use Rattle.object_inheritance.specs.LineSearch.{noted}
use Rattle.object_inheritance.proofs.LineLemmas.{found-more, note-kept, note-new, note-undated, some-cond}
use Rattle.object_inheritance.proofs.dated_lines.note.Goals as goal
use Rattle.object_values.specs.claims.Ranges.{is_dated}

pub returns-then-not-is_dated-clause-noted : goal.returns-then-not-is_dated-clause-noted
returns-then-not-is_dated-clause-noted c =
    note-undated c.args.found.now.lines.items c.args.directive.now (sym (ap is_dated c.as_slice-name.ensures) ∙ sym c.is_dated.ensures ∙ c.if-not-is_dated.true)

pub returns-then-contains_key-clause-noted : goal.returns-then-contains_key-clause-noted
returns-then-contains_key-clause-noted c =
    note-kept c.args.found.now.lines.items c.args.directive.now
    (sym (c.requires.names c.args.directive.now.name)
    ∙ ap (λ (name : List ℕ). is_some (lookup (λ key. bytes_eq name key.now) c.args.found.now.names.entries)) (sym c.as_slice-name.ensures) ∙ sym c.contains_key.ensures ∙ c.if-contains_key.true)

pub returns-clause-found : goal.returns-clause-found
returns-clause-found c =
    let name = c.as_slice-name.result.now in
    let line : Line = record { name = c.as_slice-name.result; text = c.as_slice.result } in
    let absent : noted c.args.found.now.lines.items name ≡ None = is_none-from (noted c.args.found.now.lines.items name)
    (sym (c.requires.names name) ∙ sym c.contains_key.ensures ∙ c.if-contains_key.false) in
    found-more c.args.found.now (record { lines = c.push.new.self; names = c.insert.new.self }) line c.requires c.in_ok-push.ensures.items absent
    (λ other. ap is_some (c.in_ok-insert.ensures.updates.0 (record { ref_ptr = (0, 0); now = other })) ∙ some-cond (bytes_eq name other) _)

pub returns-clause-noted : goal.returns-clause-noted
returns-clause-noted c name =
    let d = c.args.directive.now in
    let line : Line = record { name = c.as_slice-name.result; text = c.as_slice.result } in
    ap (λ (lines : List Line). noted lines name) c.in_ok-push.ensures.items
    ∙ note-new c.args.found.now.lines.items d line c.as_slice-name.ensures c.as_slice.ensures
    (sym (ap is_dated c.as_slice-name.ensures) ∙ sym c.is_dated.ensures ∙ c.if-not-is_dated.false) name
