use Rattle.std.proofs.Common.{◌++◌, ℕ, List, ap, append_assoc, flat_map, sym, ◌∙◌}
use Rattle.std.specs.List.{range_with_len}
use Rattle.lemmas.proofs.Numbers.{flat_range_more}
use Rattle.contact_table.specs.Table.{first_row}
use Rattle.contact_table.proofs.table.push_firsts.Goals as goal

pub loop-number-preserved : goal.loop-number-preserved
loop-number-preserved c =
    let row : ℕ → List ℕ = first_row c.args.form c.args.a.contacts.now c.args.a.tallies.now c.args.b.contacts.now c.args.b.tallies.now in
    let number = c.loop-number.number in
    let text = c.args.text.now.items in
    c.in_ok-push_first.ensures
    ∙ ap (λ (xs : List ℕ). xs ++ row number) c.loop-number.invariant
    ∙ append_assoc text (flat_map row (range_with_len 0 number)) (row number)
    ∙ ap (λ (xs : List ℕ). text ++ xs) (sym (flat_range_more row number))
