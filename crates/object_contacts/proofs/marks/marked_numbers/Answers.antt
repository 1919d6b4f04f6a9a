use Rattle.std.proofs.Common.{◌≡◌, ◌++◌, ◌∷◌, ◌∙◌, List, [], ap, arith, cond, false, filter, get_or, length, sym, ℕ}
use Rattle.std.specs.List.{range_with_len}
use Rattle.lemmas.proofs.Lists.{filter_range_more}
use Rattle.object_contacts.proofs.marks.marked_numbers.Goals as goal

pub loop-number-preserved : goal.loop-number-preserved
loop-number-preserved c =
    let marks = c.args.marks.now in
    let i = c.loop-number.number in
    c.in_ok-push_number.ensures ∙ ap (λ (numbers : List ℕ). numbers ++ cond (get_or marks i false) (i ∷ []) []) c.loop-number.invariant
    ∙ sym (filter_range_more (λ number. get_or marks number false) i)

pub returns : goal.returns
returns c =
    let marks = c.args.marks.now in
    let end : c.loop-number.number ≡ length marks = omega (arith, c.loop-number-test.false, c.loop-number.auto.number-end) in
    c.loop-number.invariant ∙ ap (λ (n : ℕ). filter (λ number. get_or marks number false) (range_with_len 0 n)) end
