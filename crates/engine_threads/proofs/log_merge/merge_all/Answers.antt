use Rattle.std.proofs.Common.{rules, ◌≡◌, ◌++◌, [], List, ℕ, ◌-◌, length, drop, take, arith, sym, ap, ◌∙◌, append_assoc, ◌⊎◌, inl, inr}
use Rattle.std.proofs.lemmas.List.{drop_all, take_all, length-drop}
use Rattle.due_model.specs.declared.notice.Suppression.{Suppression}
use Rattle.engine_threads.proofs.MergeLaws.{rest_is}
use Rattle.engine_threads.proofs.log_merge.merge_all.Goals as goal
use Rattle.engine_threads.proofs.log_merge.merge_all.Goals.{then-loop-i-test+else-j-second, else-loop-i-test}

rest_taken : (n : ℕ) (xs : List Suppression) → take (length xs - n) (drop n xs) ≡ drop n xs
rest_taken n xs = take_all (length xs - n) (drop n xs) (let l = length-drop n xs in omega (arith, l))

pub returns : goal.returns
returns c =
    let i = c.loop-i.i in
    let j = c.loop-i.j in
    let one_over : (drop i c.args.first.now ≡ []) ⊎ (drop j c.args.second.now ≡ []) = elim c.loop-i-test.branch [
      | then-loop-i-test+else-j-second w ↦ inr (drop_all j c.args.second.now (search rules))
      | else-loop-i-test w ↦ inl (drop_all i c.args.first.now (search rules))
    ] in
    let one : c.extend_from_slice.new.self.items ≡ c.loop-i.log.items ++ take (length c.args.first.now - i) (drop i c.args.first.now) = search rules in
    let two : c.extend_from_slice-2.new.self.items ≡ c.extend_from_slice.new.self.items ++ take (length c.args.second.now - j) (drop j c.args.second.now) = search rules in
    let items : c.extend_from_slice-2.new.self.items ≡ (c.loop-i.log.items ++ drop i c.args.first.now) ++ drop j c.args.second.now =
    two ∙ ap (λ (r : List Suppression). r ++ take (length c.args.second.now - j) (drop j c.args.second.now)) one
    ∙ ap (λ (r : List Suppression). (c.loop-i.log.items ++ r) ++ take (length c.args.second.now - j) (drop j c.args.second.now)) (rest_taken i c.args.first.now)
    ∙ ap (λ (r : List Suppression). (c.loop-i.log.items ++ drop i c.args.first.now) ++ r) (rest_taken j c.args.second.now) in
    items ∙ append_assoc c.loop-i.log.items (drop i c.args.first.now) (drop j c.args.second.now) ∙ ap (λ (r : List Suppression). c.loop-i.log.items ++ r) (sym (rest_is (drop i c.args.first.now) (drop j c.args.second.now) one_over)) ∙ c.loop-i.invariant.2
