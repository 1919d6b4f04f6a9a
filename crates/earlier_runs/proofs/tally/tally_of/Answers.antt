use Rattle.std.proofs.Common.{◌≡◌, ◌+◌, ◌∙◌, ap, arith, filter, length, refl}
use Rattle.std.proofs.lemmas.List.Filters.{length-filter_both}
use Rattle.journaled.specs.Claims.{is_new, is_settled}
use Rattle.earlier_runs.proofs.tally.tally_of.Goals as goal

pub overflow_sub-result : goal.overflow_sub-result
overflow_sub-result c =
    let both : length (filter (is_settled c.args.past.now) c.args.taken.now) + length (filter (is_new c.args.past.now) c.args.taken.now) ≡ length c.args.taken.now =
    length-filter_both (is_settled c.args.past.now) (is_new c.args.past.now) (λ n. refl) c.args.taken.now in
    let new : length c.in_ok-new.new.items ≡ length (filter (is_new c.args.past.now) c.args.taken.now) = ap length c.in_ok-new.ensures in
    omega (arith, both, new)

pub returns-clause-tally : goal.returns-clause-tally
returns-clause-tally c =
    let both : length (filter (is_settled c.args.past.now) c.args.taken.now) + length (filter (is_new c.args.past.now) c.args.taken.now) ≡ length c.args.taken.now =
    length-filter_both (is_settled c.args.past.now) (is_new c.args.past.now) (λ n. refl) c.args.taken.now in
    let new : length c.in_ok-new.new.items ≡ length (filter (is_new c.args.past.now) c.args.taken.now) = ap length c.in_ok-new.ensures in
    record {
      claimed = omega (arith, both, new);
      new = omega (arith, new);
      again = λ was_begun is.
          let again : length c.in_ok-again.again.items ≡ length (filter was_begun (filter (is_new c.args.past.now) c.args.taken.now)) =
          ap length (c.in_ok-again.ensures was_begun is ∙ ap (filter was_begun) (c.deref.ensures.value ∙ c.in_ok-new.ensures)) in
          omega (arith, again);
    }
