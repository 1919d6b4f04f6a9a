use Rattle.std.proofs.Common.{rules, ◌≡◌, ◌<◌, ◌+◌, ◌∷◌, [], ℕ, length, length-append, slice_get, Some, refl, sym, subst, ap, ◌∙◌, ⊎_elim, ◌||◌, arith}
use Rattle.std.proofs.lemmas.Bool.{cases_eq}
use Rattle.std.proofs.lemmas.List.{length-set}
use Rattle.std.proofs.lemmas.Option.{same_Some, slice_get_within}
use Rattle.decider_thread.specs.declared.ring.DeciderEnd.{DeciderEnd}
use Rattle.std.specs.Vec.Iter.{into_iter_items}
use Rattle.engine_threads.specs.Joins.{IsMet}
use Rattle.engine_threads.proofs.JoinLaws.{kept_self, kept_then, met_before, neither_first, neither_second}
use Rattle.engine_threads.specs.ListLaws.{next_rest, set_other}
use Rattle.lemmas.proofs.Lists.{slice_get_read}
use Rattle.engine_threads.proofs.ListLaws.{next_at}
use Rattle.engine_threads.proofs.ends.meet_all.Goals as goal

pub meet_one-refused-requires-clause-end : goal.meet_one-refused-requires-clause-end
meet_one-refused-requires-clause-end c =
    let place = c.loop-end.place in
    let inv = c.loop-end.invariant in
    let end = subst (λ k. slice_get c.args.ends.items k ≡ Some c.in-Some.end) (sym inv.0) (next_at c.loop-end.yielded c.in-Some.end (into_iter_items c.loop-end.end-iterator) (into_iter_items c.next.new.self) c.args.ends.items c.in-Some.ensures.steps.0 inv.1) in
    let below : place < length c.args.ends.items = slice_get_within c.args.ends.items place c.in-Some.end end in
    let long : length c.args.ends.items ≡ length c.loop-end.senders.items = sym (inv.6 ∙ c.requires.senders) in
    let sender = slice_get_read c.loop-end.senders.items place c.index_mut.result.now (subst (λ n. place < n) long below) (search rules) in
    (c.requires.ends.0, c.requires.ends.1, length c.args.ends.items, place, c.requires.ends.2, c.requires.ends.3 place, c.requires.ends.4 place c.in-Some.end c.index_mut.result.now end (inv.5 place c.index_mut.result.now (omega arith) sender))

pub loop-end-preserved : goal.loop-end-preserved
loop-end-preserved c =
    let place = c.loop-end.place in
    let inv = c.loop-end.invariant in
    let r = c.index_mut.result.now in
    let end = subst (λ k. slice_get c.args.ends.items k ≡ Some c.in-Some.end) (sym inv.0) (next_at c.loop-end.yielded c.in-Some.end (into_iter_items c.loop-end.end-iterator) (into_iter_items c.next.new.self) c.args.ends.items c.in-Some.ensures.steps.0 inv.1) in
    let below : place < length c.args.ends.items = slice_get_within c.args.ends.items place c.in-Some.end end in
    let long : length c.args.ends.items ≡ length c.loop-end.senders.items = sym (inv.6 ∙ c.requires.senders) in
    let sender = slice_get_read c.loop-end.senders.items place r (subst (λ n. place < n) long below) (search rules) in
    let memory = c.loop-end.memory || c.meet_one-refused.result in
    let met = c.meet_one-refused.ensures in (
      ap (λ n. n + 1) inv.0 ∙ sym (length-append c.loop-end.yielded (c.in-Some.end ∷ [])),
      next_rest c.loop-end.yielded c.in-Some.end (into_iter_items c.loop-end.end-iterator) (into_iter_items c.next.new.self) c.args.ends.items c.in-Some.ensures.steps.0 inv.1,
      met.workers,
      kept_then c.args.served.now.items c.loop-end.served.items c.meet_one-refused.new.served.items met.served inv.3 met.kept,
      met.served ∙ inv.4,
      (λ d p above at. inv.5 d p (omega (arith, above)) (sym (set_other c.loop-end.senders.items place d _ (λ (is : d ≡ place). absurd (omega (arith, above, is)))) ∙ at)),
      length-set c.loop-end.senders.items place _ ∙ inv.6,
      (λ config zone events told ends d e lt at_e. ⊎_elim
          (λ (is : d ≡ place).
          let mine = met.met config zone (length c.args.ends.items) place events (told place) (ends place c.in-Some.end r end (inv.5 place r (omega arith) sender)) in
          let same : c.in-Some.end ≡ e = same_Some c.in-Some.end e (sym end ∙ subst (λ (k : ℕ). slice_get c.args.ends.items k ≡ Some e) is at_e) in
          subst (λ (k : ℕ). IsMet config zone (length c.args.ends.items) k c.args.queues.now events memory c.args.served.now.items (told k) e.log.items) (sym is)
          (subst (λ (f : DeciderEnd). IsMet config zone (length c.args.ends.items) place c.args.queues.now events memory c.args.served.now.items (told place) f.log.items) same
          (met_before config zone (length c.args.ends.items) place c.args.queues.now events c.meet_one-refused.result memory c.args.served.now.items c.loop-end.served.items (told place) c.in-Some.end.log.items (sym inv.4) (neither_second c.loop-end.memory c.meet_one-refused.result) inv.3 mine)))
          (λ (apart : ¬ (d ≡ place)).
          met_before config zone (length c.args.ends.items) d c.args.queues.now events c.loop-end.memory memory c.args.served.now.items c.args.served.now.items (told d) e.log.items refl (neither_first c.loop-end.memory c.meet_one-refused.result) (kept_self c.args.served.now.items) (inv.7 config zone events told ends d e (omega (arith, lt, apart)) at_e))
          (cases_eq d place)),
    )
