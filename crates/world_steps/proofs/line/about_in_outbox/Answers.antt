use Rattle.std.proofs.Common.{◌≡◌, ℕ, ◌+◌, ◌∷◌, ◌++◌, [], List, cond, Some, slice_get, ◌==◌, take, sym, ap, ◌∙◌, arith, inl, inr}
use Rattle.std.specs.Global.{Vec}
use Rattle.std.proofs.lemmas.Bool.{eq-eqb, ne_eqb}
use Rattle.std.proofs.lemmas.List.{append-nil}
use Rattle.std.proofs.lemmas.List.Elements.{filter-append}
use Rattle.std.proofs.lemmas.Option.{none-some, slice_get_cases}
use Rattle.due_model.specs.declared.notice.Notice.{Notice}
use Rattle.decider.specs.claims.Outbox.{waiting_at}
use Rattle.steps.specs.claims.Lanes.{about}
use Rattle.world_steps.proofs.ListLemmas.{take_found}
use Rattle.world_steps.proofs.line.about_in_outbox.Goals.{in-Some+then-notice-object+in_ok-push, in-Some+else-notice-object, in_default}
use Rattle.world_steps.proofs.line.about_in_outbox.Goals as goal

-- the notices of object o up to a place, with the one that stands there
about_more : (o : ℕ) (w : List Notice) (place : ℕ) (n : Notice) → slice_get w place ≡ Some n → about o (take (place + 1) w) ≡ about o (take place w) ++ about o (n ∷ [])
about_more o w place n e = ap (about o) (take_found w place n e) ∙ filter-append (λ (m : Notice). m.object.0 == o) (take place w) (n ∷ [])

pub loop-place-preserved : goal.loop-place-preserved
loop-place-preserved c =
    let o = c.args.object.0 in
    let w = waiting_at c.args.outbox.now c.args.lane.0 in
    let place = c.loop-place.place in
    let so_far = about o (take place w) in
    elim c.match-get.branch [
      | in-Some+then-notice-object+in_ok-push b ↦
          let n = b.in-Some.notice in
          ap (λ (found : Vec Notice). found.items) b.found-is ∙ b.in_ok-push.ensures.items ∙ ap (λ (ns : List Notice). ns ++ n ∷ []) c.loop-place.invariant
          ∙ sym (about_more o w place n (sym c.get.ensures ∙ b.in-Some.is) ∙ ap (λ t. so_far ++ cond t (n ∷ []) []) (eq-eqb n.object.0 o b.if-notice-object.true))
      | in-Some+else-notice-object b ↦
          let n = b.in-Some.notice in
          ap (λ (found : Vec Notice). found.items) b.found-is ∙ c.loop-place.invariant
          ∙ sym (about_more o w place n (sym c.get.ensures ∙ b.in-Some.is) ∙ ap (λ t. so_far ++ cond t (n ∷ []) []) (ne_eqb n.object.0 o b.if-notice-object.false) ∙ append-nil so_far)
      | in_default b ↦ elim (slice_get_cases w place).1 [
        | inl s ↦ absurd (none-some s.0 (sym b.in_default.is ∙ c.get.ensures ∙ s.2))
        | inr s ↦ absurd (omega (arith, s.0, c.loop-place-test.true, c.waiting-place-end.ensures))
      ]
    ]
