use Rattle.std.proofs.Common.{◌≡◌, ℕ, ◌+◌, ◌<◌, List, [], ◌∷◌, ◌++◌, length, get_or, ◌||◌, ◌∙◌, ap, sym, flat_map, take, append_assoc}
use Rattle.std.proofs.lemmas.List.{append-nil, take_more}
use Rattle.std.proofs.lemmas.Grind.{flat_map-append}
use Rattle.std.proofs.lemmas.Result.{err_from_is_err_and}
use Rattle.messages.specs.Message.{message_entries, message_passes}
use Rattle.messages.proofs.MessageLemmas.{has_more_after}
use Rattle.lemmas.proofs.Lists.{any_more}
use Rattle.std.specs.List.{list_any}
use Rattle.due_model.specs.declared.config.ContactId.{ContactId}
use Rattle.messages.proofs.outcome.add_to_receivers.Goals as goal

pub returns-in_err-passes-clause-left : goal.returns-in_err-passes-clause-left
returns-in_err-passes-clause-left c =
    let p = err_from_is_err_and c.from_residual.result c.from_residual.ensures.1 in
    rw p.1 (has_more_after c.args.entries.now.items (flat_map (λ contact. message_entries c.args.config.now c.args.message.now contact.0) (take c.loop-contact.contact-index c.args.receivers.now)) c.loop-contact.entries.items c.add_to_contact.new.entries.items
    c.loop-contact.invariant.added c.in_err-passes.ensures.left)

more : {X A : Type 0} (f : X → List A) (xs : List X) (i : ℕ) (d : X) (old now new : List A) → i < length xs → now ≡ old ++ flat_map f (take i xs)
    → new ≡ now ++ f (get_or xs i d) → new ≡ old ++ flat_map f (take (i + 1) xs)
more f xs i d old now new low so_far is =
    is ∙ ap (λ ys. ys ++ f (get_or xs i d)) so_far ∙ append_assoc old (flat_map f (take i xs)) (f (get_or xs i d))
    ∙ ap (λ ys. old ++ ys) (sym (ap (flat_map f) (take_more xs i d low) ∙ flat_map-append f (take i xs) (get_or xs i d ∷ []) ∙ ap (λ ys. flat_map f (take i xs) ++ ys) (append-nil (f (get_or xs i d)))))

pub loop-contact-preserved : goal.loop-contact-preserved
loop-contact-preserved c = record {
  added = more (λ (contact : ContactId). message_entries c.args.config.now c.args.message.now contact.0) c.args.receivers.now c.loop-contact.contact-index (record { 0 = 0 })
      c.args.entries.now.items c.loop-contact.entries.items c.add_to_contact.new.entries.items c.loop-contact-test.true c.loop-contact.invariant.added c.in_ok-passes.ensures.entries;
  passes = c.either-one_passes.ensures
      ∙ ap (λ b. b || c.in_ok-passes.passes) c.loop-contact.invariant.passes
      ∙ ap (λ b. list_any (λ contact. message_passes c.args.config.now c.args.message.now contact.0) (take c.loop-contact.contact-index c.args.receivers.now) || b) c.in_ok-passes.ensures.passes
      ∙ sym (any_more (λ (contact : ContactId). message_passes c.args.config.now c.args.message.now contact.0) c.args.receivers.now c.loop-contact.contact-index (record { 0 = 0 }) c.loop-contact-test.true);
}
