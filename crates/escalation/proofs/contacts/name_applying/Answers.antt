use Rattle.std.proofs.Common.{◌∙◌, ◌++◌, ap, get_or, sym, take}
use Rattle.std.proofs.lemmas.List.{append_assoc}
use Rattle.escalation.specs.Matching.{applying}
use Rattle.escalation.specs.Named.{has_some, named_by}
use Rattle.escalation.proofs.MatchingLemmas.{after_one, after_other, named_push, read_at, some_push}
use Rattle.escalation.proofs.contacts.name_applying.Goals as goal
use Rattle.escalation.proofs.contacts.name_applying.Goals.{then-applies+in_ok-extend_from_slice, else-applies}

pub loop-place-preserved : goal.loop-place-preserved
loop-place-preserved c =
    let config = c.args.config.now in
    let places = c.args.places.now in
    let i = c.loop-place.place-index in
    let low = c.loop-place-test.true in
    let e = c.index-as_slice-place.result in
    let at = read_at config.escalations c.as_slice.result.now (get_or places i 0) e c.as_slice.ensures (c.requires.within i 0 low) c.index-as_slice-place.is in
    let so_far = applying config c.args.zone.now c.args.number c.args.letter c.args.t (take i places) in
    let turn = c.loop-place.invariant in
    elim c.if-applies.branch [
      | then-applies+in_ok-extend_from_slice w ↦
          let more = after_one config c.args.zone.now c.args.number c.args.letter c.args.t places i e low at (sym (c.applies.ensures config c.requires.compiled) ∙ w.if-applies.true) in
          record {
            some = w.some-is ∙ sym (ap has_some more ∙ some_push so_far e);
            named = ap (λ named. named.items) w.named-is ∙ w.in_ok-extend_from_slice.ensures.items ∙ ap (λ contacts. c.loop-place.named.items ++ contacts) w.as_slice-then-applies.ensures
                ∙ ap (λ named. named ++ e.contacts) turn.named ∙ append_assoc c.args.named.now.items (named_by so_far) e.contacts
                ∙ ap (λ named. c.args.named.now.items ++ named) (sym (ap named_by more ∙ named_push so_far e));
          }
      | else-applies w ↦
          let same = after_other config c.args.zone.now c.args.number c.args.letter c.args.t places i e low at (sym (c.applies.ensures config c.requires.compiled) ∙ w.if-applies.false) in
          record {
            some = w.some-is ∙ turn.some ∙ sym (ap has_some same);
            named = ap (λ named. named.items) w.named-is ∙ turn.named ∙ ap (λ named. c.args.named.now.items ++ named) (sym (ap named_by same));
          }
    ]
