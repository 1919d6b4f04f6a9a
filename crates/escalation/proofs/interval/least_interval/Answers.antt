use Rattle.std.proofs.Common.{◌∙◌, Some, ap, get_or, min, option_map, sym, unwrap_or}
use Rattle.escalation.specs.Matching.{least_of}
use Rattle.escalation.proofs.MatchingLemmas.{after_one, after_other, least_push, read_at}
use Rattle.escalation.proofs.interval.least_interval.Goals as goal
use Rattle.escalation.proofs.interval.least_interval.Goals.{then-applies, else-applies}

pub loop-place-preserved : goal.loop-place-preserved
loop-place-preserved c =
    let config = c.args.config.now in
    let places = c.args.places.now in
    let i = c.loop-place.place-index in
    let low = c.loop-place-test.true in
    let e = c.index-as_slice-place.result in
    let at = read_at config.escalations c.as_slice.result.now (get_or places i 0) e c.as_slice.ensures (c.requires.within i 0 low) c.index-as_slice-place.is in
    elim c.if-applies.branch [
      | then-applies w ↦ w.least-is ∙ ap Some (w.lesser.ensures ∙ ap (λ least. unwrap_or (option_map (λ other. min other e.interval) least) e.interval) c.loop-place.invariant)
          ∙ sym (ap least_of (after_one config c.args.zone.now c.args.number c.args.letter c.args.t places i e low at (sym (c.applies.ensures config c.requires.compiled) ∙ w.if-applies.true)) ∙ least_push _ e)
      | else-applies w ↦ w.least-is ∙ c.loop-place.invariant
          ∙ sym (ap least_of (after_other config c.args.zone.now c.args.number c.args.letter c.args.t places i e low at (sym (c.applies.ensures config c.requires.compiled) ∙ w.if-applies.false)))
    ]
