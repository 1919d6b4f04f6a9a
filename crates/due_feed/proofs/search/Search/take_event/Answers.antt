use Rattle.std.proofs.Common.{◌≡◌, ◌≤◌, Err, List, length, false, Ok, ap, arith, refl, rules, subst, sym, ◌∙◌}
use Rattle.std.proofs.lemmas.Bool.{eq-eqb, ne_eqb}
use Rattle.lemmas.proofs.Results.{ok_is_no_fault}
use Rattle.due_model.specs.declared.config.Config.{Config}
use Rattle.due_model.specs.declared.event.Event.{Event}
use Rattle.due_model.specs.declared.zone.Zone.{Zone}
use Rattle.due_model.specs.claims.Limits.{max_events}
use Rattle.due_model.specs.claims.Proper.{IsProper}
use Rattle.decider.specs.declared.share.Share.{Share}
use Rattle.decider.specs.claims.Fits.{Fits, core_kept}
use Rattle.messages.specs.declared.entries.Entry.{Entry}
use Rattle.messages.specs.claims.Entries.{event_entries}
use Rattle.messages.specs.Entries.{notices_in}
use Rattle.due_feed.specs.Seen.{StopsAmong, is_ended}
use Rattle.due_feed.proofs.SearchLaws.{same_fault}
use Rattle.due_feed.proofs.search.Search.take_event.Given.{Over}
use Rattle.due_feed.proofs.search.Search.take_event.Goals.{After-show}
use Rattle.due_feed.proofs.search.Search.take_event.Goals as goal

pub decide-requires-clause-proper : goal.decide-requires-clause-proper
decide-requires-clause-proper g c =
    subst (λ (config : Config). IsProper config c.args.event) (sym (ap (λ (t : Config × Zone × Share). t.0) c.args.self.now.settings)) c.requires.proper

pub decide-requires-clause-fits : goal.decide-requires-clause-fits
decide-requires-clause-fits g c = (c.requires.fits.0, c.requires.fits.1)

-- an event that is decided can be numbered, and its entries are the definition's
decided : (g : Over) (c : After-show g) (past : List Event) → Fits (core_kept c.args.self.now.decider) past
    → (is_ended past (Ok c.args.event) ≡ false) × (c.entries-entries.result.now ≡ event_entries c.args.self.now.config.now c.args.self.now.zone.now c.args.event past)
decided g c past s =
    let set = c.args.self.now.settings in (
      ne_eqb (length past) max_events (λ at. ok_is_no_fault _ _ ((c.in-Ok.ensures.ended past s).1 at)),
      c.entries-entries.ensures ∙ c.in-Ok.ensures.all past s (ap (λ (t : Config × Zone × Share). t.2.deciders) set)
          ∙ ap (λ (t : Config × Zone × Share). event_entries t.0 t.1 c.args.event past) set,
    )

pub returns-in_ok-show-in-Ok-clause-goes_on : goal.returns-in_ok-show-in-Ok-clause-goes_on
returns-in_ok-show-in-Ok-clause-goes_on g c = λ past s counted.
    let is = decided g (goal.at.returns-in_ok-show-in-Ok-clause-goes_on g c).After-show past s in
    let short : length past ≤ max_events = s.short in (
      is.0,
      c.in-Ok.ensures.fits past s,
      omega (arith, counted, short, c.saturating_add-self.ensures),
      subst (λ (entries : List Entry). g.L.Looker.saw c.args.looker.now (notices_in entries) c.show.new.looker) is.1 c.in_ok-show-in-Ok.ensures.saw,
    )

pub returns-in_err-show-in-Ok-clause-stopped : goal.returns-in_err-show-in-Ok-clause-stopped
returns-in_err-show-in-Ok-clause-stopped g c = λ at past s.
    let given : c.from_residual.result ≡ Err c.in_err-show-in-Ok.field-0.0 = search rules in
    let is = decided g (goal.at.returns-in_err-show-in-Ok-clause-stopped g c).After-show past s in (
      is.0,
      subst (λ (entries : List Entry). StopsAmong g.L.Looker.saw g.L.Looker.stops c.args.looker.now (notices_in entries) c.show.new.looker) is.1
          (c.in_err-show-in-Ok.ensures.stopped (same_fault _ _ (sym given ∙ at))),
    )

pub returns-in-Err-Ended-clause-ends : goal.returns-in-Err-Ended-clause-ends
returns-in-Err-Ended-clause-ends g c = λ past s. (
  eq-eqb (length past) max_events ((c.in-Err-Ended.ensures.ended past s).0 (ap Err c.in-Err-Ended.field-0-is)),
  refl,
  g.L.Looker.stays c.args.looker.now,
)
