use Rattle.std.proofs.Common.{◌≡◌, ◌∷◌, [], ◌++◌, Bool, Err, List, cond, length, true, false, ◌||◌, Ok, sym, ap, subst, ◌∙◌}
use Rattle.std.proofs.lemmas.Bool.{eq-eqb, ne_eqb}
use Rattle.lemmas.proofs.Results.{ok_is_no_fault}
use Rattle.due_model.specs.declared.config.Config.{Config}
use Rattle.due_model.specs.declared.event.Event.{Event}
use Rattle.due_model.specs.declared.notice.Notice.{Notice}
use Rattle.due_model.specs.declared.zone.Zone.{Zone}
use Rattle.due_model.specs.claims.Limits.{max_events}
use Rattle.due_model.specs.claims.Proper.{IsProper}
use Rattle.decider.specs.declared.share.Share.{Share}
use Rattle.decider.specs.claims.Fits.{Fits, Kept, core_kept}
use Rattle.messages.specs.declared.entries.Entry.{Entry}
use Rattle.messages.specs.claims.Entries.{event_entries}
use Rattle.messages.specs.Entries.{notices_in}
use Rattle.notices_compared.specs.Past.{is_ended}
use Rattle.notices_compared.proofs.SideLaws.{or_all, or_none}
use Rattle.notices_compared.proofs.side.Side.decide.Goals as goal

pub decide-requires-clause-proper : goal.decide-requires-clause-proper
decide-requires-clause-proper c =
    subst (λ (config : Config). IsProper config c.args.event) (sym (ap (λ (t : Config × Zone × Share). t.0) c.args.self.now.settings)) c.requires.proper

-- an event that is decided can be numbered
pub returns-in_ok-add_notices-in-Ok-clause-fits : goal.returns-in_ok-add_notices-in-Ok-clause-fits
returns-in_ok-add_notices-in-Ok-clause-fits c = λ past s.
    let on : is_ended past (Ok c.args.event) ≡ false = ne_eqb (length past) max_events (λ at. ok_is_no_fault _ _ ((c.in-Ok.ensures.ended past s).1 at)) in
    subst (λ (b : Bool). Fits (core_kept c.decide.new.self) (cond b past (c.args.event ∷ past))) (sym on) (c.in-Ok.ensures.fits past s)

pub returns-in_ok-add_notices-in-Ok-clause-notices : goal.returns-in_ok-add_notices-in-Ok-clause-notices
returns-in_ok-add_notices-in-Ok-clause-notices c = λ past s.
    let set = c.args.self.now.settings in
    let on : is_ended past (Ok c.args.event) ≡ false = ne_eqb (length past) max_events (λ at. ok_is_no_fault _ _ ((c.in-Ok.ensures.ended past s).1 at)) in
    let entries : c.entries-entries.result.now ≡ event_entries c.args.self.now.config.now c.args.self.now.zone.now c.args.event past =
    c.entries-entries.ensures ∙ c.in-Ok.ensures.all past s (ap (λ (t : Config × Zone × Share). t.2.deciders) set)
    ∙ ap (λ (t : Config × Zone × Share). event_entries t.0 t.1 c.args.event past) set in
    c.in_ok-add_notices-in-Ok.ensures
    ∙ ap (λ (ns : List Notice). ns ++ notices_in c.entries-entries.result.now) c.requires.empty
    ∙ ap (λ (es : List Entry). notices_in es) entries
    ∙ sym (ap (λ (b : Bool). cond b [] (notices_in (event_entries c.args.self.now.config.now c.args.self.now.zone.now c.args.event past))) on)

pub returns-in_ok-add_notices-in-Ok-clause-ended : goal.returns-in_ok-add_notices-in-Ok-clause-ended
returns-in_ok-add_notices-in-Ok-clause-ended c = λ past s.
    let on : is_ended past (Ok c.args.event) ≡ false = ne_eqb (length past) max_events (λ at. ok_is_no_fault _ _ ((c.in-Ok.ensures.ended past s).1 at)) in
    subst (λ (b : Bool). c.args.self.now.ended ≡ (c.args.self.now.ended || b)) (sym on) (or_none c.args.self.now.ended)

-- one that isn't can't
pub returns-in-Err-Ended-clause-fits : goal.returns-in-Err-Ended-clause-fits
returns-in-Err-Ended-clause-fits c = λ past s.
    let over : is_ended past (Ok c.args.event) ≡ true = eq-eqb (length past) max_events ((c.in-Err-Ended.ensures.ended past s).0 (ap Err c.in-Err-Ended.field-0-is)) in
    subst (λ (b : Bool). Fits (core_kept c.decide.new.self) (cond b past (c.args.event ∷ past))) (sym over) (subst (λ (k : Kept). Fits k past) (sym c.in-Err-Ended.ensures.err.0) s)

pub returns-in-Err-Ended-clause-notices : goal.returns-in-Err-Ended-clause-notices
returns-in-Err-Ended-clause-notices c = λ past s.
    let over : is_ended past (Ok c.args.event) ≡ true = eq-eqb (length past) max_events ((c.in-Err-Ended.ensures.ended past s).0 (ap Err c.in-Err-Ended.field-0-is)) in
    c.requires.empty ∙ sym (ap (λ (b : Bool). cond b [] (notices_in (event_entries c.args.self.now.config.now c.args.self.now.zone.now c.args.event past))) over)

pub returns-in-Err-Ended-clause-ended : goal.returns-in-Err-Ended-clause-ended
returns-in-Err-Ended-clause-ended c = λ past s.
    let over : is_ended past (Ok c.args.event) ≡ true = eq-eqb (length past) max_events ((c.in-Err-Ended.ensures.ended past s).0 (ap Err c.in-Err-Ended.field-0-is)) in
    subst (λ (b : Bool). true ≡ (c.args.self.now.ended || b)) (sym over) (or_all c.args.self.now.ended)
