use Rattle.std.proofs.Common.{rules, ◌≡◌, ◌++◌, [], List, Bool, true, false, map, refl, sym, ap, ◌∙◌, subst, append-nil, inl}
use Rattle.channel.specs.claims.Channels.{Account, receipt_of}
use Rattle.due_model.specs.declared.notice.Notice.{Notice}
use Rattle.undelivered.specs.Record.{Record}
use Rattle.undelivered.specs.declared.Why.TheVariants.{Failed}
use Rattle.delivery_worker.specs.claims.Attempts.{HasFailed}
use Rattle.delivery_worker.specs.Picked.{next_record}
use Rattle.delivery_worker.proofs.OfferLaws.{takes_all}
use Rattle.delivery_worker.proofs.worker.tend_next.Goals as goal

-- the record with which a channel begins is empty
begins_empty : (first : Bool) (lane : Record) → (first ≡ true → lane.taken ≡ []) → (next_record first lane).taken ≡ []
begins_empty true lane fresh = fresh refl
begins_empty false lane fresh = refl

pub returns-clause-own : goal.returns-clause-own
returns-clause-own g c = λ fresh.
    let account = g.C.Channel.account in
    let old = c.args.channel.now in
    let began : c.end_record.new.lane ≡ next_record c.args.first c.args.lane.now = search rules in
    let empty : c.end_record.new.lane.taken ≡ [] = ap (λ (l : Record). l.taken) began ∙ begins_empty c.args.first c.args.lane.now fresh in
    let start = sym (ap (λ (ns : List Notice). (account old).taken ++ map receipt_of ns) empty ∙ append-nil (account old).taken) in
    inl (
      c.tend-served.ensures.ended ∙ ap (λ (l : Record). l.ended) began,
      ap (λ (a : Account). a.taken) c.close-2.ensures.account ∙ c.tend-served.ensures.equal (account old).taken start,
      takes_all g.C.Channel.offered g.C.Channel.follows c.args.setup.tries c.args.setup.config.now c.end_record.new.lane c.tend-served.new.lane (c.tend-served.result.1 ≡ Failed)
          old c.tend-served.new.channel c.close-2.new.self empty c.tend-served.ensures.offered c.close-2.ensures.offered,
    )

pub returns-clause-tried : goal.returns-clause-tried
returns-clause-tried g c = λ failed.
    let account = g.C.Channel.account in
    let old = c.args.channel.now in
    subst (λ (a : Account). HasFailed c.args.setup.tries c.args.setup.config.now (account old).limit (account old).failures a.failures c.tend-served.new.lane.hand)
    (sym c.close-2.ensures.account) (c.tend-served.ensures.failed failed)
