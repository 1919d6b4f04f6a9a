use Rattle.std.proofs.Common.{◌≡◌, refl, ap, sym, ◌∙◌, subst, true, false, [], ◌∷◌, rules}
use Rattle.channel.specs.claims.Channels.{Account}
use Rattle.channel.specs.Channels.{offer_of}
use Rattle.journaled.specs.Claims.{IsHeld, Past, is_settled}
use Rattle.journaled.proofs.PartLaws.{begun_then, chosen_notice, failed_offered, of_same, refused_offered, same_notice, settled_offered, taken_offered, text_is}
use Rattle.journaled.proofs.journaled.JournaledChannel.deliver.Goals as goal

pub returns-then-len-limit-clause-offered : goal.returns-then-len-limit-clause-offered
returns-then-len-limit-clause-offered g c =
    refused_offered g.C.Channel.account g.C.Channel.offered g.J.Journal.is_broken g.J.Journal.wrote c.args.self.now c.args.self.now (offer_of c.args.letter.now false) refl refl refl (g.C.Channel.stays _) (g.J.Journal.stays _) (λ was. was) refl refl

pub returns-then-self-clause-offered : goal.returns-then-self-clause-offered
returns-then-self-clause-offered g c =
    of_same g.C.Channel.account g.C.Channel.offered g.J.Journal.is_broken g.J.Journal.wrote _ _ _ _ c.self.view_is
    (refused_offered g.C.Channel.account g.C.Channel.offered g.J.Journal.is_broken g.J.Journal.wrote _ _ (offer_of c.args.letter.now false) refl refl refl (g.C.Channel.stays _) (g.J.Journal.stays _) (λ was. was) refl c.count_failure.ensures.taken)

pub returns-in-Held-clause-offered : goal.returns-in-Held-clause-offered
returns-in-Held-clause-offered g c =
    of_same g.C.Channel.account g.C.Channel.offered g.J.Journal.is_broken g.J.Journal.wrote _ _ _ _ c.self.view_is
    (settled_offered g.C.Channel.account g.C.Channel.offered g.J.Journal.is_broken g.J.Journal.wrote _ _ (offer_of c.args.letter.now true) refl refl refl (g.C.Channel.stays _) (g.J.Journal.stays _) refl refl c.keep.ensures.taken
    (subst (λ (p : Past). is_settled p c.args.letter.now.notice ≡ true) c.deref.ensures (c.find.ensures.settled c.in-Held.is))
    (subst (λ (p : Past). IsHeld p c.args.letter.now.notice) c.deref.ensures (c.find.ensures.held c.in-Held.is)))

pub returns-in-Differs-clause-offered : goal.returns-in-Differs-clause-offered
returns-in-Differs-clause-offered g c =
    of_same g.C.Channel.account g.C.Channel.offered g.J.Journal.is_broken g.J.Journal.wrote _ _ _ _ c.self.view_is
    (refused_offered g.C.Channel.account g.C.Channel.offered g.J.Journal.is_broken g.J.Journal.wrote _ _ (offer_of c.args.letter.now false) refl refl refl (g.C.Channel.stays _) (g.J.Journal.stays _) (λ was. was) refl c.count_failure-in-Differs.ensures.taken)

pub returns-in_default-clause-offered : goal.returns-in_default-clause-offered
returns-in_default-clause-offered g c =
    of_same g.C.Channel.account g.C.Channel.offered g.J.Journal.is_broken g.J.Journal.wrote _ _ _ _ c.self.view_is
    (refused_offered g.C.Channel.account g.C.Channel.offered g.J.Journal.is_broken g.J.Journal.wrote _ _ (offer_of c.args.letter.now false) refl refl refl (g.C.Channel.stays _) (g.J.Journal.stays _) (λ was. was) refl c.count_failure-in_default.ensures.taken)

pub returns-then-not-begin-clause-offered : goal.returns-then-not-begin-clause-offered
returns-then-not-begin-clause-offered g c =
    let no : c.begin.result ≡ false = search rules in
    of_same g.C.Channel.account g.C.Channel.offered g.J.Journal.is_broken g.J.Journal.wrote _ _ _ _ c.self.view_is
    (refused_offered g.C.Channel.account g.C.Channel.offered g.J.Journal.is_broken g.J.Journal.wrote _ _ (offer_of c.args.letter.now false) refl refl refl (g.C.Channel.stays _) (c.begin.ensures.failed no) (λ _. c.begin.ensures.broken no) refl c.count_failure-then-not-begin.ensures.taken)

pub returns-in-Ok-deliver-clause-offered : goal.returns-in-Ok-deliver-clause-offered
returns-in-Ok-deliver-clause-offered g c =
    let yes : c.begin.result ≡ true = search rules in
    of_same g.C.Channel.account g.C.Channel.offered g.J.Journal.is_broken g.J.Journal.wrote _ _ _ _ c.self.view_is
    (taken_offered g.C.Channel.account g.C.Channel.offered g.J.Journal.is_broken g.J.Journal.wrote _ _ (offer_of c.args.letter.now true) c.in-Ok-deliver.ensures.number c.in-Ok-deliver.ensures.limit refl
    c.chosen.result.now.text
    (text_is _ c.deref-in-New.result.now _ c.limit-in-New.result c.args.letter.now c.chosen.result.now true c.in-Ok.marked c.deref-in-New.ensures c.limit-in-New.ensures
    c.in-Ok.ensures.begun c.in-Ok.ensures.text c.in-Ok.ensures.none c.chosen.ensures.some c.chosen.ensures.none)
    (subst (λ (p : Past). is_settled p c.args.letter.now.notice ≡ false) c.deref.ensures (c.find.ensures.new c.in-New.is)) (c.begin.ensures.whole yes)
    (same_notice g.C.Channel.offered _ _ c.args.letter.now c.chosen.result.now true
    (chosen_notice c.args.letter.now c.chosen.result.now c.in-Ok.marked c.in-Ok.ensures.notice c.chosen.ensures.some c.chosen.ensures.none) c.in-Ok-deliver.ensures.offered)
    (begun_then g.J.Journal.wrote g.J.Journal.is_broken g.J.Journal.follows _ c.begin.new.journal _ c.args.letter.now.notice (c.begin.ensures.wrote yes) c.finish.ensures)
    refl c.keep-in-Ok-deliver.ensures.taken)

pub returns-clause-offered : goal.returns-clause-offered
returns-clause-offered g c =
    let yes : c.begin.result ≡ true = search rules in
    of_same g.C.Channel.account g.C.Channel.offered g.J.Journal.is_broken g.J.Journal.wrote _ _ _ _ c.self.view_is
    (failed_offered g.C.Channel.account g.C.Channel.offered g.J.Journal.is_broken g.J.Journal.wrote _ _ (offer_of c.args.letter.now false) c.in-Err.ensures.number c.in-Err.ensures.limit refl
    c.chosen.result.now.text
    (text_is _ c.deref-in-New.result.now _ c.limit-in-New.result c.args.letter.now c.chosen.result.now false c.in-Ok.marked c.deref-in-New.ensures c.limit-in-New.ensures
    c.in-Ok.ensures.begun c.in-Ok.ensures.text c.in-Ok.ensures.none c.chosen.ensures.some c.chosen.ensures.none)
    (subst (λ (p : Past). is_settled p c.args.letter.now.notice ≡ false) c.deref.ensures (c.find.ensures.new c.in-New.is)) (c.begin.ensures.whole yes)
    (same_notice g.C.Channel.offered _ _ c.args.letter.now c.chosen.result.now false
    (chosen_notice c.args.letter.now c.chosen.result.now c.in-Ok.marked c.in-Ok.ensures.notice c.chosen.ensures.some c.chosen.ensures.none) c.in-Err.ensures.offered)
    (c.begin.ensures.wrote yes) refl c.count_failure-in-Err.ensures.taken)
