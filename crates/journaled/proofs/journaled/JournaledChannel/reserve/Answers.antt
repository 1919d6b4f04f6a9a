use Rattle.std.proofs.Common.{refl, ap, []}
use Rattle.channel.specs.claims.Channels.{Account}
use Rattle.journaled.proofs.PartLaws.{nothing_offered, of_same}
use Rattle.journaled.proofs.journaled.JournaledChannel.reserve.Goals as goal

pub returns-then-self-gt0-clause-offered : goal.returns-then-self-gt0-clause-offered
returns-then-self-gt0-clause-offered g c =
    nothing_offered g.C.Channel.account g.C.Channel.offered g.J.Journal.is_broken g.J.Journal.wrote c.args.self.now c.args.self.now refl refl refl (g.C.Channel.stays _) (g.J.Journal.stays _) refl refl

pub returns-in_err-reserve-clause-offered : goal.returns-in_err-reserve-clause-offered
returns-in_err-reserve-clause-offered g c =
    of_same g.C.Channel.account g.C.Channel.offered g.J.Journal.is_broken g.J.Journal.wrote _ _ _ [] c.self.view_is
    (nothing_offered g.C.Channel.account g.C.Channel.offered g.J.Journal.is_broken g.J.Journal.wrote _ _ (ap (λ (x : Account). x.number) c.in_err-reserve.ensures.account) (ap (λ (x : Account). x.limit) c.in_err-reserve.ensures.account) refl c.in_err-reserve.ensures.offered (g.J.Journal.stays _) refl refl)

pub returns-in_err-reserve-2-clause-offered : goal.returns-in_err-reserve-2-clause-offered
returns-in_err-reserve-2-clause-offered g c =
    of_same g.C.Channel.account g.C.Channel.offered g.J.Journal.is_broken g.J.Journal.wrote _ _ _ [] c.self.view_is
    (nothing_offered g.C.Channel.account g.C.Channel.offered g.J.Journal.is_broken g.J.Journal.wrote _ _ (ap (λ (x : Account). x.number) c.in_ok-reserve.ensures.account) (ap (λ (x : Account). x.limit) c.in_ok-reserve.ensures.account) refl c.in_ok-reserve.ensures.offered (g.J.Journal.stays _) refl c.in_err-reserve-2.ensures.taken)

pub returns-clause-offered : goal.returns-clause-offered
returns-clause-offered g c =
    of_same g.C.Channel.account g.C.Channel.offered g.J.Journal.is_broken g.J.Journal.wrote _ _ _ [] c.self.view_is
    (nothing_offered g.C.Channel.account g.C.Channel.offered g.J.Journal.is_broken g.J.Journal.wrote _ _ (ap (λ (x : Account). x.number) c.in_ok-reserve.ensures.account) (ap (λ (x : Account). x.limit) c.in_ok-reserve.ensures.account) refl c.in_ok-reserve.ensures.offered (g.J.Journal.stays _) refl c.in_ok-reserve-2.ensures.taken)
