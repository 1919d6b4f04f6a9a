use Rattle.std.proofs.Common.{refl, ap, []}
use Rattle.channel.specs.claims.Channels.{Account}
use Rattle.journaled.proofs.PartLaws.{nothing_offered, of_same}
use Rattle.journaled.proofs.journaled.JournaledChannel.close.Goals as goal

pub returns-clause-offered : goal.returns-clause-offered
returns-clause-offered g c =
    of_same g.C.Channel.account g.C.Channel.offered g.J.Journal.is_broken g.J.Journal.wrote _ _ _ [] c.self.view_is
    (nothing_offered g.C.Channel.account g.C.Channel.offered g.J.Journal.is_broken g.J.Journal.wrote _ _ (ap (λ (x : Account). x.number) c.close.ensures.account) (ap (λ (x : Account). x.limit) c.close.ensures.account) refl c.close.ensures.offered (g.J.Journal.stays _) refl refl)
