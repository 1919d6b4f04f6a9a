use Rattle.std.proofs.Common.{refl, subst, sym}
use Rattle.channel_kinds.specs.declared.device.AnyDevice.TheVariants.{Mailbox, Pager}
use Rattle.channel_kinds.specs.Device.{sends_of}
use Rattle.channel_kinds.proofs.device.AnyDeviceTextDevice.send.Goals as goal

pub returns-in-Mailbox-clause-sends : goal.returns-in-Mailbox-clause-sends
returns-in-Mailbox-clause-sends g c =
    subst (λ old. sends_of g.W.Write.contents g.W.Outlet.is_flushed g.S.Write.contents g.S.Read.remaining g.S.Outlet.is_flushed g.S.Outlet.reads old c.args.text.now c.send.result (Mailbox c.send.new.self))
    (sym c.in-Mailbox.is) (c.send.new.self, refl, c.send.ensures.sends)

pub returns-in-Pager-clause-sends : goal.returns-in-Pager-clause-sends
returns-in-Pager-clause-sends g c =
    subst (λ old. sends_of g.W.Write.contents g.W.Outlet.is_flushed g.S.Write.contents g.S.Read.remaining g.S.Outlet.is_flushed g.S.Outlet.reads old c.args.text.now c.send-in-Pager.result (Pager c.send-in-Pager.new.self))
    (sym c.in-Pager.is) (c.send-in-Pager.new.self, refl, c.send-in-Pager.ensures.sends)
