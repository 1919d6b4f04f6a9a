use Rattle.std.proofs.Common.{[], refl, append-nil}
use Rattle.delivery_worker.proofs.ChannelLaws.{served_closed}
use Rattle.delivery_worker.proofs.worker.serve.Goals as goal

pub returns-then-eq-clause-channels : goal.returns-then-eq-clause-channels
returns-then-eq-clause-channels g c =
    served_closed _ _ _ _ c.tend_channels-pass.new.lane c.close.new.self c.close.new.self c.tend_channels-pass.result.1 _ _ c.tend_channels-pass.ensures.serving c.close.ensures refl ([], append-nil c.close.new.self.undelivered) c.tend_channels-pass.ensures.channels

pub returns-clause-channels : goal.returns-clause-channels
returns-clause-channels g c =
    served_closed _ _ _ _ c.tend_channels-pass.new.lane c.close.new.self c.drain-pass.new.lane c.tend_channels-pass.result.1 _ _ c.tend_channels-pass.ensures.serving c.close.ensures c.drain-pass.ensures.kept c.drain-pass.ensures.grows c.tend_channels-pass.ensures.channels
