use Rattle.std.proofs.Common.{refl}
use Rattle.object_warnings.proofs.ToldLemmas.{known-same}
use Rattle.object_warnings.proofs.known_spans.span_if_fit.Goals as goal

pub returns-then-fits : goal.returns-then-fits
returns-then-fits c rows is = known-same rows c.args.one.now c.args.period c.args.hours.now (c.if-fits.ensures.period refl) (c.if-fits.ensures.hours refl) is
