use Rattle.report_picture.proofs.NightLaws.{keeps_the_report}
use Rattle.report_picture.proofs.laws.what_is_drawn.Goals as goal

pub returns : goal.returns
returns g = keeps_the_report g.what_is_kept.ensures
