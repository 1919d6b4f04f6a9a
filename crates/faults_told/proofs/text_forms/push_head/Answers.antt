use Rattle.std.proofs.Common.{ap}
use Rattle.faults_told.specs.Forms.{place_text}
use Rattle.faults_told.proofs.AppendLemmas.{head_added}
use Rattle.faults_told.proofs.text_forms.push_head.Goals as goal

pub returns : goal.returns
returns c = head_added _ _ _ _ _ _ _ c.in_ok-push_place.ensures c.in_ok-push.ensures (ap (place_text c.args.sources.now) c.line_at.ensures) c.name.ensures
