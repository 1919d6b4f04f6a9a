use Rattle.faults_told.proofs.AppendLemmas.{place_added}
use Rattle.faults_told.proofs.text_forms.push_place.Goals as goal

pub returns : goal.returns
returns c = place_added _ _ _ _ _ _ _ _ _ _ _ c.in_ok-push.ensures c.in_ok-push-2.ensures c.in_ok-push_digits.ensures c.in_ok-push-3.ensures c.located-number.ensures.file c.located-number.ensures.number
