use Rattle.std.proofs.Common.{◌≡◌, ◌++◌, rules}
use Rattle.faults_told.proofs.AppendLemmas.{two_added}
use Rattle.faults_told.proofs.text_forms.push_telling.Goals as goal

pub returns : goal.returns
returns c =
    let more : c.extend_from_slice.new.self.items ≡ c.push_head.new.text.items ++ c.in_ok-rest.rest.items = search rules in
    record { rest = c.in_ok-rest.rest.items; is = two_added _ _ _ _ _ c.in_ok-push_head.ensures more }
