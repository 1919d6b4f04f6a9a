use Rattle.std.proofs.Common.{◌≡◌, ℕ, Bool, List, ap, ap₂, ◌∙◌}
use Rattle.due_model.specs.declared.config.ObjectId.{ObjectId}
use Rattle.messages.specs.declared.entries.Entry.{Entry}
use Rattle.night_marks.specs.declared.conditions.Change.{Change}
use Rattle.night_marks.specs.Counts.{activity, least_of, mark_objects}
use Rattle.night_marks.specs.Kept.{given_up, least_marked, middle_mark, only_marks}
use Rattle.night_marks.proofs.kept.Kept.narrow_marks_of.Goals as goal

pub returns : goal.returns
returns c =
    let k = c.args.self.now in
    let first = c.args.first in
    let marks : c.as_slice-marks.result.now ≡ k.marks = c.as_slice-marks.ensures in
    let counts : c.in_ok-counts.counts ≡ activity k.marks k.changes = c.in_ok-counts.ensures ∙ ap₂ (λ (ms : List Entry) (cs : List Change). activity ms cs) marks c.as_slice.ensures in
    let least : c.least_of_marks-least.result ≡ least_marked k first =
    c.least_of_marks-least.ensures ∙ ap₂ (λ (ns : List ℕ) (ms : List Entry). least_of ns first (mark_objects ms)) counts marks in
    let only : c.only_marks_of-is_only.result ≡ only_marks (least_marked k first).0 k.marks =
    c.only_marks_of-is_only.ensures ∙ ap₂ (λ (o : ObjectId) (ms : List Entry). only_marks o.0 ms) least marks in
    let middle : c.middle_mark-moment.result ≡ middle_mark k.marks = c.middle_mark-moment.ensures ∙ ap (λ (ms : List Entry). middle_mark ms) marks in
    c.give_up.ensures
    ∙ ap (λ (o : ObjectId). given_up k o.0 c.only_marks_of-is_only.result c.middle_mark-moment.result) least
    ∙ ap (λ (b : Bool). given_up k (least_marked k first).0 b c.middle_mark-moment.result) only
    ∙ ap (λ (m : ℕ). given_up k (least_marked k first).0 (only_marks (least_marked k first).0 k.marks) m) middle
