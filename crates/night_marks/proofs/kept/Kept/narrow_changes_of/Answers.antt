use Rattle.std.proofs.Common.{◌≡◌, ℕ, Bool, List, ap, ap₂, ◌∙◌}
use Rattle.due_model.specs.declared.config.ObjectId.{ObjectId}
use Rattle.messages.specs.declared.entries.Entry.{Entry}
use Rattle.night_marks.specs.declared.conditions.Change.{Change}
use Rattle.night_marks.specs.Counts.{activity, change_objects, least_of}
use Rattle.night_marks.specs.Kept.{given_up, least_changed, middle_change, only_changes}
use Rattle.night_marks.proofs.kept.Kept.narrow_changes_of.Goals as goal

pub returns : goal.returns
returns c =
    let k = c.args.self.now in
    let first = c.args.first in
    let changes : c.as_slice-changes.result.now ≡ k.changes = c.as_slice-changes.ensures in
    let counts : c.in_ok-counts.counts ≡ activity k.marks k.changes = c.in_ok-counts.ensures ∙ ap₂ (λ (ms : List Entry) (cs : List Change). activity ms cs) c.as_slice.ensures changes in
    let least : c.least_of_changes-least.result ≡ least_changed k first =
    c.least_of_changes-least.ensures ∙ ap₂ (λ (ns : List ℕ) (cs : List Change). least_of ns first (change_objects cs)) counts changes in
    let only : c.only_changes_of-is_only.result ≡ only_changes (least_changed k first).0 k.changes =
    c.only_changes_of-is_only.ensures ∙ ap₂ (λ (o : ObjectId) (cs : List Change). only_changes o.0 cs) least changes in
    let middle : c.middle_change-moment.result ≡ middle_change k.changes = c.middle_change-moment.ensures ∙ ap (λ (cs : List Change). middle_change cs) changes in
    c.give_up.ensures
    ∙ ap (λ (o : ObjectId). given_up k o.0 c.only_changes_of-is_only.result c.middle_change-moment.result) least
    ∙ ap (λ (b : Bool). given_up k (least_changed k first).0 b c.middle_change-moment.result) only
    ∙ ap (λ (m : ℕ). given_up k (least_changed k first).0 (only_changes (least_changed k first).0 k.changes) m) middle
