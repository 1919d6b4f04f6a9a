use Rattle.std.proofs.Common.{◌≡◌, List, ap, rules, ◌∙◌}
use Rattle.std.proofs.lemmas.Fn.{filter_same}
use Rattle.night_marks.specs.declared.conditions.Change.{Change}
use Rattle.night_marks.specs.Lists.{changes_without}
use Rattle.night_marks.proofs.lists.Changes.leave_out.Goals as goal

pub returns : goal.returns
returns c =
    let left : c.retain.new.self.items ≡ changes_without c.args.object.0 c.self.inside.changes.items = filter_same _ _ _ (λ x b f' k. search rules) _ _ c.retain.ensures.filtered in
    left ∙ ap (λ (xs : List Change). changes_without c.args.object.0 xs) c.self.view_is
