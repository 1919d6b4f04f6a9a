use Rattle.std.proofs.Common.{◌≡◌, List, ap, rules, ◌∙◌}
use Rattle.std.proofs.lemmas.Fn.{filter_same}
use Rattle.messages.specs.declared.entries.Entry.{Entry}
use Rattle.night_marks.specs.Lists.{marks_from}
use Rattle.night_marks.proofs.lists.Marks.begin_at.Goals as goal

pub returns : goal.returns
returns c =
    let left : c.retain.new.self.items ≡ marks_from c.args.moment c.self.inside.marks.items = filter_same _ _ _ (λ x b f' k. search rules) _ _ c.retain.ensures.filtered in
    left ∙ ap (λ (xs : List Entry). marks_from c.args.moment xs) c.self.view_is
