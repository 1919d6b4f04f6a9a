use Rattle.std.proofs.Common.{◌≡◌, ◌-◌, ◌++◌, ◌∙◌, ℕ, List, length, take, drop, ap, sym, arith}
use Rattle.std.specs.Option.{option_copied}
use Rattle.text_lines.proofs.Marks.{finds_mark}
use Rattle.text_lines.proofs.line_reader.LineReader.move_held.Goals as goal

pub returns-else-parting-gt-TEXT_LIMIT-clause-found : goal.returns-else-parting-gt-TEXT_LIMIT-clause-found
returns-else-parting-gt-TEXT_LIMIT-clause-found g c =
    let before = c.args.text.now.items in
    let whole : c.deref.result.now ≡ before ++ c.args.self.now.held =
    c.deref.ensures.value ∙ c.in_ok-extend_from_slice.ensures.items ∙ ap (λ (xs : List ℕ). before ++ xs) c.held.ensures in
    let long : c.len-before.result ≡ length before = omega (arith, c.len-before.ensures, c.args.text.now.ok.0) in
    λ _. finds_mark (option_copied c.args.mark) c.args.self.now c.drop_held.new.self before c.deref.result.now c.truncate.new.self.items c.in-Ok.parting
    whole c.in-Ok.ensures.found.0 (omega (arith, c.in-Ok.ensures.found.1, c.requires.all))
    (c.drop_held.ensures.held ∙ ap (λ (k : ℕ). drop (c.in-Ok.parting.rest_start - k) c.args.self.now.held) long)
    c.drop_held.ensures.unread
    (c.truncate.ensures.items ∙ ap (λ (xs : List ℕ). take c.in-Ok.parting.text_end xs) (sym c.deref.ensures.value))
    (omega arith)
