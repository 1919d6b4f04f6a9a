use Rattle.std.proofs.Common.{◌≡◌, ◌∷◌, ◌++◌, [], List, ℕ, ap, refl, subst, ◌∙◌}
use Rattle.std.specs.Arc.{arc_value}
use Rattle.std.specs.Io.KnownBytes.{Appends}
use Rattle.due_model.specs.declared.config.Config.{Config}
use Rattle.journal_file.specs.Text.{Text, Wrote}
use Rattle.journal_text.specs.Cuts.{IsEntryBack}
use Rattle.journal_text.specs.Entries.{body}
use Rattle.journal_file.proofs.WroteLaws.{wrote_line}
use Rattle.journal_file.proofs.text_journal.TextJournalJournal.write.Goals as goal

pub returns-then-write_flushed-clause-wrote : goal.returns-then-write_flushed-clause-wrote
returns-then-write_flushed-clause-wrote g c = λ _.
    let config : c.deref.result.now ≡ arc_value c.self.inside.config = c.deref.ensures in
    let said : IsEntryBack c.deref.result.now c.self.inside.lane c.args.entry = rw c.in-Ok-Some.field-0-is at c.in-Ok-Some.ensures.back in
    let back : IsEntryBack (arc_value c.self.inside.config) c.self.inside.lane c.args.entry =
    subst (λ (k : Config). IsEntryBack k c.self.inside.lane c.args.entry) config said in
    let made : c.in-Ok-Some.line.items ≡ body c.deref.result.now c.args.entry ++ 10 ∷ [] = rw c.in-Ok-Some.field-0-is at c.in-Ok-Some.ensures.line in
    let line : c.in-Ok-Some.line.items ≡ body (arc_value c.self.inside.config) c.args.entry ++ 10 ∷ [] =
    made ∙ ap (λ (k : Config). body k c.args.entry ++ 10 ∷ []) config in
    let bytes : Appends (g.W.Write.contents c.self.inside.writer) (g.W.Write.contents c.write_flushed.new.writer) c.in-Ok-Some.line.items =
    subst (λ (bs : List ℕ). Appends (g.W.Write.contents c.self.inside.writer) (g.W.Write.contents c.write_flushed.new.writer) bs)
    c.deref-2.ensures.value (c.write_flushed.ensures.whole c.if-write_flushed.true) in
    let now : Text g.row.W.Denot = record { config = arc_value c.self.inside.config; lane = c.self.inside.lane; writer = c.write_flushed.new.writer; is_broken = c.self.inside.is_broken } in
    let was : Text g.row.W.Denot = record { config = arc_value c.self.inside.config; lane = c.self.inside.lane; writer = c.self.inside.writer; is_broken = c.self.inside.is_broken } in
    subst (λ (a : Text g.row.W.Denot). Wrote g.W.Write.contents a (c.args.entry ∷ []) now) c.self.view_is
    (wrote_line g.W.Write.contents was now refl refl c.if-self.false c.args.entry back c.in-Ok-Some.line.items line bytes)
