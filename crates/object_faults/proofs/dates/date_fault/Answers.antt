use Rattle.std.proofs.Common.{◌≡◌, ◌<◌, ◌∙◌, List, None, Some, ap, length, refl, subst, sym}
use Rattle.std.specs.Prelude.{slice_get}
use Rattle.std.specs.List.{list_any}
use Rattle.std.proofs.lemmas.Option.{slice_get_read}
use Rattle.object_faults.specs.Columns.{date_at}
use Rattle.object_faults.specs.claims.Dated.{is_bad_line, is_other_line}
use Rattle.object_faults.proofs.DateLemmas.{fault-is, fault-no_period, fault-unregistered, kept-line-is}
use Rattle.object_inheritance.specs.declared.dated_lines.Line.{Line}
use Rattle.object_faults.proofs.dates.date_fault.Goals as goal
use Rattle.object_reader.specs.declared.block.Block.{Block}

pub returns-then-not-is_registered-clause-fault : goal.returns-then-not-is_registered-clause-fault
returns-then-not-is_registered-clause-fault c =
    let blocks = c.blocks-blocks.result.now in
    let block = c.index-blocks-place.result in
    let within = subst (λ (bs : List Block). c.args.place < length bs) (sym c.blocks-blocks.ensures.value) c.requires.within in
    subst (λ (bs : List Block). None ≡ date_at bs c.args.place) c.blocks-blocks.ensures.value
    (fault-unregistered blocks c.args.place block (slice_get_read blocks (length blocks) c.args.place block refl within c.index-blocks-place.is)
    (sym c.is_registered.ensures ∙ c.if-not-is_registered.true))

pub returns-then-not-is_period-clause-fault : goal.returns-then-not-is_period-clause-fault
returns-then-not-is_period-clause-fault c =
    let blocks = c.blocks-blocks.result.now in
    let block = c.index-blocks-place.result in
    let within = subst (λ (bs : List Block). c.args.place < length bs) (sym c.blocks-blocks.ensures.value) c.requires.within in
    subst (λ (bs : List Block). None ≡ date_at bs c.args.place) c.blocks-blocks.ensures.value
    (fault-no_period blocks c.args.place block (slice_get_read blocks (length blocks) c.args.place block refl within c.index-blocks-place.is)
    (sym c.is_period.ensures ∙ c.if-not-is_period.true))

pub returns-clause-fault : goal.returns-clause-fault
returns-clause-fault c =
    let blocks = c.blocks-blocks.result.now in
    let templates = c.args.templates.now in
    let block = c.index-blocks-place.result in
    let within = subst (λ (bs : List Block). c.args.place < length bs) (sym c.blocks-blocks.ensures.value) c.requires.within in
    let here = slice_get_read blocks (length blocks) c.args.place block refl within c.index-blocks-place.is in
    fault-is templates c.args.place block c.has_bad.result c.has_other.result c.date_by.result
    (subst (λ (bs : List Block). slice_get bs c.args.place ≡ Some block) c.blocks-blocks.ensures.value here)
    (sym c.is_registered.ensures ∙ c.if-not-is_registered.false) (sym c.is_period.ensures ∙ c.if-not-is_period.false)
    (kept-line-is is_bad_line templates c.args.place c.in_ok-lines.lines.items c.has_bad.result
    (c.has_bad.ensures ∙ ap (λ (ls : List Line). list_any (λ line. is_bad_line line.name.now line.text.now) ls) c.as_slice.ensures.value) c.in_ok-lines.ensures.lines)
    (kept-line-is is_other_line templates c.args.place c.in_ok-lines.lines.items c.has_other.result
    (c.has_other.ensures ∙ ap (λ (ls : List Line). list_any (λ line. is_other_line line.name.now line.text.now) ls) c.as_slice-2.ensures.value) c.in_ok-lines.ensures.lines)
    c.date_by.ensures
