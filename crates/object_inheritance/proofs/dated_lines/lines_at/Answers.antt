use Rattle.std.proofs.Common.{List, [], ap, refl, subst, sym}
use Rattle.object_inheritance.specs.declared.dated_lines.Line.{Line}
use Rattle.object_inheritance.specs.claims.DatedLines.{AreLines}
use Rattle.object_inheritance.specs.DatedLines.{named}
use Rattle.object_inheritance.specs.Inherited.{AreInherited}
use Rattle.object_inheritance.specs.LineSearch.{AreMarks, IsSearch}
use Rattle.object_inheritance.proofs.LineLemmas.{lines-are, none-found}
use Rattle.object_inheritance.proofs.SearchLemmas.{search-done}
use Rattle.object_inheritance.proofs.dated_lines.lines_at.Goals as goal
use Rattle.object_reader.specs.declared.block.Block.{Block}

pub search-requires-clause-found : goal.search-requires-clause-found
search-requires-clause-found c = none-found _ c.nothing_found-found.ensures.lines c.nothing_found-found.ensures.names

pub returns-clause-lines : goal.returns-clause-lines
returns-clause-lines c =
    let blocks = c.blocks-blocks.result.now in
    subst (λ (bs : List Block). AreLines bs c.args.place (named c.search.new.found.lines.items)) c.blocks-blocks.ensures.value
    (lines-are blocks c.args.place c.search.new.found c.in_ok-search.ensures.found
    (search-done blocks c.args.place c.search.new.found.lines.items c.search.new.marks c.in_ok-search.ensures.search))

pub returns-clause-marks : goal.returns-clause-marks
returns-clause-marks c =
    let blocks = c.blocks-blocks.result.now in
    subst (λ (bs : List Block). AreMarks bs c.forget.new.marks) c.blocks-blocks.ensures.value
    (c.in_ok-forget.ensures blocks c.args.place
    (subst (λ (lines : List Line). IsSearch blocks c.args.place lines c.search.new.marks []) (sym c.as_slice.ensures.value) c.in_ok-search.ensures.search))
