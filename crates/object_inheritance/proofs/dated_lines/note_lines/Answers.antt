use Rattle.std.proofs.Common.{◌≡◌, ◌∷◌, ◌∙◌, ◌-◌, ◌<◌, ap, arith, drop, drop-cons, length, suc, sym, ℕ}
use Rattle.std.specs.Option.{option_or}
use Rattle.std.proofs.lemmas.List.{drop_all}
use Rattle.object_inheritance.specs.claims.DatedLines.{dated_line}
use Rattle.object_inheritance.specs.LineSearch.{noted}
use Rattle.object_inheritance.proofs.LineLemmas.{lines-more, lines-none}
use Rattle.object_inheritance.proofs.dated_lines.note_lines.Goals as goal
use Rattle.object_reader.specs.declared.block.Directive.{Directive}
use Rattle.object_values.specs.claims.Values.{value_in}

pub loop-left-init : goal.loop-left-init
loop-left-init c =
    let ds = c.args.directives.now in record {
      low = omega arith;
      found = c.requires;
      lines = lines-none c.args.found.now.lines.items (drop (length ds) ds) (drop_all (length ds) ds (omega arith));
    }

pub note-requires : goal.note-requires
note-requires c = c.loop-left.invariant.found

pub loop-left-preserved : goal.loop-left-preserved
loop-left-preserved c =
    let ds = c.args.directives.now in
    let left = c.loop-left.left in
    let i = left - 1 in
    let d = c.index-directives-left.result in
    let low = c.loop-left.invariant.low in
    let next : suc i ≡ left = omega (arith, c.loop-left-test.true) in
    let within : i < length ds = omega (arith, low, c.loop-left-test.true) in
    let split : drop i ds ≡ d ∷ drop left ds = drop-cons ds i d within
    ∙ ap (λ (x : Directive). x ∷ drop (suc i) ds) (sym c.index-directives-left.is) ∙ ap (λ (n : ℕ). d ∷ drop n ds) next in record {
      low = omega (arith, low);
      found = c.in_ok-note.ensures.found;
      lines = lines-more c.args.found.now.lines.items c.loop-left.found.lines.items c.note.new.found.lines.items (drop i ds) (drop left ds) d split c.loop-left.invariant.lines c.in_ok-note.ensures.noted;
    }

pub returns-clause-found : goal.returns-clause-found
returns-clause-found c = c.loop-left.invariant.found

pub returns-clause-noted : goal.returns-clause-noted
returns-clause-noted c name =
    let none : c.loop-left.left ≡ 0 = omega (arith, c.loop-left-test.false) in
    c.loop-left.invariant.lines name
    ∙ ap (λ (n : ℕ). option_or (noted c.args.found.now.lines.items name) (dated_line name (value_in (drop n c.args.directives.now) name))) none
