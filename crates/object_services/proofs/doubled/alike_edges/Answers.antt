use Rattle.std.proofs.Common.{◌≡◌, ◌<◌, ◌∙◌, List, ap, arith, filter, length, subst, sym, ℕ}
use Rattle.std.specs.Prelude.{All}
use Rattle.std.specs.List.{range_with_len}
use Rattle.std.proofs.lemmas.List.Elements.{All-append, All-nil}
use Rattle.graph.specs.declared.edges.Edge.{Edge}
use Rattle.graph.specs.Edges.{ends_of, IsWithin}
use Rattle.object_groups.specs.claims.Names.{number_of}
use Rattle.object_services.specs.Alike.{is_alike}
use Rattle.object_services.proofs.AlikeLemmas.{alike-more, edge-within, number-few}
use Rattle.object_services.proofs.doubled.alike_edges.Goals as goal

pub loop-number-init : goal.loop-number-init
loop-number-init c = record {
  ends = λ first. ap (λ (edges : List Edge). ends_of edges first) c.in_ok-edges.ensures.items;
  within = subst (λ (edges : List Edge). All (IsWithin (length c.args.names.now)) edges) (sym c.in_ok-edges.ensures.items) (All-nil (IsWithin (length c.args.names.now)));
}

pub push_alike-requires-clause-first : goal.push_alike-requires-clause-first
push_alike-requires-clause-first c = number-few (length c.args.names.now) c.find.result c.find.ensures.within c.requires

pub loop-number-preserved : goal.loop-number-preserved
loop-number-preserved c =
    let names = c.args.names.now in
    let number = c.loop-number.number in
    let low : number < length names = omega (arith, c.len-number-end.ensures, c.loop-number-test.true) in
    record {
      ends = λ first. alike-more names c.loop-number.edges.items c.push_alike.new.edges.items number first c.find.result (c.loop-number.invariant.ends first)
          (c.find.ensures.number ∙ ap (λ (name : List ℕ). number_of names name) c.name.ensures) c.in_ok-push_alike.ensures;
      within = subst (λ (edges : List Edge). All (IsWithin (length names)) edges) (sym c.in_ok-push_alike.ensures)
          (All-append (IsWithin (length names)) c.loop-number.edges.items _ c.loop-number.invariant.within (edge-within (length names) number c.find.result c.find.ensures.within low));
    }

pub returns-clause-ends : goal.returns-clause-ends
returns-clause-ends c = λ first.
    let names = c.args.names.now in
    let end : c.loop-number.number ≡ length names = omega (arith, c.len-number-end.ensures, c.loop-number.auto.number-end, c.loop-number-test.false) in
    c.loop-number.invariant.ends first ∙ ap (λ (n : ℕ). filter (is_alike names first) (range_with_len 0 n)) end

pub returns-clause-within : goal.returns-clause-within
returns-clause-within c = c.loop-number.invariant.within
