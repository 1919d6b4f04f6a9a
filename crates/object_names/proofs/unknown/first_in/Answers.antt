use Rattle.std.proofs.Common.{rules, ◌≡◌, ◌∙◌, ◌<◌, ◌≤◌, List, ap, arith, false, get_or, length, refl, sym, true}
use Rattle.std.proofs.lemmas.Option.{slice_get_read}
use Rattle.object_reader.specs.declared.block.Block.{Block}
use Rattle.object_names.specs.Unknown.{has_unknown_by}
use Rattle.object_names.proofs.UnknownLemmas.{at-place, first-here, first-none, marked-at, none-before, none-found, none-here}
use Rattle.object_names.proofs.unknown.first_in.Goals as goal

pub loop-place-init : goal.loop-place-init
loop-place-init c = record {
  none = none-before (λ place. has_unknown_by c.args.values.now.blocks place c.args.reference);
  found = none-found _ c.args.names.now c.args.values.now c.in_ok-found.found.items (length c.args.blocks.now) (c.in_ok-found.ensures.items_if_clones_equal (λ y is. search rules));
}

pub names_unknown-requires-clause-registered : goal.names_unknown-requires-clause-registered
names_unknown-requires-clause-registered c =
    let blocks = c.args.values.now.blocks in
    let i = c.loop-place.place in
    let x = c.index-blocks-place.result in
    let long = ap (λ (list : List Block). length list) c.requires.blocks in
    let within : i < length blocks = omega (arith, long, c.loop-place-test.true) in
    marked-at blocks c.args.registered.now i x c.requires.registered within (c.index-blocks-place.is ∙ ap (λ (list : List Block). get_or list i x) c.requires.blocks)

pub returns-then-branch : goal.returns-then-branch
returns-then-branch c =
    let blocks = c.args.values.now.blocks in
    let i = c.loop-place.place in
    let x = c.index-blocks-place.result in
    let long = ap (λ (list : List Block). length list) c.requires.blocks in
    let within : i < length blocks = omega (arith, long, c.loop-place-test.true) in
    let is : x ≡ get_or blocks i x = c.index-blocks-place.is ∙ ap (λ (list : List Block). get_or list i x) c.requires.blocks in
    first-here (λ place. has_unknown_by blocks place c.args.reference) i c.loop-place.invariant.none
    (at-place blocks c.args.reference i x true (slice_get_read blocks (length blocks) i x refl within is) (sym c.if-branch.true ∙ c.in_ok-names_unknown.ensures.unknown))

pub loop-place-preserved : goal.loop-place-preserved
loop-place-preserved c =
    let blocks = c.args.values.now.blocks in
    let i = c.loop-place.place in
    let x = c.index-blocks-place.result in
    let long = ap (λ (list : List Block). length list) c.requires.blocks in
    let within : i < length blocks = omega (arith, long, c.loop-place-test.true) in
    let is : x ≡ get_or blocks i x = c.index-blocks-place.is ∙ ap (λ (list : List Block). get_or list i x) c.requires.blocks in
    record {
      none = none-here (λ place. has_unknown_by blocks place c.args.reference) i c.loop-place.invariant.none
          (at-place blocks c.args.reference i x false (slice_get_read blocks (length blocks) i x refl within is) (sym c.if-branch.false ∙ c.in_ok-names_unknown.ensures.unknown));
      found = c.in_ok-names_unknown.ensures.found;
    }

pub returns : goal.returns
returns c =
    let long = ap (λ (list : List Block). length list) c.requires.blocks in
    let all : length c.args.values.now.blocks ≤ c.loop-place.place = omega (arith, long, c.loop-place-test.false) in
    first-none c.args.values.now.blocks c.args.reference c.loop-place.place all c.loop-place.invariant.none
