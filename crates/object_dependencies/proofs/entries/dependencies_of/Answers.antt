use Rattle.std.proofs.Common.{◌≡◌, ◌<◌, ◌≤◌, ◌++◌, ◌∙◌, [], List, ap, arith, get_or, length, map, refl, sym, take_all, ℕ}
use Rattle.std.specs.Prelude.{codes}
use Rattle.std.specs.List.{sum_by}
use Rattle.object_reader.specs.declared.block.Block.{Block}
use Rattle.object_dependencies.specs.declared.entries.Terms.{Terms}
use Rattle.object_dependencies.specs.claims.Entries.{entries_at, entries_in, entry_of, terms_at}
use Rattle.object_dependencies.specs.claims.Pairs.{Pair}
use Rattle.object_dependencies.proofs.EntryLemmas.{as-many, block-more, count-more}
use Rattle.object_dependencies.proofs.entries.dependencies_of.Goals as goal

pub terms_at-terms-requires-clause-within : goal.terms_at-terms-requires-clause-within
terms_at-terms-requires-clause-within c =
    let many = as-many c.args.templates.now c.args.blocks.now.lists (length c.args.templates.now) c.args.pairs.now c.requires.pairs in
    let long = ap (λ (blocks : List Block). length blocks) c.requires.blocks in
    omega (arith, many, long, c.len-place-end.ensures, c.loop-place-test.true, c.loop-place.auto.place-end)

pub terms_at-terms-requires-clause-inherits : goal.terms_at-terms-requires-clause-inherits
terms_at-terms-requires-clause-inherits c = c.in_ok-columns.ensures.inherits ∙ ap (λ (blocks : List Block). record { blocks = blocks; directive = codes "inherits_parent" }) (sym c.requires.blocks)

pub terms_at-terms-requires-clause-period : goal.terms_at-terms-requires-clause-period
terms_at-terms-requires-clause-period c = c.in_ok-columns.ensures.period ∙ ap (λ (blocks : List Block). record { blocks = blocks; directive = codes "dependency_period" }) (sym c.requires.blocks)

pub loop-place-preserved : goal.loop-place-preserved
loop-place-preserved c =
    let blocks = c.args.templates.now in
    let periods = c.args.periods.now in
    let parts = c.args.pairs.now in
    let place = c.loop-place.place in
    let old = c.loop-place.dependencies.items in
    let terms = c.terms_at-terms.result in
    let here = get_or parts place [] in
    let within : place < length parts = omega (arith, c.len-place-end.ensures, c.loop-place-test.true, c.loop-place.auto.place-end) in
    let more : c.push_pairs.new.dependencies.items ≡ old ++ map (entry_of terms) here =
    c.in_ok-push_pairs.ensures ∙ ap (λ (pairs : List Pair). old ++ map (entry_of terms) pairs) (sym c.both.ensures) in
    let is : map (entry_of terms) here ≡ entries_at blocks periods parts place =
    ap (λ (t : Terms). map (entry_of t) here) (c.terms_at-terms.ensures ∙ ap (λ (bs : List Block). terms_at bs periods place) c.requires.blocks) in
    record {
      made = block-more blocks periods parts place terms here old c.push_pairs.new.dependencies.items c.loop-place.invariant.made more is;
      many = count-more blocks periods parts place terms here old c.push_pairs.new.dependencies.items within refl c.loop-place.invariant.many more;
    }

pub returns-clause-dependencies : goal.returns-clause-dependencies
returns-clause-dependencies c =
    let many = as-many c.args.templates.now c.args.blocks.now.lists (length c.args.templates.now) c.args.pairs.now c.requires.pairs in
    let end : c.loop-place.place ≡ length c.args.templates.now = omega (arith, many, c.len-place-end.ensures, c.loop-place-test.false, c.loop-place.auto.place-end) in
    (c.args.pairs.now, c.requires.pairs, c.loop-place.invariant.made ∙ ap (λ (n : ℕ). entries_in c.args.templates.now c.args.periods.now c.args.pairs.now n) end)

pub returns-clause-count : goal.returns-clause-count
returns-clause-count c =
    let end : length c.args.pairs.now ≤ c.loop-place.place = omega (arith, c.len-place-end.ensures, c.loop-place-test.false, c.loop-place.auto.place-end) in
    c.loop-place.invariant.many ∙ ap (sum_by length) (take_all c.loop-place.place c.args.pairs.now end)
