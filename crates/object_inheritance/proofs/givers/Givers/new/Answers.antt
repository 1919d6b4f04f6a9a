use Rattle.std.proofs.Common.{List, None, Option, ap, cond, eqb, sym, ℕ, ◌∙◌}
use Rattle.std.specs.Option.{option_or}
use Rattle.lemmas.proofs.Lists.{slice_get_read}
use Rattle.object_inheritance.proofs.GiverLemmas.{own-more}
use Rattle.object_values.specs.claims.Values.{value_in}
use Rattle.object_inheritance.proofs.givers.Givers.new.Goals as goal

pub loop-place-preserved : goal.loop-place-preserved
loop-place-preserved c name q =
    c.in_ok-add_block.ensures c.args.blocks.now (slice_get_read c.args.blocks.now c.loop-place.place c.index-blocks-place.result c.loop-place-test.true c.index-blocks-place.is) name q
    ∙ ap (λ (before : Option (List ℕ)). option_or (cond (eqb c.loop-place.place q) (value_in c.index-blocks-place.result.directives name) None) before) (c.loop-place.invariant name q)
    ∙ sym (own-more c.args.blocks.now c.loop-place.place q c.index-blocks-place.result name c.loop-place-test.true c.index-blocks-place.is)
