use Rattle.std.proofs.Common.{◌≡◌, ◌<◌, ◌∙◌, List, ap, length, subst, sym, ℕ}
use Rattle.std.specs.Prelude.{All, Contains}
use Rattle.object_reader.specs.declared.block.Block.{Block}
use Rattle.object_unknown_services.specs.Distinct.{AreDistinct}
use Rattle.object_unknown_services.specs.Keys.{AreListsOf}
use Rattle.object_unknown_services.proofs.DistinctLemmas.{lists-low, namers-are}
use Rattle.object_unknown_services.proofs.keys.namers_of.Goals as goal

pub described-requires-clause-found : goal.described-requires-clause-found
described-requires-clause-found c =
    subst (λ (bs : List Block). AreDistinct bs c.args.naming.now.role (length bs) c.as_slice-pairs.result.now) (sym c.requires)
    (subst (λ (ps : List (ℕ × ℕ)). AreDistinct c.args.naming.now.blocks c.args.naming.now.role (length c.args.naming.now.blocks) ps) (sym c.as_slice-pairs.ensures.value) c.in_ok-met.ensures.distinct)

pub by_list-requires : goal.by_list-requires
by_list-requires c =
    subst (λ (n : ℕ). All (λ pair. pair.1 < n) c.as_slice-pairs.result.now) (sym (ap (λ (bs : List Block). length bs) c.blocks-2.ensures))
    (subst (λ (ps : List (ℕ × ℕ)). All (λ pair. pair.1 < length c.args.naming.now.blocks) ps) (sym c.as_slice-pairs.ensures.value)
    (lists-low c.args.naming.now.blocks c.args.naming.now.role (length c.args.naming.now.blocks) c.in_ok-met.met.found.items c.in_ok-met.ensures.distinct))

pub returns : goal.returns
returns c =
    let blocks = c.args.services.now in
    let count : length c.blocks-2.result.now ≡ length blocks = ap (λ (bs : List Block). length bs) (c.blocks-2.ensures ∙ sym c.requires) in
    namers-are blocks c.args.naming.now.role c.as_slice-pairs.result.now c.in_ok-described.field-0 c.in_ok-by_list.field-0
    (subst (λ (bs : List Block). AreDistinct bs c.args.naming.now.role (length bs) c.as_slice-pairs.result.now) (sym c.requires)
    (subst (λ (ps : List (ℕ × ℕ)). AreDistinct c.args.naming.now.blocks c.args.naming.now.role (length c.args.naming.now.blocks) ps) (sym c.as_slice-pairs.ensures.value) c.in_ok-met.ensures.distinct))
    c.in_ok-described.ensures
    (subst (λ (n : ℕ). AreListsOf n (λ list place. Contains c.as_slice-pairs.result.now (place, list)) c.in_ok-by_list.field-0) count c.in_ok-by_list.ensures)
