use Rattle.std.proofs.Common.{◌≡◌, List, ap, arith, length, subst, ℕ}
use Rattle.object_reached.specs.claims.Roles.{directives_of}
use Rattle.object_unknown_services.specs.Distinct.{IsMet}
use Rattle.object_unknown_services.proofs.DistinctLemmas.{descriptions-none, found-none, lists-none}
use Rattle.object_unknown_services.proofs.distinct.met_in.Goals as goal

pub loop-place-init : goal.loop-place-init
loop-place-init c =
    let blocks = c.args.naming.now.blocks in
    let role = c.args.naming.now.role in
    record {
      alike = c.none_found.ensures (record { blocks = blocks; directives = directives_of role });
      distinct = found-none blocks role c.new-3.result.items c.new-3.ensures.items;
      by_lists = lists-none blocks role c.new-3.result.items c.new.result.entries c.new.ensures.empty;
      by_descriptions = descriptions-none blocks role c.new-3.result.items c.new-2.result.entries c.new-2.ensures.empty;
    }

pub returns : goal.returns
returns c =
    let end : c.loop-place.place ≡ length c.args.naming.now.blocks = omega (arith, c.loop-place.auto.place-end, c.loop-place-test.false, ap (λ (bs : List _). length bs) c.blocks-place-end.ensures) in
    subst (λ (n : ℕ). IsMet c.args.naming.now.blocks c.args.naming.now.role n c.loop-place.met) end c.loop-place.invariant
