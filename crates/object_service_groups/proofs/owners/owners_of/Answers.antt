use Rattle.std.proofs.Common.{◌≡◌, ◌∙◌, [], List, ap, arith, length, replicate, ℕ}
use Rattle.std.specs.Prelude.{slice_index_or}
use Rattle.std.specs.List.{flat_map, range_with_len}
use Rattle.object_service_groups.specs.claims.Groups.{owners_of}
use Rattle.object_service_groups.proofs.NumberLemmas.{blocks-more}
use Rattle.object_service_groups.proofs.owners.owners_of.Goals as goal

pub loop-number-preserved : goal.loop-number-preserved
loop-number-preserved c =
    blocks-more (λ number. replicate (length (slice_index_or c.args.lists.now number [])) number) c.loop-number.owners.items c.push_block.new.owners.items _ c.loop-number.number
    c.loop-number.invariant c.in_ok-push_block.ensures
    (ap (λ (hosts : List ℕ). replicate (length hosts) c.loop-number.number) c.hosts.ensures)

pub returns : goal.returns
unfolding owners_of
returns c =
    let lists = c.args.lists.now in
    let end : c.loop-number.number ≡ length lists = omega (arith, c.len-number-end.ensures, c.loop-number.auto.number-end, c.loop-number-test.false) in
    c.loop-number.invariant ∙ ap (λ (n : ℕ). flat_map (λ number. replicate (length (slice_index_or lists number [])) number) (range_with_len 0 n)) end
