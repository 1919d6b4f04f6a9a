use Rattle.std.proofs.Common.{◌≡◌, ◌+◌, ap, arith, length, ℕ}
use Rattle.object_groups.specs.declared.lists.Direction.TheVariants.{ToNames}
use Rattle.object_dependency_loops.proofs.SpeechLemmas.{adds-listed}
use Rattle.object_dependency_loops.proofs.lists.push_listed.Goals as goal

pub returns : goal.returns
returns c = λ blocks objects are few.
    let count_is : c.saturating_add-count.result ≡ c.args.node + length c.args.places.now = omega (arith, c.saturating_add-count.ensures, c.if-count.false) in
    adds-listed blocks objects c.args.node c.in_ok-next.next c.args.edges.now.items c.push_lists.new.edges.items c.args.links.now.items c.push_links.new.links.items c.args.places.now c.args.names.now
    c.args.values.now.blocks c.args.values.now.directive c.args.first c.args.all are few c.requires.names c.requires.all
    (record { direction = ToNames; node = c.args.node; first = c.args.first; all = c.args.all; count = c.saturating_add-count.result })
    (ap (λ (n : ℕ). record { direction = ToNames; node = c.args.node; first = c.args.first; all = c.args.all; count = n }) count_is)
    c.in_ok-next.ensures.edges c.in_ok-push_links.ensures
