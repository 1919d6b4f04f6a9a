use Rattle.std.proofs.Common.{◌+◌, ◌∙◌, length, refl, subst, sym}
use Rattle.std.specs.Prelude.{IfSome}
use Rattle.std.specs.Map.{lookup}
use Rattle.std.proofs.Common.{List, ℕ}
use Rattle.object_dependency_loops.specs.Base.{host_count, service_count}
use Rattle.object_dependency_loops.specs.Described.{Describes, IsNodeOf}
use Rattle.object_reached.specs.Alike.{ListPlaces, places_eq}
use Rattle.object_dependency_loops.proofs.SpeechLemmas.{adds-more, adds-none, still-linked}
use Rattle.object_dependency_loops.proofs.described.push_described.Goals as goal

pub loop-place-init : goal.loop-place-init
loop-place-init c =
    let b = c.args.blocks.now in
    record {
      same = refl;
      added = adds-none (length b.blocks) (host_count b + service_count b) c.args.node c.args.edges.now.items c.args.links.now.items (Describes b c.args.listing.now.directives) c.requires.linked;
      found = λ others. subst (λ (entries : List (ListPlaces × ℕ)). IfSome (lookup (places_eq others) entries)
          (IsNodeOf b c.args.listing.now.directives (host_count b + service_count b) c.args.node c.args.edges.now.items others)) (sym c.new-nodes.ensures.empty) tt;
      alike = c.none_found-alikes.ensures c.args.listing.now;
    }

pub push_block-requires-clause-linked : goal.push_block-requires-clause-linked
push_block-requires-clause-linked c =
    let b = c.args.blocks.now in
    still-linked (length b.blocks) (host_count b + service_count b) c.args.node c.loop-place.next c.args.edges.now.items c.loop-place.edges.items c.args.links.now.items c.loop-place.links.items _
    (Describes b c.args.listing.now.directives) c.requires.linked c.loop-place.invariant.added

pub loop-place-preserved : goal.loop-place-preserved
loop-place-preserved c =
    let b = c.args.blocks.now in
    record {
      same = c.push_block.ensures.same ∙ c.loop-place.invariant.same;
      added = adds-more (length b.blocks) (host_count b + service_count b) c.loop-place.place-index 0 c.args.node c.loop-place.next c.in_ok-next.next c.args.edges.now.items c.loop-place.edges.items
          c.push_block.new.edges.items c.args.links.now.items c.loop-place.links.items c.push_block.new.links.items c.args.places.now (Describes b c.args.listing.now.directives) c.loop-place-test.true
          c.loop-place.invariant.added c.in_ok-next.ensures.added;
      found = c.in_ok-next.ensures.found;
      alike = c.in_ok-next.ensures.alike;
    }
