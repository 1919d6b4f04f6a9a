use Rattle.std.proofs.Common.{◌≡◌, ◌+◌, length, take}
use Rattle.object_dependency_loops.specs.Base.{host_count, service_count}
use Rattle.object_reached.specs.Alike.{AreListsAlike}
use Rattle.object_dependency_loops.specs.Described.{AreFound, Describes}
use Rattle.object_dependency_loops.specs.Speech.{AddsSpeech}
use Rattle.object_dependency_loops.proofs.described.push_described.Given as goal

-- The groups stay; the nodes and links of the blocks so far, and what was found.
abbrev pub invariant-loop-place : goal.invariant-loop-place
invariant-loop-place l = record {
  same : l.hosts ≡ l.initial.hosts;
  added : AddsSpeech (length l.blocks.blocks) (host_count l.blocks + service_count l.blocks) l.node l.next l.initial.edges.items l.edges.items l.initial.links.items l.links.items
      (take l.place-index l.places) (Describes l.blocks l.listing.directives);
  found : AreFound l.blocks l.listing.directives (host_count l.blocks + service_count l.blocks) l.next l.edges.items l.nodes.entries;
  alike : AreListsAlike l.listing l.alikes;
}
