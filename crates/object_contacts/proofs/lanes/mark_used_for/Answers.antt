use Rattle.std.proofs.Common.{rules, ◌∙◌, List, get_or, refl, subst, take, take_all, ℕ}
use Rattle.std.proofs.lemmas.List.{take_more}
use Rattle.object_contacts.specs.claims.Lanes.{NamesCommand}
use Rattle.object_contacts.specs.Marks.{Marks, OfSome}
use Rattle.object_contacts.proofs.LaneLemmas.{nothing-read}
use Rattle.object_contacts.proofs.MarkLemmas.{marks-more, marks-none}
use Rattle.object_contacts.proofs.lanes.mark_used_for.Goals as goal
use Rattle.object_groups.specs.claims.Objects.{list_at}

pub loop-place-init : goal.loop-place-init
loop-place-init c = record {
  long = refl;
  marked = marks-none (λ place. NamesCommand c.args.commands.now (list_at c.args.values.now.blocks c.args.values.now.directive place)) c.args.marks.now;
  read = nothing-read c.args.commands.now c.args.values.now c.in_ok-read.read.items c.args.marks.now c.args.count
      (c.in_ok-read.ensures.items_if_clones_equal (λ y is. search rules));
}

pub mark_used_once-requires-clause-long : goal.mark_used_once-requires-clause-long
mark_used_once-requires-clause-long c = c.loop-place.invariant.long ∙ c.requires

pub loop-place-preserved : goal.loop-place-preserved
loop-place-preserved c =
    let commands = c.args.commands.now in
    let values = c.args.values.now in
    let places = c.args.places.now in
    let i = c.loop-place.place-index in
    record {
      long = c.mark_used_once.ensures.long ∙ c.loop-place.invariant.long;
      marked = marks-more (λ place. NamesCommand commands (list_at values.blocks values.directive place)) (take i places) _ (get_or places i 0) _ c.loop-place.marks _
          (take_more places i 0 c.loop-place-test.true) c.loop-place.invariant.marked c.in_ok-mark_used_once.ensures.marked;
      read = c.in_ok-mark_used_once.ensures.read;
    }

pub returns-clause-marked : goal.returns-clause-marked
returns-clause-marked c =
    let commands = c.args.commands.now in
    let values = c.args.values.now in
    subst (λ (places : List ℕ). Marks (OfSome (λ place. NamesCommand commands (list_at values.blocks values.directive place)) places) c.args.marks.now c.loop-place.marks)
    (take_all c.loop-place.place-index c.args.places.now c.loop-place-test.false) c.loop-place.invariant.marked
