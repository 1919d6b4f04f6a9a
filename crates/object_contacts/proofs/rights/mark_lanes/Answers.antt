use Rattle.std.proofs.Common.{◌≡◌, ◌<◌, ◌∙◌, Option, Some, refl, subst, sym, take, ℕ}
use Rattle.std.specs.Prelude.{IfSome}
use Rattle.lemmas.proofs.Searches.{texts-more}
use Rattle.object_contacts.specs.claims.Lanes.{lane_named}
use Rattle.object_contacts.specs.Marks.{Marks}
use Rattle.object_contacts.proofs.MarkLemmas.{marks-more, marks-none}
use Rattle.object_contacts.proofs.rights.mark_lanes.Goals as goal
use Rattle.object_values.specs.Values.{texts}

pub loop-entry-init : goal.loop-entry-init
loop-entry-init c = record {
  long = refl;
  marked = marks-none (λ entry k. lane_named c.args.commands.now c.args.lanes.now entry ≡ Some k) c.args.marks.now;
}

pub mark-requires : goal.mark-requires
mark-requires c =
    subst (λ (n : ℕ). IfSome c.lane_named.result (λ number. number < n)) (sym (c.loop-entry.invariant.long ∙ c.requires)) c.lane_named.ensures.within

pub loop-entry-preserved : goal.loop-entry-preserved
loop-entry-preserved c =
    let commands = c.args.commands.now in
    let lanes = c.args.lanes.now in
    record {
      long = c.mark.ensures.long ∙ c.loop-entry.invariant.long;
      marked = marks-more (λ entry k. lane_named commands lanes entry ≡ Some k) (texts (take c.loop-entry.entry-index c.args.entries.now)) _ _ _ c.loop-entry.marks _
          (texts-more c.args.entries.now c.loop-entry.entry-index _ c.loop-entry-test.true) c.loop-entry.invariant.marked
          (subst (λ (found : Option ℕ). Marks (λ k. found ≡ Some k) c.loop-entry.marks c.mark.new.marks) c.lane_named.ensures.lane c.mark.ensures.marked);
    }
