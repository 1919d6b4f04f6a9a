use Rattle.std.proofs.Common.{◌≡◌, ◌≤◌, ◌<◌, ◌∙◌, List, Bool, ap, false, length, map, replicate, subst, sym, ℕ}
use Rattle.std.specs.Prelude.{All}
use Rattle.std.proofs.lemmas.List.{take_at}
use Rattle.std.proofs.lemmas.Result.{IfOk-weaker}
use Rattle.due_model.specs.claims.Limits.{max_lanes}
use Rattle.object_contacts.specs.claims.Lanes.{NamesLane}
use Rattle.object_contacts.specs.Marks.{marked}
use Rattle.object_contacts.proofs.LaneLemmas.{marks-length}
use Rattle.object_contacts.proofs.MarkLemmas.{are-lanes, marked-low}
use Rattle.object_contacts.proofs.rights.lanes_listed.Goals as goal
use Rattle.object_values.specs.Values.{texts}

pub lane_ids-requires : goal.lane_ids-requires
lane_ids-requires c =
    let first : c.as_mut_slice.result.now ≡ replicate (length c.args.lanes.now) false = c.as_mut_slice.ensures.value ∙ c.in_ok-marks.ensures.items_if_clones_equal (λ y is. is) in
    let third : c.as_slice.result.now ≡ c.mark_lanes.new.marks =
    c.as_slice.ensures.value ∙ take_at c.mark_lanes.new.marks _ c.in_ok-marks.marks.len (c.mark_lanes.ensures.long ∙ c.as_mut_slice.ensures.len) in
    let few : length c.as_slice.result.now ≤ max_lanes =
    subst (λ (n : ℕ). n ≤ max_lanes) (sym (ap (λ (marks : List Bool). length marks) third ∙ c.mark_lanes.ensures.long ∙ ap (λ (marks : List Bool). length marks) first ∙ marks-length (length c.args.lanes.now)))
    c.requires in
    subst (λ (numbers : List ℕ). All (λ number. number < max_lanes) numbers) (sym (c.as_slice-2.ensures.value ∙ c.in_ok-numbers.ensures)) (marked-low c.as_slice.result.now max_lanes few)

pub returns : goal.returns
returns c =
    let first : c.as_mut_slice.result.now ≡ replicate (length c.args.lanes.now) false = c.as_mut_slice.ensures.value ∙ c.in_ok-marks.ensures.items_if_clones_equal (λ y is. is) in
    let third : c.as_slice.result.now ≡ c.mark_lanes.new.marks =
    c.as_slice.ensures.value ∙ take_at c.mark_lanes.new.marks _ c.in_ok-marks.marks.len (c.mark_lanes.ensures.long ∙ c.as_mut_slice.ensures.len) in
    IfOk-weaker c.lane_ids.result _ _
    (λ ids are. are-lanes (NamesLane c.args.commands.now c.args.lanes.now (texts c.args.entries.now)) (length c.args.lanes.now) c.as_mut_slice.result.now c.mark_lanes.new.marks (map (λ id. id.0) ids.items) first
    (are ∙ c.as_slice-2.ensures.value ∙ c.in_ok-numbers.ensures ∙ ap (λ (marks : List Bool). marked marks) third)
    c.mark_lanes.ensures.marked)
    c.lane_ids.ensures
