use Rattle.std.proofs.Common.{ℕ, List, ◌++◌, map, flat_map, ap, ◌∙◌, sym, append_assoc}
use Rattle.std.specs.List.{range_with_len}
use Rattle.std.proofs.lemmas.Result.{err_from_is_err_and}
use Rattle.lemmas.proofs.Numbers.{flat_range_more}
use Rattle.messages.specs.declared.entries.Entry.{Entry}
use Rattle.messages.specs.declared.entries.Entry.TheVariants.{Sent}
use Rattle.messages.specs.Message.{lane_entries, lane_notices}
use Rattle.messages.proofs.MessageLemmas.{has_more_after}
use Rattle.messages.proofs.contact.add_on_lanes.Goals as goal

pub loop-lane-preserved : goal.loop-lane-preserved
loop-lane-preserved c =
    let f : ℕ → List Entry = λ l. map Sent (lane_notices c.args.message.now c.args.contact.0 c.args.rights.now l) in
    let n = c.loop-lane.lane in
    c.in_ok-add_on_lane.ensures.entries
    ∙ ap (λ xs. xs ++ f n) c.loop-lane.invariant
    ∙ append_assoc c.args.entries.now.items (flat_map f (range_with_len 0 n)) (f n)
    ∙ ap (λ xs. c.args.entries.now.items ++ xs) (sym (flat_range_more f n))

pub returns-in_err-add_on_lane-clause-left : goal.returns-in_err-add_on_lane-clause-left
returns-in_err-add_on_lane-clause-left c =
    let p = err_from_is_err_and c.from_residual.result c.from_residual.ensures.1 in
    rw p.1 (has_more_after c.args.entries.now.items (lane_entries c.args.message.now c.args.contact.0 c.args.rights.now c.loop-lane.lane) c.loop-lane.entries.items c.add_on_lane.new.entries.items
    c.loop-lane.invariant c.in_err-add_on_lane.ensures.left)
