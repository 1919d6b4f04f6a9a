use Rattle.std.proofs.Common.{◌≡◌, List, ◌∷◌, Ok, length, inl, inr, ap, sym, ◌∙◌, arith}
use Rattle.std.proofs.lemmas.Grind.{common_steps}
use Rattle.object_reader.specs.claims.Joined.{JoinedLine}
use Rattle.object_reader.specs.Joined.{onto_first}
use Rattle.object_reader.proofs.Joining.{join_breaks, join_more, join_ends, no_lines_left}
use Rattle.object_reader.proofs.joined.JoinedReader.join.Goals as goal
use Rattle.object_reader.proofs.joined.JoinedReader.join.Goals.{then-loop-goes_on-test+else-not-is_empty, else-loop-goes_on-test}

pub returns-in-Err : goal.returns-in-Err
returns-in-Err c =
    let made = ap (onto_first c.args.number c.args.first.now) (sym c.self.view_is) ∙ c.loop-goes_on.invariant.0 in
    join_breaks c.args.number c.loop-goes_on.self-inside.line c.loop-goes_on.joined.items c.loop-goes_on.goes_on _ _ made c.loop-goes_on-test.true _ _ c.split_line.ensures.first c.in-Err.fault c.in-Err.ensures

pub loop-goes_on-preserved : goal.loop-goes_on-preserved
loop-goes_on-preserved c = (
  rw c.in_ok-extend_from_slice-in-Ok.ensures.items (rw c.trim_start.ensures (join_more c.args.number c.loop-goes_on.self-inside.line c.loop-goes_on.joined.items c.loop-goes_on.goes_on _ _ c.loop-goes_on.invariant.0 c.loop-goes_on-test.true _ _ c.split_line.ensures.first c.in-Ok.piece.bytes.now c.in-Ok.piece.goes_on c.in-Ok.ensures)),
  (omega (arith, c.loop-goes_on.invariant.1.0, c.split_line.ensures.shorter), λ known. (c.split_line.ensures.utf8 (c.loop-goes_on.invariant.1.1 known)).1),
)

pub returns : goal.returns
returns c =
    let made = ap (onto_first c.args.number c.args.first.now) (sym c.self.view_is) ∙ c.loop-goes_on.invariant.0 in
    elim c.loop-goes_on-test.branch [
      | then-loop-goes_on-test+else-not-is_empty w ↦
          let empty : length c.loop-goes_on.self-inside.rest.now ≡ 0 = grind (arith, common_steps) in
          join_ends c.args.number c.loop-goes_on.self-inside.line c.loop-goes_on.joined.items c.loop-goes_on.goes_on _ _ made (inr (no_lines_left c.loop-goes_on.self-inside.rest.now empty))
          ∙ ap (λ (js : List JoinedLine). let j : JoinedLine = record { line = c.args.number; text = Ok c.loop-goes_on.joined.items } in j ∷ js) (sym w.self-is)
      | else-loop-goes_on-test w ↦
          join_ends c.args.number c.loop-goes_on.self-inside.line c.loop-goes_on.joined.items c.loop-goes_on.goes_on _ _ made (inl w.loop-goes_on-test.false)
          ∙ ap (λ (js : List JoinedLine). let j : JoinedLine = record { line = c.args.number; text = Ok c.loop-goes_on.joined.items } in j ∷ js) (sym w.self-is)
    ]
