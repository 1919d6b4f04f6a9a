use Rattle.std.proofs.Common.{◌<◌, ◌≤◌, length, arith, sym, ◌∙◌}
use Rattle.std.proofs.lemmas.List.{length-map}
use Rattle.object_values.specs.Values.{texts}
use Rattle.value_places.proofs.LineLemmas.{lines-end, lines-found, lines-next, lines-other}
use Rattle.value_places.proofs.lines.line_of.Goals as goal
use Rattle.value_places.proofs.lines.line_of.Goals.{then-names, else-names}

pub returns-then-begins_block : goal.returns-then-begins_block
returns-then-begins_block c =
    lines-next (texts c.args.lines.now) c.args.define c.args.name.now c.loop-at.at c.loop-at.number c.loop-at.invariant (sym c.begins_block.ensures ∙ c.if-begins_block.true)

pub loop-at-preserved : goal.loop-at-preserved
loop-at-preserved c =
    let lines = texts c.args.lines.now in
    let define = c.args.define in
    let name = c.args.name.now in
    let at = c.loop-at.at in
    let number = c.loop-at.number in
    let far = c.loop-at.invariant in
    let apart = sym c.begins_block.ensures ∙ c.if-begins_block.false in
    elim c.if-names.branch [
      | then-names w ↦
          let within : at < length lines = (let same = length-map c.args.lines.now (λ line. line.now) in let before = c.loop-at-test.true in omega (arith, same, before)) in
          lines-found lines define name at number c.if-names.number within far apart (sym c.names.ensures ∙ w.if-names.true) w.number-is
      | else-names w ↦ lines-other lines define name at number c.if-names.number far apart (sym c.names.ensures ∙ w.if-names.false) w.number-is
    ]

pub returns : goal.returns
returns c =
    let same = length-map c.args.lines.now (λ line. line.now) in
    let after = c.loop-at-test.false in
    let all : length (texts c.args.lines.now) ≤ c.loop-at.at = omega (arith, same, after) in
    lines-end (texts c.args.lines.now) c.args.define c.args.name.now c.loop-at.at c.loop-at.number all c.loop-at.invariant
