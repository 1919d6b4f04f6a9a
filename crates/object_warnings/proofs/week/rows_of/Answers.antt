use Rattle.std.proofs.Common.{◌≡◌, ◌++◌, ◌∷◌, [], ap, arith, ◌∙◌, rules}
use Rattle.object_warnings.specs.Hours.{rows_upto, week}
use Rattle.object_warnings.proofs.HourLemmas.{last-is, rows-more}
use Rattle.object_warnings.proofs.week.rows_of.Goals as goal

pub loop-minute-init : goal.loop-minute-init
loop-minute-init c = record { some = omega arith; long = c.in_ok-rows.ensures.long; rows = λ config are same. c.in_ok-rows.ensures.rows config are }

pub loop-minute-preserved : goal.loop-minute-preserved
loop-minute-preserved c =
    let more : c.push.new.self.items ≡ c.loop-minute.rows.items ++ c.in_ok-row.row ∷ [] = search rules in
    record {
      some = omega arith;
      long = search rules;
      rows = λ config are same. rows-more (λ r. r.items) config c.loop-minute.minute c.loop-minute.rows.items c.push.new.self.items c.in_ok-row.row
          (c.loop-minute.invariant.rows config are same) more
          (c.in_ok-row.ensures config are same
          (c.row_of-last.ensures
          ∙ last-is (λ r. r.items) config c.loop-minute.minute c.loop-minute.rows.items c.as_slice.result.now c.as_slice.ensures.value c.loop-minute.invariant.some
          (c.loop-minute.invariant.rows config are same)));
    }

pub returns : goal.returns
returns c =
    let is : c.loop-minute.minute ≡ week = omega (arith, c.loop-minute-test.false, c.loop-minute.auto.minute-end) in
    record {
      long = c.loop-minute.invariant.long ∙ is;
      rows = λ config are same. c.loop-minute.invariant.rows config are same ∙ ap (rows_upto config) is;
    }
