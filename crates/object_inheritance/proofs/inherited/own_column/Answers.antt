use Rattle.std.proofs.Common.{◌≡◌, List, None, Some, ap, arith, get_or, length, length-set, refl, subst, take, ℕ, ◌∙◌}
use Rattle.std.proofs.Math.Seq.{take-length}
use Rattle.object_inheritance.specs.Columns.{IsOwn}
use Rattle.object_inheritance.specs.Givers.{last_at}
use Rattle.object_inheritance.specs.declared.givers.OwnText.{OwnText}
use Rattle.object_inheritance.proofs.ColumnLemmas.{own-written}
use Rattle.object_inheritance.proofs.inherited.own_column.Goals as goal

pub loop-own-preserved : goal.loop-own-preserved
loop-own-preserved c =
    let i = c.loop-own.own-index in
    let none : OwnText = record { place = 0; number = 0 } in
    let one : OwnText = get_or c.args.texts.now i none in
    let long = c.loop-own.invariant.long in
    let below = c.requires i none c.loop-own-test.true in
    record {
      long = length-set c.loop-own.column.items one.place _ ∙ long;
      each = λ blocks.
          own-written blocks c.args.texts.now c.loop-own.column.items i one none (Some (record { origin = one.place; number = one.number; further = None }))
          c.loop-own-test.true refl (omega (arith, below, long)) refl (c.loop-own.invariant.each blocks);
    }

pub returns-clause-each : goal.returns-clause-each
returns-clause-each c blocks place =
    let end : c.loop-own.own-index ≡ length c.args.texts.now = omega arith in
    subst (λ (texts : List OwnText). IsOwn blocks place (last_at blocks texts place) (get_or c.loop-own.column.items place None))
    (ap (λ (n : ℕ). take n c.args.texts.now) end ∙ take-length c.args.texts.now) (c.loop-own.invariant.each blocks place)
