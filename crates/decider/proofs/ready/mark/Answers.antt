use Rattle.std.proofs.Common.{ap, ◌∙◌, arith}
use Rattle.decider.specs.declared.staging.NewBook.{NewBook}
use Rattle.decider.proofs.ReadyLaws.{marked_more}
use Rattle.decider.proofs.ready.mark.Goals as goal

pub mark_one-requires : goal.mark_one-requires
mark_one-requires c =
    omega (
      arith,
      ap (λ (new : NewBook). new.object.0) c.new_book-item.is,
      c.requires c.loop-new_book.new_book-index c.new_book-item.result c.loop-new_book-test.true,
      c.loop-new_book.invariant.room,
    )

pub loop-new_book-preserved : goal.loop-new_book-preserved
loop-new_book-preserved c =
    let was = c.loop-new_book.invariant in
    record {
      marked = λ o.
          marked_more c.args.decided.now c.loop-new_book.new_book-index c.new_book-item.result c.loop-new_book.index.moments c.mark_one.new.index.moments o
          c.loop-new_book-test.true c.new_book-item.is c.mark_one.ensures.entries
          ∙ was.marked o;
      room = omega (arith, was.room, c.mark_one.ensures.room);
      examined = c.mark_one.ensures.examined ∙ was.examined;
    }
