use Rattle.std.proofs.Common.{◌≡◌, drop}
use Rattle.decider.specs.Books.{settled}
use Rattle.decider.proofs.staging.settle.Given as goal

abbrev pub invariant-loop-new_book : goal.invariant-loop-new_book
invariant-loop-new_book l = settled (drop l.new_book-index l.decided) l.books.items ≡ settled l.decided l.fn.books.items
