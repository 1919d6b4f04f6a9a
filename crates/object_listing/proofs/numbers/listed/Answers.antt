use Rattle.std.proofs.Common.{◌∙◌, ap, sym, ℕ}
use Rattle.std.specs.List.{range_with_len}
use Rattle.std.proofs.lemmas.Result.{IfOk-weaker}
use Rattle.object_values.specs.Values.{texts}
use Rattle.object_listing.proofs.ListedLemmas.{all-listed, some-listed}
use Rattle.object_listing.proofs.numbers.listed.Goals as goal

pub returns-then-is_all : goal.returns-then-is_all
returns-then-is_all c = IfOk-weaker c.numbers_below.result _ _
    (λ numbers are. all-listed c.args.names.now (texts c.args.entries.now) numbers.items (sym c.if-is_all.ensures) (are ∙ ap (λ (n : ℕ). range_with_len 0 n) c.len.ensures))
    c.numbers_below.ensures

pub returns : goal.returns
returns c = IfOk-weaker c.numbers_of.result _ _
    (λ numbers are. some-listed c.args.names.now (texts c.args.entries.now) numbers.items (sym c.if-is_all.ensures) are)
    c.numbers_of.ensures
