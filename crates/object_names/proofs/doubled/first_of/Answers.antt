use Rattle.std.proofs.Common.{◌≡◌, List, false, subst, sym, ℕ}
use Rattle.object_groups.specs.Names.{is_doubled}
use Rattle.object_groups.specs.claims.Objects.{names_in}
use Rattle.object_names.proofs.DoubledLemmas.{first-here, first-none, none-before, none-here}
use Rattle.object_names.proofs.doubled.first_of.Goals as goal

pub loop-number-init : goal.loop-number-init
loop-number-init c = none-before (names_in c.args.objects.now.blocks c.args.objects.now.kind)

pub returns-then-is_doubled : goal.returns-then-is_doubled
returns-then-is_doubled c =
    first-here c.args.objects.now.blocks c.args.objects.now.kind c.names.result.now c.places-place-items.result.now c.loop-number.number
    c.names.ensures.names c.places-place-items.ensures.places c.loop-number-test.true c.loop-number.invariant (sym c.if-is_doubled.ensures)

pub loop-number-preserved : goal.loop-number-preserved
loop-number-preserved c =
    none-here (names_in c.args.objects.now.blocks c.args.objects.now.kind) c.loop-number.number c.loop-number.invariant
    (subst (λ (ns : List (List ℕ)). is_doubled ns c.loop-number.number ≡ false) c.names.ensures.names (sym c.if-is_doubled.ensures))

pub returns : goal.returns
returns c =
    first-none c.args.objects.now.blocks c.args.objects.now.kind c.places-place-items.result.now c.loop-number.number
    c.places-place-items.ensures.places c.loop-number-test.false c.loop-number.invariant
