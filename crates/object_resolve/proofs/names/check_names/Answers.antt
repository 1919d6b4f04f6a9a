use Rattle.std.proofs.Common.{◌∙◌, sym, subst}
use Rattle.std.specs.Prelude.{List, Option, ℕ, length, ◌<◌}
use Rattle.object_groups.specs.claims.First.{IsFirst}
use Rattle.object_reader.specs.declared.block.Block.{Block}
use Rattle.object_resolve.specs.Fault.{IsOfPlace}
use Rattle.object_resolve.specs.claims.Names.{IsDoubledAt, IsMisnamed}
use Rattle.object_faults.specs.declared.load_fault.BlockFault.TheVariants.{Doubled, UnknownName}
use Rattle.object_resolve.proofs.NameLemmas.{fault-doubled, fault-unknown, first-misnamed, misnamed-refused, misnamed-within, said-other, said-there}
use Rattle.object_resolve.proofs.names.check_names.Goals as goal

pub returns-in_default-clause-named : goal.returns-in_default-clause-named
returns-in_default-clause-named c =
    subst (λ (f : Option ℕ). IsFirst (IsMisnamed c.args.templates.now) f) c.in_default.is
    (first-misnamed c.args.templates.now c.in_ok-doubled.doubled c.in_ok-unknown.unknown c.lower.result c.lower.ensures
    (subst (λ (bs : List Block). IsFirst (IsDoubledAt bs) c.in_ok-doubled.doubled) c.requires.objects_are c.in_ok-doubled.ensures.first)
    c.in_ok-unknown.ensures.first)

pub of_place-requires : goal.of_place-requires
of_place-requires c =
    subst (λ (bs : List Block). c.in-Some.place < length bs) (sym c.blocks-blocks.ensures.value)
    (misnamed-within c.args.templates.now c.in-Some.place
    (subst (λ (f : Option ℕ). IsFirst (IsMisnamed c.args.templates.now) f) c.in-Some.is
    (first-misnamed c.args.templates.now c.in_ok-doubled.doubled c.in_ok-unknown.unknown c.lower.result c.lower.ensures
    (subst (λ (bs : List Block). IsFirst (IsDoubledAt bs) c.in_ok-doubled.doubled) c.requires.objects_are c.in_ok-doubled.ensures.first)
    c.in_ok-unknown.ensures.first)).0)

pub of_place-requires-2 : goal.of_place-requires-2
of_place-requires-2 c =
    subst (λ (bs : List Block). c.in-Some.place < length bs) (sym c.blocks-blocks.ensures.value)
    (misnamed-within c.args.templates.now c.in-Some.place
    (subst (λ (f : Option ℕ). IsFirst (IsMisnamed c.args.templates.now) f) c.in-Some.is
    (first-misnamed c.args.templates.now c.in_ok-doubled.doubled c.in_ok-unknown.unknown c.lower.result c.lower.ensures
    (subst (λ (bs : List Block). IsFirst (IsDoubledAt bs) c.in_ok-doubled.doubled) c.requires.objects_are c.in_ok-doubled.ensures.first)
    c.in_ok-unknown.ensures.first)).0)

pub returns-then-eq-clause-fault : goal.returns-then-eq-clause-fault
returns-then-eq-clause-fault c =
    let first = subst (λ (bs : List Block). IsFirst (IsDoubledAt bs) c.in_ok-doubled.doubled) c.requires.objects_are c.in_ok-doubled.ensures.first in
    misnamed-refused c.args.templates.now c.in-Some.place UnknownName c.of_place.result
    (subst (λ (f : Option ℕ). IsFirst (IsMisnamed c.args.templates.now) f) c.in-Some.is
    (first-misnamed c.args.templates.now c.in_ok-doubled.doubled c.in_ok-unknown.unknown c.lower.result c.lower.ensures first c.in_ok-unknown.ensures.first))
    (fault-unknown c.args.templates.now c.in_ok-unknown.unknown c.in-Some.place c.in_ok-unknown.ensures.first
    (said-there c.in_ok-unknown.unknown c.in-Some.place (sym c.if-eq.ensures)))
    (subst (λ (bs : List Block). IsOfPlace bs c.in-Some.place UnknownName c.of_place.result) c.blocks-blocks.ensures.value c.of_place.ensures)

pub returns-clause-fault : goal.returns-clause-fault
returns-clause-fault c =
    let first = subst (λ (bs : List Block). IsFirst (IsDoubledAt bs) c.in_ok-doubled.doubled) c.requires.objects_are c.in_ok-doubled.ensures.first in
    misnamed-refused c.args.templates.now c.in-Some.place Doubled c.of_place-2.result
    (subst (λ (f : Option ℕ). IsFirst (IsMisnamed c.args.templates.now) f) c.in-Some.is
    (first-misnamed c.args.templates.now c.in_ok-doubled.doubled c.in_ok-unknown.unknown c.lower.result c.lower.ensures first c.in_ok-unknown.ensures.first))
    (fault-doubled c.args.templates.now c.in_ok-doubled.doubled c.in_ok-unknown.unknown c.in-Some.place first c.in_ok-unknown.ensures.first
    (sym c.lower.ensures ∙ c.in-Some.is)
    (said-other c.in_ok-unknown.unknown c.in-Some.place (sym c.if-eq.ensures)))
    (subst (λ (bs : List Block). IsOfPlace bs c.in-Some.place Doubled c.of_place-2.result) c.blocks-blocks.ensures.value c.of_place-2.ensures)
