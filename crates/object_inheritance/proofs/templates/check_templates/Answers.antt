use Rattle.std.proofs.Common.{◌≡◌, ◌∙◌, ◌<◌, Bool, List, ap, arith, get_or, length, refl, subst, sym}
use Rattle.std.specs.Prelude.{◌↔◌, IsTrue}
use Rattle.std.proofs.lemmas.Option.{slice_get_read}
use Rattle.object_reader.specs.declared.block.Block.{Block}
use Rattle.object_inheritance.specs.claims.Faults.{IsLooped}
use Rattle.object_inheritance.proofs.FaultLemmas.{free-all, free-more, looped-is}
use Rattle.object_inheritance.proofs.templates.check_templates.Goals as goal

pub returns-in-Some-clause-fault : goal.returns-in-Some-clause-fault
returns-in-Some-clause-fault c =
    let blocks = c.args.names.now in
    let i = c.loop-place.place in
    let x = c.block-item.result in
    let long = ap (λ (list : List Block). length list) c.blocks-block-items.ensures.value in
    let within : i < length blocks = omega (arith, long, c.loop-place-test.true) in
    let is : x ≡ get_or blocks i x = c.block-item.is ∙ ap (λ (list : List Block). get_or list i x) c.blocks-block-items.ensures.value in
    let lies : IsTrue c.is_at.result ↔ IsLooped blocks i =
    subst (λ (b : Bool). IsTrue b ↔ IsLooped blocks i) (sym c.is_at.ensures) (looped-is blocks i x within c.loop-place.invariant c.args.looped c.requires.first c.requires.no_loop) in
    record {
      place = i;
      block = x;
      here = slice_get_read blocks (length blocks) i x refl within is;
      at = refl;
      refused = record { looped = c.is_at.result; lies = lies; is = sym c.in-Some.is ∙ c.in_ok-fault_of.ensures };
      before = c.loop-place.invariant;
    }

pub loop-place-preserved : goal.loop-place-preserved
loop-place-preserved c =
    let blocks = c.args.names.now in
    let i = c.loop-place.place in
    let x = c.block-item.result in
    let long = ap (λ (list : List Block). length list) c.blocks-block-items.ensures.value in
    let within : i < length blocks = omega (arith, long, c.loop-place-test.true) in
    let is : x ≡ get_or blocks i x = c.block-item.is ∙ ap (λ (list : List Block). get_or list i x) c.blocks-block-items.ensures.value in
    let lies : IsTrue c.is_at.result ↔ IsLooped blocks i =
    subst (λ (b : Bool). IsTrue b ↔ IsLooped blocks i) (sym c.is_at.ensures) (looped-is blocks i x within c.loop-place.invariant c.args.looped c.requires.first c.requires.no_loop) in
    free-more blocks i x c.loop-place.invariant (slice_get_read blocks (length blocks) i x refl within is)
    (record { looped = c.is_at.result; lies = lies; is = sym c.in-None.is ∙ c.in_ok-fault_of.ensures })

pub returns-clause-free : goal.returns-clause-free
returns-clause-free c =
    let long = ap (λ (list : List Block). length list) c.blocks-block-items.ensures.value in
    free-all c.args.names.now c.loop-place.place (omega (arith, long, c.loop-place-test.false)) c.loop-place.invariant
