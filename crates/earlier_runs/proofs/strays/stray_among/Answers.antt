use Rattle.std.proofs.Common.{◌≡◌, ◌∙◌, ℕ, List, map, subst, sym, true}
use Rattle.std.specs.Prelude.{Contains, string_bytes}
use Rattle.earlier_runs.specs.Strays.{IsStray}
use Rattle.earlier_runs.proofs.LeftLaws.{all_more, all_of, one_of}
use Rattle.earlier_runs.proofs.strays.stray_among.Goals as goal

pub loop-name-preserved : goal.loop-name-preserved
loop-name-preserved g c =
    all_more (λ (name : List ℕ). IsStray c.args.config.now name → (c.args.sets_aside ≡ true) × g.F.JournalNames.put_aside c.args.files.now name) string_bytes c.args.names.now c.loop-name.name-index
    c.name-item.result c.name-item.result c.loop-name-test.true c.name-item.is c.loop-name.invariant
    (subst (λ (bs : List ℕ). IsStray c.args.config.now bs → (c.args.sets_aside ≡ true) × g.F.JournalNames.put_aside c.args.files.now bs) c.as_str.ensures.value
    (c.in_ok-is_to_tell.ensures.no c.if-branch.false))

pub returns-then-branch : goal.returns-then-branch
returns-then-branch g c =
    let told = c.in_ok-is_to_tell.ensures.yes c.if-branch.true in
    let same : string_bytes c.in_ok-from_str.field-0 ≡ string_bytes c.name-item.result = c.in_ok-from_str.ensures.ok ∙ c.as_str-then-branch.ensures.value in (
      told.0,
      subst (λ (bs : List ℕ). Contains (map string_bytes c.args.names.now) bs) (sym same) (one_of string_bytes c.args.names.now c.loop-name.name-index c.name-item.result c.loop-name-test.true c.name-item.is),
      subst (λ (bs : List ℕ). IsStray c.args.config.now bs) (c.as_str.ensures.value ∙ sym same) told.1,
    )

pub returns : goal.returns
returns g c =
    all_of (λ (name : List ℕ). IsStray c.args.config.now name → (c.args.sets_aside ≡ true) × g.F.JournalNames.put_aside c.args.files.now name) string_bytes c.args.names.now c.loop-name.name-index
    c.loop-name-test.false c.loop-name.invariant
