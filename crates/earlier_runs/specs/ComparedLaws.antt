-- How what is compared follows what was.
use Rattle.std.proofs.Common.{◌≡◌, ℕ, ◌+◌, ◌-◌, List, [], ◌++◌, filter, length, get_or, Option, None, Some, refl, ap, ◌∙◌, subst, arith, length-append}
use Rattle.std.specs.Prelude.{slice_get}
use Rattle.std.specs.Option.{option_map_or}
use Rattle.std.proofs.lemmas.List.Elements.{All-append, All-nil, filter-append}
use Rattle.due_model.specs.declared.notice.Notice.{Notice}
use Rattle.earlier_runs.specs.declared.left.LaneState.{LaneState}
use Rattle.earlier_runs.specs.Compared.{Differs, HasCompared, NoneDiffers, claims_of, is_claimed}

none_by : (found : Option LaneState) (l : ℕ) → option_map_or (λ state. length (filter (is_claimed state l) [])) found 0 ≡ 0
none_by None l = refl
none_by (Some state) l = refl

both_by : (found : Option LaneState) (l : ℕ) (one two : List Notice)
    → option_map_or (λ state. length (filter (is_claimed state l) (one ++ two))) found 0
    ≡ option_map_or (λ state. length (filter (is_claimed state l) one)) found 0 + option_map_or (λ state. length (filter (is_claimed state l) two)) found 0
both_by None l one two = refl
both_by (Some state) l one two =
    ap length (filter-append (is_claimed state l) one two) ∙ length-append (filter (is_claimed state l) one) (filter (is_claimed state l) two)

pub claims_none : (states : List LaneState) (l : ℕ) → claims_of states l [] ≡ 0
claims_none states l = none_by (slice_get states l) l

pub claims_both : (states : List LaneState) (l : ℕ) (one two : List Notice) → claims_of states l (one ++ two) ≡ claims_of states l one + claims_of states l two
claims_both states l one two = both_by (slice_get states l) l one two

pub compared_none : (states : List LaneState) (left : List ℕ) (differs : Option Notice) → HasCompared states left differs [] states left differs
compared_none states left differs = record {
  states_are = refl;
  differs_is = refl;
  each = All-nil (λ n. Differs states n → ⊥);
  fewer = λ l. let none : claims_of states l [] ≡ 0 = claims_none states l in omega (arith, none);
  count = refl;
}

pub compared_more : (s s' s'' : List LaneState) (left left' left'' : List ℕ) (differs differs' differs'' : Option Notice) (one two : List Notice)
    → HasCompared s left differs one s' left' differs' → HasCompared s' left' differs' two s'' left'' differs''
    → HasCompared s left differs (one ++ two) s'' left'' differs''
compared_more s s' s'' left left' left'' differs differs' differs'' one two first next = record {
  states_are = next.states_are ∙ first.states_are;
  differs_is = next.differs_is ∙ first.differs_is;
  each = All-append (λ n. Differs s n → ⊥) one two first.each (subst (λ (x : List LaneState). NoneDiffers x two) first.states_are next.each);
  fewer = λ l.
      let now : get_or left'' l 0 ≡ get_or left' l 0 - claims_of s l two = next.fewer l ∙ ap (λ (x : List LaneState). get_or left' l 0 - claims_of x l two) first.states_are in
      let was : get_or left' l 0 ≡ get_or left l 0 - claims_of s l one = first.fewer l in
      let both : claims_of s l (one ++ two) ≡ claims_of s l one + claims_of s l two = claims_both s l one two in
      omega (arith, now, was, both);
  count = next.count ∙ first.count;
}
