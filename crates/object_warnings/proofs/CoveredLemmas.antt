-- Contacts that are told at each minute.
use Rattle.std.proofs.Common.{◌≡◌, ℕ, ◌+◌, ◌<◌, ◌≤◌, ◌⊎◌, Bool, true, false, not, ◌&&◌, ◌||◌, List, [], ◌∷◌, ◌++◌, length, get_or, Option, None, Some, refl, sym, ap, subst, inl, inr, ◌∙◌, arith}
use Rattle.std.specs.Prelude.{◌==◌, slice_get}
use Rattle.std.specs.List.{list_any}
use Rattle.std.specs.Option.{option_map_or}
use Rattle.std.proofs.lemmas.Bool.{cases_lt, false≢true}
use Rattle.std.proofs.lemmas.List.{get_or_append_left}
use Rattle.std.proofs.Math.Seq.{get_or-append_seam}
use Rattle.due_model.specs.ByObject.{places_of}
use Rattle.due_model.specs.declared.config.Config.{Config}
use Rattle.due_model.specs.declared.config.ContactId.{ContactId}
use Rattle.due_model.specs.declared.config.Object.{Object}
use Rattle.due_model.specs.declared.config.PeriodId.{PeriodId}
use Rattle.object_warnings.specs.Hours.{AreAlways, IsFirst, flag, gap_by, has_hours, has_hours_by, is_covered, is_gap, lacks_hours, row_at, rows_of, week, weekly}
use Rattle.object_warnings.specs.Objects.{can_notify, is_told, rights_of}
use Rattle.object_warnings.proofs.HourLemmas.{first-at-object, first-none, past-or}

-- ---- flags

-- where there is no gap beside a period, it holds
pub always-held : (flags : List Bool) (period : PeriodId) (minute : ℕ) → gap_by flags None (Some period ∷ []) ≡ false → flag flags (Some period) ≡ true
always-held flags period minute none = either (flag flags (Some period)) none
  where
    either : (b : Bool) → not (b || false) ≡ false → b ≡ true
    either true told = refl
    either false told = sym told

-- one flag more
pub always-more : (rows : List (List Bool)) (n : ℕ) (old new : List Bool) (b : Bool) (period : PeriodId) → length old ≡ n
    → ((k : ℕ) → k < n → get_or old k false ≡ true → (minute : ℕ) → minute < week → flag (row_at rows minute) (Some (record { 0 = k })) ≡ true) → new ≡ old ++ b ∷ [] → period.0 ≡ n
    → (b ≡ true → (minute : ℕ) → minute < week → flag (row_at rows minute) (Some period) ≡ true)
    → (k : ℕ) → k < n + 1 → get_or new k false ≡ true → (minute : ℕ) → minute < week → flag (row_at rows minute) (Some (record { 0 = k })) ≡ true
always-more rows n old new b period long before more number is k within set minute in_week = either (cases_lt k n)
  where
    set_there : get_or (old ++ b ∷ []) k false ≡ true
    set_there = subst (λ (xs : List Bool). get_or xs k false ≡ true) more set

    either : (k < n) ⊎ (n ≤ k) → flag (row_at rows minute) (Some (record { 0 = k })) ≡ true
    either (inl low) = before k low (sym (get_or_append_left old (b ∷ []) false k (omega (arith, low, long))) ∙ set_there) minute in_week
    either (inr high) =
        let at : k ≡ length old = omega (arith, high, within, long) in
        let same : period.0 ≡ k = omega (arith, number, high, within) in
        let now : b ≡ true = sym (ap (λ (j : ℕ). get_or (old ++ b ∷ []) j false) at ∙ get_or-append_seam old b [] false) ∙ set_there in
        subst (λ (j : ℕ). get_or (row_at rows minute) j false ≡ true) same (is now minute in_week)

-- all of them
pub always-all : (rows : List (List Bool)) (n : ℕ) (flags : List Bool) → length flags ≡ n
    → ((k : ℕ) → k < n → get_or flags k false ≡ true → (minute : ℕ) → minute < week → flag (row_at rows minute) (Some (record { 0 = k })) ≡ true) → AreAlways rows flags
always-all rows n flags long each None minute in_week set = refl
always-all rows n flags long each (Some period) minute in_week set = either (cases_lt period.0 n)
  where
    either : (period.0 < n) ⊎ (n ≤ period.0) → flag (row_at rows minute) (Some period) ≡ true
    either (inl low) = each period.0 low set minute in_week
    either (inr high) = absurd (false≢true (sym (past-or flags period.0 false (omega (arith, long, high))) ∙ set))

-- ---- contacts that are told where some periods hold are told where more do

or-right : (a b : Bool) → b ≡ true → (a || b) ≡ true
or-right true b is = refl
or-right false b is = is

or-either : (a b x y : Bool) → (a ≡ true → x ≡ true) → (b ≡ true → y ≡ true) → (a || b) ≡ true → (x || y) ≡ true
or-either true b x y first second is = ap (λ (z : Bool). z || y) (first refl)
or-either false b x y first second is = or-right x y (second is)

and-more : (a b x : Bool) → (b ≡ true → x ≡ true) → (a && b) ≡ true → (a && x) ≡ true
and-more true b x more is = more is
and-more false b x more is = is

any-more : {X : Type 0} (f g : X → Bool) (xs : List X) → ((x : X) → f x ≡ true → g x ≡ true) → list_any f xs ≡ true → list_any g xs ≡ true
any-more f g [] more is = is
any-more f g (x ∷ xs) more is = or-either (f x) (list_any f xs) (g x) (list_any g xs) (more x) (any-more f g xs more) is

some-more : {X : Type 0} (f g : X → Bool) (found : Option X) → ((x : X) → f x ≡ true → g x ≡ true) → option_map_or f found false ≡ true → option_map_or g found false ≡ true
some-more f g None more is = is
some-more f g (Some x) more is = more x is

module _ (c : Config) (object : Object) (h k : Option PeriodId → Bool) (more : (period : Option PeriodId) → h period ≡ true → k period ≡ true) where
  has-more : (contact : ContactId) → has_hours c h object contact ≡ true → has_hours c k object contact ≡ true
  has-more contact is =
      some-more (λ found. not (length (rights_of object found).lanes == 0) && h (rights_of object found).period)
      (λ found. not (length (rights_of object found).lanes == 0) && k (rights_of object found).period) (slice_get c.contacts contact.0)
      (λ found. and-more (not (length (rights_of object found).lanes == 0)) (h (rights_of object found).period) (k (rights_of object found).period) (more (rights_of object found).period)) is

  by-more : (place : ℕ) → has_hours_by c h object place ≡ true → has_hours_by c k object place ≡ true
  by-more place is =
      some-more (λ escalation. list_any (has_hours c h object) escalation.contacts) (λ escalation. list_any (has_hours c k object) escalation.contacts) (slice_get c.escalations place)
      (λ escalation. any-more (has_hours c h object) (has_hours c k object) escalation.contacts has-more) is

  pub covered-more : (o : ℕ) → is_covered c h o object ≡ true → is_covered c k o object ≡ true
  covered-more o is =
      or-either (list_any (has_hours c h object) object.contacts) (list_any (has_hours_by c h object) (places_of c.escalations o)) (list_any (has_hours c k object) object.contacts)
      (list_any (has_hours_by c k object) (places_of c.escalations o)) (any-more (has_hours c h object) (has_hours c k object) object.contacts has-more)
      (any-more (has_hours_by c h object) (has_hours_by c k object) (places_of c.escalations o) by-more) is

no-gap : (a b : Bool) → b ≡ true → (a && not b) ≡ false
no-gap true true is = refl
no-gap false true is = refl
no-gap a false is = absurd (false≢true is)

-- an object of which a contact is told at each minute has no span
pub first-of-covered : (c : Config) (n id : ℕ) (object : Object) (objects : List Object) (rows : List (List Bool)) (flags : List Bool) → id ≡ n → objects ≡ c.objects → n < length c.objects
    → object ≡ get_or objects n object → rows ≡ rows_of (weekly c) → true ≡ (can_notify object && is_told c id object) → AreAlways rows flags → true ≡ is_covered c (flag flags) id object
    → IsFirst (lacks_hours c n) None
first-of-covered c n id object objects rows flags id_is objects_are within is rows_are told always covered =
    first-at-object c n id object objects rows true None id_is objects_are within is rows_are told
    (first-none (λ minute. true && is_gap c (flag (row_at rows minute)) id object)
    (λ minute in_week.
    no-gap (flag (row_at rows minute) object.period) (is_covered c (flag (row_at rows minute)) id object)
    (covered-more c object (flag flags) (flag (row_at rows minute)) (λ period set. always period minute in_week set) id (sym covered))))
