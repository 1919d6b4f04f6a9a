-- The periods of contacts, one by one, and the spans that were found of them.
use Rattle.std.proofs.Common.{◌≡◌, ℕ, ◌+◌, ◌<◌, ◌≤◌, Bool, true, false, ◌||◌, List, [], ◌∷◌, ◌++◌, length, take, get_or, Option, Some, None, refl, sym, ap, ap₂, subst, ◌∙◌, arith}
use Rattle.std.specs.List.{list_any}
use Rattle.std.specs.Option.{option_map_or}
use Rattle.std.proofs.lemmas.List.{take_more, take_all}
use Rattle.std.proofs.lemmas.List.Folds.{list_any-append, list_any_more}
use Rattle.due_model.specs.declared.config.ContactId.{ContactId}
use Rattle.due_model.specs.declared.config.Escalation.{Escalation}
use Rattle.due_model.specs.declared.config.PeriodId.{PeriodId}
use Rattle.object_warnings.specs.Hours.{IsFirst, IsKnown, gap_by, row_at}
use Rattle.object_warnings.specs.declared.known_spans.Known.{Known}

or-assoc : (a b d : Bool) → ((a || b) || d) ≡ (a || (b || d))
or-assoc true b d = refl
or-assoc false b d = refl

pub or-none : (a : Bool) → (a || false) ≡ a
or-none true = refl
or-none false = refl

or-held : (a b : Bool) → (b ≡ true → a ≡ true) → a ≡ (a || b)
or-held true b held = refl
or-held false true held = held refl
or-held false false held = refl

-- a period that is there adds nothing
pub hours-there : {X : Type 0} (holds : X → Bool) (hours : List X) (period : X) → (holds period ≡ true → list_any holds hours ≡ true) → list_any holds hours ≡ (list_any holds hours || holds period)
hours-there holds hours period held = or-held (list_any holds hours) (holds period) held

-- one that isn't is added
pub hours-more : {X : Type 0} (holds : X → Bool) (old new : List X) (period : X) → new ≡ old ++ period ∷ [] → list_any holds new ≡ (list_any holds old || holds period)
hours-more holds old new period more =
    ap (list_any holds) more ∙ list_any-append holds old (period ∷ []) ∙ ap (λ (b : Bool). list_any holds old || b) (or-none (holds period))

-- those of so many of some, and one more
pub any-of-more : {X : Type 0} (test : X → Bool) (xs : List X) (i : ℕ) (d : X) (start so_far now : Bool) → i < length xs → so_far ≡ (start || list_any test (take i xs))
    → now ≡ (so_far || test (get_or xs i d)) → now ≡ (start || list_any test (take (i + 1) xs))
any-of-more test xs i d start so_far now within before more =
    more ∙ ap (λ (b : Bool). b || test (get_or xs i d)) before ∙ or-assoc start (list_any test (take i xs)) (test (get_or xs i d))
    ∙ ap (λ (b : Bool). start || b) (sym (list_any_more test xs i d within))

-- those of all
pub any-of-all : {X : Type 0} (test : X → Bool) (xs : List X) (i : ℕ) (start now : Bool) → length xs ≤ i → now ≡ (start || list_any test (take i xs)) → now ≡ (start || list_any test xs)
any-of-all {X} test xs i start now long is = is ∙ ap (λ (ys : List X). start || list_any test ys) (take_all i xs long)

-- the contacts of an escalation, if it is there
pub any-by : (test : ContactId → Bool) (found : Option Escalation) → option_map_or (λ escalation. list_any test escalation.contacts) found false
    ≡ list_any test (option_map_or (λ escalation. escalation.contacts) found [])
any-by test None = refl
any-by test (Some escalation) = refl

-- the own ones, and then those of escalations
pub any-of-both : (start middle now own others : Bool) → middle ≡ (start || own) → now ≡ (middle || others) → now ≡ (start || (own || others))
any-of-both start middle now own others first second = second ∙ ap (λ (b : Bool). b || others) first ∙ or-assoc start own others

pub any-from-none : {X : Type 0} (holds : X → Bool) (start : List X) (now cover : Bool) → start ≡ [] → now ≡ (list_any holds start || cover) → now ≡ cover
any-from-none {X} holds start now cover none is = is ∙ ap (λ (xs : List X). list_any holds xs || cover) none

-- ---- lists that are the same, place by place

pub same-more : {X : Type 0} (xs ys : List X) (i : ℕ) (d : X) → i < length xs → length xs ≡ length ys → take i xs ≡ take i ys → get_or xs i d ≡ get_or ys i d
    → take (i + 1) xs ≡ take (i + 1) ys
same-more {X} xs ys i d within long before same =
    take_more xs i d within ∙ ap₂ (λ (zs : List X) (z : X). zs ++ z ∷ []) before same ∙ sym (take_more ys i d (omega (arith, within, long)))

pub same-all : {X : Type 0} (xs ys : List X) (i : ℕ) → length xs ≤ i → length xs ≡ length ys → take i xs ≡ take i ys → xs ≡ ys
same-all xs ys i past long same = sym (take_all i xs past) ∙ same ∙ take_all i ys (omega (arith, past, long))

-- ---- spans that were found

-- that of the same period and hours
pub known-same : (rows : List (List Bool)) (one : Known) (period : Option PeriodId) (hours : List (Option PeriodId)) → one.period ≡ period → one.hours.items ≡ hours → IsKnown rows one
    → IsFirst (λ minute. gap_by (row_at rows minute) period hours) one.span
known-same rows one period hours same_period same_hours is =
    subst (λ (p : Option PeriodId). IsFirst (λ minute. gap_by (row_at rows minute) p hours) one.span) same_period
    (subst (λ (hs : List (Option PeriodId)). IsFirst (λ minute. gap_by (row_at rows minute) one.period hs) one.span) same_hours is)
