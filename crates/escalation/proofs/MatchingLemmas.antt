-- The escalations that apply, one place more; their least interval, and whom they name.
use Rattle.std.proofs.Common.{◌≡◌, ℕ, ◌+◌, ◌*◌, ◌<◌, ◌≤◌, Bool, true, false, ◌&&◌, ◌||◌, cond, eqb, List, [], ◌∷◌, ◌++◌, length, filter, fold, min, option_map, unwrap_or, get_or, take, Option, Some, slice_get, refl, sym, ap, ◌∙◌, le_trans, arith}
use Rattle.std.specs.Prelude.{All}
use Rattle.std.specs.List.{filter_map, list_any, range_with_len}
use Rattle.std.proofs.lemmas.Grind.{flat_map-append}
use Rattle.std.proofs.lemmas.List.{append-nil, take_all, take_more}
use Rattle.std.proofs.lemmas.List.Elements.{All-filter, All-head, All-tail, All-weaker, filter-append, filter_agree, filter_map-append}
use Rattle.std.proofs.lemmas.List.Folds.{list_any-append}
use Rattle.std.proofs.lemmas.List.Sums.{fold-append}
use Rattle.std.proofs.Math.Nat.{min-le_left}
use Rattle.lemmas.proofs.Lists.{All-flat_map, All-slice_get, slice_get_read}
use Rattle.due_model.specs.declared.config.Config.{Config}
use Rattle.due_model.specs.declared.config.ContactId.{ContactId}
use Rattle.due_model.specs.declared.config.Escalation.{Escalation}
use Rattle.due_model.specs.declared.config.Object.{Object}
use Rattle.due_model.specs.declared.options.OptionLetter.{OptionLetter}
use Rattle.due_model.specs.declared.zone.Zone.{Zone}
use Rattle.due_model.specs.claims.Accepted.{EscalationFits, IsAccepted, ObjectFits}
use Rattle.due_model.specs.ByObject.{places_of}
use Rattle.due_model.specs.claims.Limits.{max_number}
use Rattle.due_model.specs.claims.Escalations.{contacts_with, has_contact, interval_of, matches, matching, reaches}
use Rattle.escalation.specs.Matching.{applies, applying, least_of}
use Rattle.escalation.specs.Named.{has_some, named_by}
use Rattle.escalation.proofs.ByObjectLemmas.{own_at}

-- ---- one escalation more at the end

pub least_push : (es : List Escalation) (e : Escalation) → least_of (es ++ e ∷ []) ≡ Some (unwrap_or (option_map (λ other. min other e.interval) (least_of es)) e.interval)
least_push [] e = refl
least_push (x ∷ xs) e = ap Some (fold-append (λ least y. min least y.interval) x.interval xs (e ∷ []))

pub some_push : (es : List Escalation) (e : Escalation) → has_some (es ++ e ∷ []) ≡ true
some_push [] e = refl
some_push (x ∷ xs) e = refl

pub named_push : (es : List Escalation) (e : Escalation) → named_by (es ++ e ∷ []) ≡ named_by es ++ e.contacts
named_push es e = flat_map-append (λ (x : Escalation). x.contacts) es (e ∷ []) ∙ ap (λ (ks : List ContactId). named_by es ++ ks) (append-nil e.contacts)

-- what passes one test and then another
passes_both : (q : Escalation → Bool) (b : Bool) (e : Escalation) (xs ys : List Escalation) → filter q xs ≡ ys
    → filter q (cond b (e ∷ xs) xs) ≡ cond (b && q e) (e ∷ ys) ys
passes_both q true e xs ys rest = ap (λ (zs : List Escalation). cond (q e) (e ∷ zs) zs) rest
passes_both q false e xs ys rest = rest

filter_both : (p q r : Escalation → Bool) → ((e : Escalation) → r e ≡ (p e && q e)) → (es : List Escalation) → filter q (filter p es) ≡ filter r es
filter_both p q r same [] = refl
filter_both p q r same (e ∷ es) =
    passes_both q (p e) e (filter p es) (filter r es) (filter_both p q r same es) ∙ ap (λ (b : Bool). cond b (e ∷ filter r es) (filter r es)) (sym (same e))

five : (a b c d e : Bool) → (a && b && c && d && e) ≡ (a && (b && c && d && e))
five true b c d e = refl
five false b c d e = refl

module _ (c : Config) (zone : Zone) (n : ℕ) (letter : OptionLetter) (t : ℕ) where
  -- one place more
  applying_more : (places : List ℕ) (i : ℕ) (e : Escalation) → i < length places → slice_get c.escalations (get_or places i 0) ≡ Some e
      → applying c zone n letter t (take (i + 1) places) ≡ applying c zone n letter t (take i places) ++ cond (applies c zone n letter t e) (e ∷ []) []
  applying_more places i e low at =
      let test : Escalation → Bool = applies c zone n letter t in
      let read : ℕ → Option Escalation = slice_get c.escalations in
      ap (λ (ps : List ℕ). filter test (filter_map read ps)) (take_more places i 0 low)
      ∙ ap (filter test) (filter_map-append read (take i places) (get_or places i 0 ∷ []))
      ∙ filter-append test (filter_map read (take i places)) (filter_map read (get_or places i 0 ∷ []))
      ∙ ap (λ (es : List Escalation). applying c zone n letter t (take i places) ++ es) (rw at refl)

  -- where the escalation there applies, and where it doesn't
  pub after_one : (places : List ℕ) (i : ℕ) (e : Escalation) → i < length places → slice_get c.escalations (get_or places i 0) ≡ Some e
      → applies c zone n letter t e ≡ true → applying c zone n letter t (take (i + 1) places) ≡ applying c zone n letter t (take i places) ++ e ∷ []
  after_one places i e low at holds =
      applying_more places i e low at ∙ ap (λ (b : Bool). applying c zone n letter t (take i places) ++ cond b (e ∷ []) []) holds

  pub after_other : (places : List ℕ) (i : ℕ) (e : Escalation) → i < length places → slice_get c.escalations (get_or places i 0) ≡ Some e
      → applies c zone n letter t e ≡ false → applying c zone n letter t (take (i + 1) places) ≡ applying c zone n letter t (take i places)
  after_other places i e low at fails =
      applying_more places i e low at ∙ ap (λ (b : Bool). applying c zone n letter t (take i places) ++ cond b (e ∷ []) []) fails
      ∙ append-nil (applying c zone n letter t (take i places))

  pub applying_all : (places : List ℕ) (i : ℕ) → length places ≤ i → applying c zone n letter t (take i places) ≡ applying c zone n letter t places
  applying_all places i all = ap (applying c zone n letter t) (take_all i places all)

  -- ---- the escalations that match

  both : (es : List Escalation) (o : ℕ) → filter (applies c zone n letter t) (filter (λ e. eqb e.object.0 o) es) ≡ filter (matches c zone o n letter t) es
  both es o = filter_both (λ e. eqb e.object.0 o) (applies c zone n letter t) (matches c zone o n letter t) (λ e. five (eqb e.object.0 o) _ _ _ _) es

  pub are_matching : (o : ℕ) → applying c zone n letter t (places_of c.escalations o) ≡ matching c zone o n letter t
  are_matching o = ap (filter (applies c zone n letter t)) (own_at c.escalations o) ∙ both c.escalations o

pub interval_is : (object : Object) (es : List Escalation) (least : Option ℕ) (own : ℕ) → least ≡ least_of es → own ≡ object.interval
    → unwrap_or least own ≡ interval_of object es
interval_is object [] least own is mine = ap (λ (l : Option ℕ). unwrap_or l own) is ∙ mine
interval_is object (e ∷ es) least own is mine = ap (λ (l : Option ℕ). unwrap_or l own) is

-- intervals that are within their limit have a least one that is

least_within : (es : List Escalation) (d m : ℕ) → d ≤ m → All (λ e. e.interval ≤ m) es → fold (λ least x. min least x.interval) d es ≤ m
least_within [] d m low each = low
least_within (e ∷ es) d m low each =
    least_within es (min d e.interval) m (le_trans (min-le_left d e.interval) low) (All-tail (λ (x : Escalation). x.interval ≤ m) e es each)

interval_of_within : (object : Object) (es : List Escalation) (m : ℕ) → object.interval ≤ m → All (λ e. e.interval ≤ m) es → interval_of object es ≤ m
interval_of_within object [] m low each = low
interval_of_within object (e ∷ es) m low each =
    let Within : Escalation → Type 0 = λ x. x.interval ≤ m in
    least_within es e.interval m (All-head Within e es each) (All-tail Within e es each)

pub interval_within : (c : Config) (zone : Zone) (o n : ℕ) (letter : OptionLetter) (t : ℕ) (object : Object) → IsAccepted c
    → slice_get c.objects o ≡ Some object → interval_of object (matching c zone o n letter t) ≤ max_number
interval_within c zone o n letter t object accepted at =
    interval_of_within object (matching c zone o n letter t) max_number (All-slice_get (ObjectFits c) c.objects o object accepted.objects at).interval
    (All-filter (matches c zone o n letter t) (λ (e : Escalation). e.interval ≤ max_number) c.escalations
    (All-weaker (EscalationFits c) (λ (e : Escalation). e.interval ≤ max_number) (λ e fits. fits.interval) c.escalations accepted.escalations))

pub times_within : (n m : ℕ) → n ≤ m → 60 * n ≤ 60 * m
times_within n m low = omega arith

-- what is read of a list
pub read_at : {X : Type 0} (xs ys : List X) (i : ℕ) (x : X) → ys ≡ xs → i < length xs → x ≡ get_or ys i x → slice_get xs i ≡ Some x
read_at {X} xs ys i x same low is = slice_get_read xs i x low (is ∙ ap (λ (zs : List X). get_or zs i x) same)

-- ---- whom they name

named_any : (es : List Escalation) (k : ℕ) → has_contact (named_by es) k ≡ list_any (λ e. has_contact e.contacts k) es
named_any [] k = refl
named_any (e ∷ es) k =
    list_any-append (λ (contact : ContactId). eqb contact.0 k) e.contacts (named_by es) ∙ ap (λ (b : Bool). has_contact e.contacts k || b) (named_any es k)

-- the contacts of escalations, where there are some
pub reaches_named : (c : Config) (object : Object) (es : List Escalation) → has_some es ≡ true
    → contacts_with c (has_contact (named_by es)) ≡ contacts_with c (reaches object es)
reaches_named c object [] some = cc
reaches_named c object (e ∷ es) some =
    filter_agree (has_contact (named_by (e ∷ es))) (reaches object (e ∷ es)) (λ k. named_any (e ∷ es) k) (range_with_len 0 (length c.contacts))

-- the object's own, where there are none
pub reaches_own : (c : Config) (object : Object) (es : List Escalation) → has_some es ≡ false
    → contacts_with c (has_contact object.contacts) ≡ contacts_with c (reaches object es)
reaches_own c object [] none = refl
reaches_own c object (e ∷ es) none = cc

pub named_fit : (c : Config) (zone : Zone) (o n : ℕ) (letter : OptionLetter) (t : ℕ) → IsAccepted c
    → All (λ contact. contact.0 < length c.contacts) (named_by (matching c zone o n letter t))
named_fit c zone o n letter t accepted =
    All-flat_map (λ contact. contact.0 < length c.contacts) (λ (e : Escalation). e.contacts) (matching c zone o n letter t)
    (All-filter (matches c zone o n letter t) (λ (e : Escalation). All (λ contact. contact.0 < length c.contacts) e.contacts) c.escalations
    (All-weaker (EscalationFits c) (λ (e : Escalation). All (λ contact. contact.0 < length c.contacts) e.contacts) (λ e fits. fits.contacts) c.escalations accepted.escalations))
