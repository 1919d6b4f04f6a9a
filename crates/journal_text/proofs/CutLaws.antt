-- What is read of a front of a text.
use Rattle.std.proofs.Common.{◌≡◌, ℕ, zero, suc, ◌<◌, ◌≤◌, ◌+◌, ◌-◌, drop, List, [], ◌∷◌, ◌++◌, Bool, true, false, ◌==◌, length, take, refl, sym, ap, ◌∙◌, subst, arith, ◌⊎◌, inl, inr, Option, Some, None, Result, Ok, Err, append_assoc, eq-eqb, add-one, cond}
use Rattle.std.specs.Prelude.{All}
use Rattle.std.specs.List.{slice_split, AllByRecursion, onto_first, position_or_len}
use mathlib.Core.List.{IsPrefix}
use Rattle.std.proofs.lemmas.Bool.{true≢false}
use Rattle.std.proofs.lemmas.List.{append-nil, take_rest}
use Rattle.std.proofs.lemmas.List.Sums.{fails_before_first}
use Rattle.std.proofs.lemmas.List.Elements.{All-head, All-tail, All-from_recursion, recursion_from_All, All-nil, All-cons}
use Rattle.std.proofs.lemmas.List.Splits.{slice_split_at, slice_split_first, slice_split_none}
use Rattle.journal_text.specs.declared.entry.Entry.{Entry}
use Rattle.due_model.specs.declared.config.Config.{Config}
use Rattle.due_model.specs.declared.config.LaneId.{LaneId}
use Rattle.text_lines.specs.claims.Lines.{pieces}
use Rattle.text_lines.specs.Lines.{IsUnbroken}
use Rattle.journal_text.specs.Entries.{body, first_line, first_said}
use Rattle.journal_text.specs.Lines.{Told, after_first, after_line, put, read_from, text, told_by, whole_text, with_front, within}
use Rattle.journal_text.specs.Told.{journal_said, line_said}
use Rattle.journal_text.specs.Cuts.{CutIsRead, EachCutIsRead, IsReadBack, IsWritten, WholeIsRead, journal_text}

abbrev is_end : ℕ → Bool
is_end byte = byte == 10

head_same : (x a : ℕ) (xs us : List ℕ) → x ∷ xs ≡ a ∷ us → x ≡ a
head_same x a xs us e = cc

tail_same : (x a : ℕ) (xs us : List ℕ) → x ∷ xs ≡ a ∷ us → xs ≡ us
tail_same x a xs us e = cc

nil_cons : (x : ℕ) (xs : List ℕ) → x ∷ xs ≡ [] → ⊥
nil_cons x xs e = cc

-- a list begins with another, or the other with it
fronts : (xs ys us vs : List ℕ) → xs ++ ys ≡ us ++ vs
    → ((c : List ℕ) × (xs ++ c ≡ us)) ⊎ ((c : List ℕ) × (us ++ c ≡ xs) × (c ++ ys ≡ vs))
fronts [] ys us vs e = inl (us, refl)
fronts (x ∷ xs) ys [] vs e = inr (x ∷ xs, refl, e)
fronts (x ∷ xs) ys (a ∷ us) vs e =
    let same : x ≡ a = head_same x a (xs ++ ys) (us ++ vs) e in
    elim (fronts xs ys us vs (tail_same x a (xs ++ ys) (us ++ vs) e)) [
      | inl c ↦ inl (c.0, ap (λ y. y ∷ (xs ++ c.0)) same ∙ ap (λ r. a ∷ r) c.1)
      | inr c ↦ inr (c.0, ap (λ y. y ∷ (us ++ c.0)) (sym same) ∙ ap (λ r. x ∷ r) c.1, c.2)
    ]

-- a front of what has no newline has none
front_unbroken : (xs c ys : List ℕ) → xs ++ c ≡ ys → IsUnbroken ys → IsUnbroken xs
front_unbroken [] c ys e h = All-nil (λ byte. (byte == 10) ≡ false)
front_unbroken (x ∷ xs) c [] e h = absurd (nil_cons x (xs ++ c) e)
front_unbroken (x ∷ xs) c (y ∷ ys) e h =
    let P : ℕ → Type 0 = λ byte. (byte == 10) ≡ false in
    All-cons P x xs
    (subst P (sym (head_same x y (xs ++ c) ys e)) (All-head P y ys h))
    (front_unbroken xs c ys (tail_same x y (xs ++ c) ys e) (All-tail P y ys h))

-- a newline isn't among bytes without one, so they don't begin with a line
no_line : (torn line more : List ℕ) → IsUnbroken torn → line ++ 10 ∷ more ≡ torn → ⊥
no_line torn line more h e =
    let P : ℕ → Type 0 = λ byte. (byte == 10) ≡ false in
    true≢false (sym (eq-eqb 10 10 refl) ∙ All-head P 10 more (rest line (10 ∷ more) (subst IsUnbroken (sym e) h)))
  where
    rest : (xs ys : List ℕ) → IsUnbroken (xs ++ ys) → IsUnbroken ys
    rest [] ys u = u
    rest (x ∷ xs) ys u = rest xs ys (All-tail (λ byte. (byte == 10) ≡ false) x (xs ++ ys) u)

-- there is always a piece
pub some_piece : (bytes : List ℕ) → (p : List ℕ) × (ps : List (List ℕ)) × (pieces bytes ≡ p ∷ ps)
some_piece [] = ([], [], refl)
some_piece (x ∷ xs) = by_test (x == 10) (some_piece xs)
  where
    by_test : (b : Bool) → ((p : List ℕ) × (ps : List (List ℕ)) × (pieces xs ≡ p ∷ ps))
        → (p : List ℕ) × (ps : List (List ℕ)) × (cond b ([] ∷ pieces xs) (onto_first x (pieces xs)) ≡ p ∷ ps)
    by_test true h = ([], pieces xs, refl)
    by_test false h = (x ∷ h.0, h.1, ap (onto_first x) h.2)

module _ (body : Entry → List ℕ) (said : List ℕ → Option Entry) where
  -- the pieces of a line and what follows it
  line_off : (e : Entry) (rest : List ℕ) → IsUnbroken (body e) → pieces ((body e ++ 10 ∷ []) ++ rest) ≡ body e ∷ pieces rest
  line_off e rest h =
      ap pieces (append_assoc (body e) (10 ∷ []) rest) ∙ slice_split_at is_end (body e) 10 rest h (eq-eqb 10 10 refl)

  read_line : (n : ℕ) (e : Entry) (rest : List ℕ) → IsReadBack (body e) said e
      → read_from said n (pieces ((body e ++ 10 ∷ []) ++ rest)) ≡ with_front e (read_from said (n + 1) (pieces rest))
  read_line n e rest h =
      let some = some_piece rest in
      let off : pieces ((body e ++ 10 ∷ []) ++ rest) ≡ body e ∷ some.0 ∷ some.1 = line_off e rest h.unbroken ∙ ap (λ ps. body e ∷ ps) some.2 in
      ap (read_from said n) off
      ∙ ap (λ o. after_line n o (read_from said (n + 1) (some.0 ∷ some.1))) h.again
      ∙ ap (λ ps. with_front e (read_from said (n + 1) ps)) (sym some.2)

  -- what no newline ends says nothing, and is dropped
  read_torn : (n : ℕ) (torn : List ℕ) → IsUnbroken torn → read_from said n (pieces torn) ≡ Ok []
  read_torn n torn h = ap (read_from said n) (slice_split_none is_end torn h)

  read_all : (n : ℕ) (es : List Entry) (torn : List ℕ) → AllByRecursion (λ e. IsReadBack (body e) said e) es → IsUnbroken torn
      → read_from said n (pieces (text body es ++ torn)) ≡ Ok es
  read_all n [] torn h u = read_torn n torn u
  read_all n (e ∷ es) torn h u =
      ap (λ t. read_from said n (pieces t)) (append_assoc (body e ++ 10 ∷ []) (text body es) torn)
      ∙ read_line n e (text body es ++ torn) h.0
      ∙ ap (with_front e) (read_all (n + 1) es torn h.1 u)

  -- a front of a text: some whole lines, and a torn one
  record Torn (es : List Entry) (cut : List ℕ) : Type 0 where
    count : ℕ
    within : count ≤ length es
    torn : List ℕ
    unbroken : IsUnbroken torn
    is : cut ≡ text body (take count es) ++ torn

  torn_off : (es : List Entry) (cut rest : List ℕ) → AllByRecursion (λ e. IsReadBack (body e) said e) es → cut ++ rest ≡ text body es → Torn es cut
  torn_off [] [] rest h e = record { count = 0; within = omega arith; torn = []; unbroken = All-nil (λ byte. (byte == 10) ≡ false); is = refl }
  torn_off [] (x ∷ cut) rest h e = absurd (nil_cons x (cut ++ rest) e)
  torn_off (e ∷ es) cut rest h is =
      elim (fronts cut rest (body e) (10 ∷ text body es) (is ∙ append_assoc (body e) (10 ∷ []) (text body es))) [
        | inl c ↦ record { count = 0; within = omega arith; torn = cut; unbroken = front_unbroken cut c.0 (body e) c.1 h.0.unbroken; is = refl }
        | inr c ↦ after (λ c further. torn_off es c rest h.1 further) c.0 c.1 c.2
      ]
    where
      after : ((c : List ℕ) → c ++ rest ≡ text body es → Torn es c) → (c : List ℕ) → body e ++ c ≡ cut → c ++ rest ≡ 10 ∷ text body es → Torn (e ∷ es) cut
      after more [] begins left = record {
        count = 0;
        within = omega arith;
        torn = cut;
        unbroken = subst IsUnbroken (sym (append-nil (body e)) ∙ begins) h.0.unbroken;
        is = refl;
      }
      after more (x ∷ c) begins left =
          let further : Torn es c = more c (tail_same x 10 (c ++ rest) (text body es) left) in
          record {
            count = suc further.count;
            within = omega (arith, further.within);
            torn = further.torn;
            unbroken = further.unbroken;
            is = sym begins
                ∙ ap (λ y. body e ++ y ∷ c) (head_same x 10 (c ++ rest) (text body es) left)
                ∙ ap (λ t. body e ++ 10 ∷ t) further.is
                ∙ sym (append_assoc (body e) (10 ∷ []) (text body (take further.count es) ++ further.torn))
                ∙ sym (append_assoc (body e ++ 10 ∷ []) (text body (take further.count es)) further.torn);
          }

cancel : (xs ys zs : List ℕ) → xs ++ ys ≡ xs ++ zs → ys ≡ zs
cancel [] ys zs e = e
cancel (x ∷ xs) ys zs e = cancel xs ys zs (tail_same x x (xs ++ ys) (xs ++ zs) e)

-- a front of the text that ends in a torn line has no more whole lines
no_more : (body : Entry → List ℕ) (es : List Entry) (count n : ℕ) (torn r : List ℕ) → IsUnbroken torn → n ≤ length es
    → text body (take n es) ++ r ≡ text body (take count es) ++ torn → n ≤ count
no_more body es count zero torn r u within e = omega arith
no_more body [] count (suc n) torn r u within e = absurd (omega arith)
no_more body (x ∷ es) zero (suc n) torn r u within e =
    absurd (no_line torn (body x) (text body (take n es) ++ r) u
    (sym (append_assoc (body x) (10 ∷ []) (text body (take n es) ++ r))
    ∙ sym (append_assoc (body x ++ 10 ∷ []) (text body (take n es)) r) ∙ e))
no_more body (x ∷ es) (suc count) (suc n) torn r u within e =
    let less : n ≤ count = no_more body es count n torn r u (omega arith)
    (cancel (body x ++ 10 ∷ []) (text body (take n es) ++ r) (text body (take count es) ++ torn)
    (sym (append_assoc (body x ++ 10 ∷ []) (text body (take n es)) r) ∙ e
    ∙ append_assoc (body x ++ 10 ∷ []) (text body (take count es)) torn)) in
    omega arith

each_taken : (P : Entry → Type 0) (n : ℕ) (es : List Entry) → AllByRecursion P es → AllByRecursion P (take n es)
each_taken P zero es h = tt
each_taken P (suc n) [] h = tt
each_taken P (suc n) (e ∷ es) h = (h.0, each_taken P n es h.1)

-- of a front of the entries' text some first entries are read from line number n on
record CutEntries (body : Entry → List ℕ) (said : List ℕ → Option Entry) (es : List Entry) (number : ℕ) (cut : List ℕ) : Type 0 where
  count : ℕ
  most : count ≤ length es
  read : read_from said number (pieces cut) ≡ Ok (take count es)
  whole : (n : ℕ) → n ≤ length es → IsPrefix (text body (take n es)) cut → n ≤ count

cut_entries : (body : Entry → List ℕ) (said : List ℕ → Option Entry) (es : List Entry) (number : ℕ) (cut : List ℕ)
    → AllByRecursion (λ e. IsReadBack (body e) said e) es → IsPrefix cut (text body es) → CutEntries body said es number cut
cut_entries body said es number cut h front =
    let t : Torn body said es cut = torn_off body said es cut front.0 h front.1 in
    record {
      count = t.count;
      most = t.within;
      read = ap (λ x. read_from said number (pieces x)) t.is
          ∙ read_all body said number (take t.count es) t.torn (each_taken (λ e. IsReadBack (body e) said e) t.count es h) t.unbroken;
      whole = λ n within begins. no_more body es t.count n t.torn begins.0 t.unbroken within (begins.1 ∙ t.is);
    }

-- what a journal tells whose first line is whole
told_after : (first : List ℕ → Option ℕ) (said : List ℕ → Option Entry) (line rest : List ℕ) (from : ℕ) (es : List Entry)
    → IsReadBack line first from → read_from said 2 (pieces rest) ≡ Ok es
    → told_by first said (pieces (line ++ 10 ∷ rest)) ≡ Ok (record { from = Some from; entries = es })
told_after first said line rest from es h read =
    let some = some_piece rest in
    let P : List (List ℕ) → Type 0 = λ ps. read_from said 2 ps ≡ Ok es in
    ap (told_by first said) (slice_split_at is_end line 10 rest h.unbroken (eq-eqb 10 10 refl) ∙ ap (λ ps. line ∷ ps) some.2)
    ∙ ap (λ o. after_first o (read_from said 2 (some.0 ∷ some.1))) h.again
    ∙ ap (after_first (Some from)) (subst P some.2 read)

whole_is : (first : List ℕ) (body : Entry → List ℕ) (es : List Entry) → whole_text first body es ≡ first ++ 10 ∷ text body es
whole_is first body es = append_assoc first (10 ∷ []) (text body es)

pub whole_is_read : WholeIsRead
whole_is_read c lane from es h =
    ap (journal_said c lane) (whole_is (first_line c lane from) (body c) es)
    ∙ told_after (within (first_said c lane)) (line_said c lane) (first_line c lane from) (text (body c) es) from es h.first
    (ap (λ t. read_from (line_said c lane) 2 (pieces t)) (sym (append-nil (text (body c) es)))
    ∙ read_all (body c) (line_said c lane) 2 es [] h.each (All-nil (λ byte. (byte == 10) ≡ false)))

-- no newline ends even the first line
nothing_whole : (c : Config) (lane : LaneId) (from : ℕ) (es : List Entry) (cut : List ℕ) → IsUnbroken cut → CutIsRead c lane from es cut
nothing_whole c lane from es cut u = record {
  count = 0;
  most = omega arith;
  first = None;
  first_is = inr (refl, refl);
  read = ap (told_by (within (first_said c lane)) (line_said c lane)) (slice_split_none is_end cut u);
  whole = λ n most begins. absurd (no_line cut (first_line c lane from) (text (body c) (take n es) ++ begins.0) u
      (sym (ap (λ t. t ++ begins.0) (whole_is (first_line c lane from) (body c) (take n es))
      ∙ append_assoc (first_line c lane from) (10 ∷ text (body c) (take n es)) begins.0) ∙ begins.1));
}

-- the first line is whole, and then comes a front of the entries' text
first_whole : (c : Config) (lane : LaneId) (from : ℕ) (es : List Entry) (cut : List ℕ) → IsWritten c lane from es
    → (more : List ℕ) → first_line c lane from ++ 10 ∷ more ≡ cut → IsPrefix more (text (body c) es) → CutIsRead c lane from es cut
first_whole c lane from es cut h more is front =
    let line = first_line c lane from in
    let t : CutEntries (body c) (line_said c lane) es 2 more = cut_entries (body c) (line_said c lane) es 2 more h.each front in
    record {
      count = t.count;
      most = t.most;
      first = Some from;
      first_is = inl refl;
      read = ap (journal_said c lane) (sym is)
          ∙ told_after (within (first_said c lane)) (line_said c lane) line more from (take t.count es) h.first t.read;
      whole = λ n most begins. (
        refl,
        t.whole n most (
          begins.0,
          cancel (line ++ 10 ∷ []) (text (body c) (take n es) ++ begins.0) more
              (sym (append_assoc (line ++ 10 ∷ []) (text (body c) (take n es)) begins.0) ∙ begins.1 ∙ sym is
              ∙ sym (append_assoc line (10 ∷ []) more)),
        ),
      );
    }

pub each_cut_is_read : EachCutIsRead
each_cut_is_read c lane from es cut h front =
    let line = first_line c lane from in
    elim (fronts cut front.0 line (10 ∷ text (body c) es) (front.1 ∙ whole_is line (body c) es)) [
      | inl torn ↦ nothing_whole c lane from es cut (front_unbroken cut torn.0 line torn.1 h.first.unbroken)
      | inr more ↦ after more.0 more.1 more.2
    ]
  where
    after : (more : List ℕ) → first_line c lane from ++ more ≡ cut → more ++ front.0 ≡ 10 ∷ text (body c) es → CutIsRead c lane from es cut
    after [] is left =
        nothing_whole c lane from es cut (subst IsUnbroken (sym (append-nil (first_line c lane from)) ∙ is) h.first.unbroken)
    after (x ∷ more) is left =
        first_whole c lane from es cut h more
        (ap (λ y. first_line c lane from ++ y ∷ more) (sym (head_same x 10 (more ++ front.0) (text (body c) es) left)) ∙ is)
        (front.0, tail_same x 10 (more ++ front.0) (text (body c) es) left)

-- ---- a loop over the lines

pub put_with : (es : List Entry) (e : Entry) (r : Result (List Entry) ℕ) → put (es ++ e ∷ []) r ≡ put es (with_front e r)
put_with es e (Ok more) = ap Ok (append_assoc es (e ∷ []) more)
put_with es e (Err n) = refl
