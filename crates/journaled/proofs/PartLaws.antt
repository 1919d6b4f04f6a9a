-- What becomes of one letter, and what comes of several.
use Rattle.std.proofs.Common.{◌≡◌, ℕ, ◌<◌, ◌≤◌, ◌+◌, ◌⊎◌, inl, inr, Bool, true, false, List, [], ◌∷◌, ◌++◌, Option, None, Some, IfNone, IfSome, cond, flat_map, filter, length, map, not, refl, sym, ap, ◌∙◌, subst, arith, append-nil, append_assoc}
use Rattle.std.specs.Prelude.{All, Contains}
use Rattle.std.proofs.lemmas.Bool.{true≢false, cond-true, cond-false}
use Rattle.std.proofs.lemmas.List.Elements.{All-append, All-cons, All-head, All-nil, All-tail, filter-append}
use Rattle.due_model.specs.declared.notice.Notice.{Notice}
use Rattle.channel.specs.claims.Channels.{Account, Offer, receipt_of}
use Rattle.channel.specs.Channels.{WasOffered, offer_of}
use Rattle.channel.specs.Letter.{again_of}
use Rattle.channel.specs.declared.letter.Letter.{Letter}
use Rattle.journal_text.specs.declared.entry.Entry.{Entry}
use Rattle.journal_text.specs.declared.entry.Entry.TheVariants.{Begun, GivenUp, Taken}
use Rattle.journaled.specs.Claims.{IsHeld, Past, is_new, is_settled, new_of, settled_of}
use Rattle.journaled.specs.Hands.{Hands, IsHandedOn, IsHeldBack, IsPart, IsTextFor, IsWritten, Part, Tells, last_begun, taken_by, taken_of, told_of}
use Rattle.journaled.specs.Wrapped.{IsOffered, Wrapped, account_of}
use Rattle.journaled.specs.HandsLaws.{AreSplit, IsSplit, flat_map-append, nothing_handed, nothing_told}

-- ---- one letter

-- one part
one_part : (past : Past) (limit : ℕ) (was is : Bool) (p : Part) → IsPart past limit p → Tells was is p.entries (taken_of p.inner)
    → Hands past limit was is (p.outer ∷ []) p.inner p.entries
one_part past limit was is p part tells = record {
  parts = p ∷ [];
  each = All-cons (IsPart past limit) p [] part (All-nil (IsPart past limit));
  outer_are = refl;
  inner_are = sym (append-nil p.inner);
  entries_are = sym (append-nil p.entries);
  tells = tells;
}

false_true : {b : Bool} → b ≡ true → b ≡ false → ⊥
false_true h k = absurd (true≢false (sym h ∙ k))

-- a letter that is settled, or that isn't handed on
module _ (past : Past) (limit : ℕ) (o : Offer) where
  pub settled_hands : (b : Bool) → is_settled past o.notice ≡ true → (o.is_taken ≡ true → IsHeld past o.notice)
      → Hands past limit b b (o ∷ []) [] []
  settled_hands b settled held = one_part past limit b b (record { outer = o; inner = []; entries = [] }) (record {
    settled = λ _. (record { inner = refl; entries = refl }, held);
    new = λ new. absurd (false_true settled new);
  }) (nothing_told b)

  -- a letter that isn't taken, where the journal stays as it was or breaks
  pub refused_hands : (was is : Bool) → (was ≡ true → is ≡ true) → o.is_taken ≡ false → Hands past limit was is (o ∷ []) [] []
  refused_hands was is still refused = one_part past limit was is (record { outer = o; inner = []; entries = [] }) (record {
    settled = λ _. (record { inner = refl; entries = refl }, λ taken. absurd (false_true taken refused));
    new = λ _. inr (record { inner = refl; entries = refl }, refused);
  }) (record {
    doubt = [];
    front = refl;
    one = omega arith;
    begun = All-nil (λ n. last_begun [] ≡ Some n);
    whole = λ _. refl;
    silent = λ was-is. (refl, refl, still was-is);
  })

  -- a letter that is handed on
  module _ (text : List ℕ) (is_text : IsTextFor past limit o text) (new : is_settled past o.notice ≡ false) where
    on : Offer
    on = record { notice = o.notice; text = text; is_taken = o.is_taken }

    handed_part : (entries : List Entry) → IsWritten o.notice o.is_taken entries
        → IsPart past limit (record { outer = o; inner = on ∷ []; entries = entries })
    unfolding on
    handed_part entries written = record {
      settled = λ settled. absurd (false_true settled new);
      new = λ _. inl (record { text = text; is_text = is_text; inner = refl; entries = written });
    }

    pub failed_hands : (was is : Bool) → was ≡ false → o.is_taken ≡ false
        → Hands past limit was is (o ∷ []) (record { notice = o.notice; text = text; is_taken = o.is_taken } ∷ []) (Begun o.notice ∷ [])
    unfolding on
    failed_hands was is open-was failed =
        let none : taken_of (on ∷ []) ≡ [] =
        ap (λ (b : Bool). cond b (o.notice ∷ []) [] ++ []) failed in
        one_part past limit was is (record { outer = o; inner = on ∷ []; entries = Begun o.notice ∷ [] })
        (handed_part (Begun o.notice ∷ []) (subst (λ (b : Bool). IsWritten o.notice b (Begun o.notice ∷ [])) (sym failed) refl))
        (record {
          doubt = [];
          front = none;
          one = omega arith;
          begun = All-nil (λ n. last_begun (Begun o.notice ∷ []) ≡ Some n);
          whole = λ _. refl;
          silent = λ was-is. absurd (false_true was-is open-was);
        })

    pub taken_hands : (was is : Bool) → was ≡ false → o.is_taken ≡ true
        → Hands past limit was is (o ∷ []) (record { notice = o.notice; text = text; is_taken = o.is_taken } ∷ [])
        (Begun o.notice ∷ Taken o.notice ∷ [])
    unfolding on
    taken_hands was is open-was taken =
        let all : taken_of (on ∷ []) ≡ o.notice ∷ [] =
        ap (λ (b : Bool). cond b (o.notice ∷ []) [] ++ []) taken in
        one_part past limit was is (record { outer = o; inner = on ∷ []; entries = Begun o.notice ∷ Taken o.notice ∷ [] })
        (handed_part (Begun o.notice ∷ Taken o.notice ∷ [])
        (subst (λ (b : Bool). IsWritten o.notice b (Begun o.notice ∷ Taken o.notice ∷ [])) (sym taken) (inl refl)))
        (record {
          doubt = [];
          front = all;
          one = omega arith;
          begun = All-nil (λ n. last_begun (Begun o.notice ∷ Taken o.notice ∷ []) ≡ Some n);
          whole = λ _. refl;
          silent = λ was-is. absurd (false_true was-is open-was);
        })

    -- that it was taken couldn't be written
    pub doubted_hands : (was : Bool) → was ≡ false → o.is_taken ≡ true
        → Hands past limit was true (o ∷ []) (record { notice = o.notice; text = text; is_taken = o.is_taken } ∷ []) (Begun o.notice ∷ [])
    unfolding on
    doubted_hands was open-was taken =
        let all : taken_of (on ∷ []) ≡ o.notice ∷ [] =
        ap (λ (b : Bool). cond b (o.notice ∷ []) [] ++ []) taken in
        one_part past limit was true (record { outer = o; inner = on ∷ []; entries = Begun o.notice ∷ [] })
        (handed_part (Begun o.notice ∷ [])
        (subst (λ (b : Bool). IsWritten o.notice b (Begun o.notice ∷ [])) (sym taken) (inr refl)))
        (record {
          doubt = o.notice ∷ [];
          front = all;
          one = omega arith;
          begun = All-cons (λ n. last_begun (Begun o.notice ∷ []) ≡ Some n) o.notice [] refl
              (All-nil (λ n. last_begun (Begun o.notice ∷ []) ≡ Some n));
          whole = λ no. absurd (true≢false no);
          silent = λ was-is. absurd (false_true was-is open-was);
        })

-- the text of a letter that is handed on, marked or as it is
pub text_marked : (past : Past) (limit : ℕ) (o : Offer) (text : List ℕ) → Contains past.begun o.notice → text ≡ again_of o.text
    → IsTextFor past limit o text
text_marked past limit o text begun is = record {
  again = λ _ _. is;
  first = λ not_begun. absurd (not_begun begun);
  same = inr is;
}

pub text_plain : (past : Past) (limit : ℕ) (o : Offer) (text : List ℕ)
    → (Contains past.begun o.notice → ⊥) ⊎ (limit < length (again_of o.text)) → text ≡ o.text → IsTextFor past limit o text
text_plain past limit o text (inl not_begun) is = record {
  again = λ begun _. absurd (not_begun begun);
  first = λ _. is;
  same = inl is;
}
text_plain past limit o text (inr long) is = record {
  again = λ _ fits. absurd (omega arith);
  first = λ _. is;
  same = inl is;
}

-- ---- several

taken_after : (p : Part) (rest : List Offer) → taken_of (p.outer ∷ rest) ≡ taken_by p.outer ++ taken_of rest
taken_after p rest = refl

module _ (past : Past) (limit : ℕ) where
  outer_of : List Part → List Offer
  outer_of parts = map (λ p. p.outer) parts

  inner_of : List Part → List Offer
  inner_of parts = flat_map (λ p. p.inner) parts

  -- what a list of one or none gives
  new_one : (n : Notice) (b : Bool) → is_settled past n ≡ false → new_of past (cond b (n ∷ []) []) ≡ cond b (n ∷ []) []
  new_one n true new = cond-true (is_new past n) (n ∷ []) [] (ap not new)
  new_one n false new = refl

  settled_one : (n : Notice) (b : Bool) → is_settled past n ≡ true → new_of past (cond b (n ∷ []) []) ≡ []
  settled_one n true settled = cond-false (is_new past n) (n ∷ []) [] (ap not settled)
  settled_one n false settled = refl

  held_one : (n : Notice) (b : Bool) → is_settled past n ≡ true → (b ≡ true → IsHeld past n) → All (IsHeld past) (settled_of past (cond b (n ∷ []) []))
  held_one n true settled held =
      subst (λ (ns : List Notice). All (IsHeld past) ns) (sym (cond-true (is_settled past n) (n ∷ []) [] settled))
      (All-cons (IsHeld past) n [] (held refl) (All-nil (IsHeld past)))
  held_one n false settled held = All-nil (IsHeld past)

  none_settled : (n : Notice) (b : Bool) → is_settled past n ≡ false → settled_of past (cond b (n ∷ []) []) ≡ []
  none_settled n true new = cond-false (is_settled past n) (n ∷ []) [] new
  none_settled n false new = refl

  abbrev Open : Offer → Type 0
  Open o = is_settled past o.notice ≡ false

  of_part : (p : Part) → IsPart past limit p → IsSplit past (p.outer ∷ []) p.inner
  of_part p part = by_test (is_settled past p.outer.notice) refl
    where
      n : Notice
      n = p.outer.notice

      b : Bool
      b = p.outer.is_taken

      one : taken_of (p.outer ∷ []) ≡ taken_by p.outer
      one = append-nil (taken_by p.outer)

      by_test : (s : Bool) → is_settled past p.outer.notice ≡ s → IsSplit past (p.outer ∷ []) p.inner
      by_test true settled =
          let h = part.settled settled in
          record {
            new = ap (new_of past) one ∙ settled_one p.outer.notice p.outer.is_taken settled ∙ ap taken_of (sym h.0.inner);
            held = subst (λ (ns : List Notice). All (IsHeld past) (settled_of past ns)) (sym one)
                (held_one p.outer.notice p.outer.is_taken settled h.1);
            unsettled = subst (λ (os : List Offer). All Open os) (sym h.0.inner) (All-nil Open);
          }
      by_test false new =
          let held : All (IsHeld past) (settled_of past (taken_of (p.outer ∷ []))) =
          subst (λ (ns : List Notice). All (IsHeld past) ns)
          (sym (ap (settled_of past) one ∙ none_settled p.outer.notice p.outer.is_taken new)) (All-nil (IsHeld past)) in
          elim (part.new new) [
            | inl on ↦ record {
              new = ap (new_of past) one ∙ new_one p.outer.notice p.outer.is_taken new ∙ sym one ∙ ap taken_of (sym on.inner);
              held = held;
              unsettled = subst (λ (os : List Offer). All Open os) (sym on.inner)
                  (All-cons Open (record { notice = p.outer.notice; text = on.text; is_taken = p.outer.is_taken }) [] new (All-nil Open));
            }
            | inr back ↦ record {
              new = ap (new_of past) (one ∙ ap (λ (x : Bool). cond x (p.outer.notice ∷ []) []) back.1) ∙ ap taken_of (sym back.0.inner);
              held = held;
              unsettled = subst (λ (os : List Offer). All Open os) (sym back.0.inner) (All-nil Open);
            }
          ]

  split_more : (one two inner inner' : List Offer) → IsSplit past one inner → IsSplit past two inner' → IsSplit past (one ++ two) (inner ++ inner')
  split_more one two inner inner' first next = record {
    new = ap (new_of past) (flat_map-append taken_by one two) ∙ filter-append (is_new past) (taken_of one) (taken_of two)
        ∙ ap (λ ns. ns ++ new_of past (taken_of two)) first.new ∙ ap (λ ns. taken_of inner ++ ns) next.new
        ∙ sym (flat_map-append taken_by inner inner');
    held = subst (λ (ns : List Notice). All (IsHeld past) ns)
        (sym (ap (settled_of past) (flat_map-append taken_by one two) ∙ filter-append (is_settled past) (taken_of one) (taken_of two)))
        (All-append (IsHeld past) (settled_of past (taken_of one)) (settled_of past (taken_of two)) first.held next.held);
    unsettled = All-append Open inner inner' first.unsettled next.unsettled;
  }

  of_parts : (parts : List Part) → All (IsPart past limit) parts → IsSplit past (outer_of parts) (inner_of parts)
  unfolding outer_of inner_of
  of_parts [] each = record { new = refl; held = All-nil (IsHeld past); unsettled = All-nil Open }
  of_parts (p ∷ parts) each =
      split_more (p.outer ∷ []) (outer_of parts) p.inner (inner_of parts) (of_part p (All-head (IsPart past limit) p parts each))
      (of_parts parts (All-tail (IsPart past limit) p parts each))

pub are_split : AreSplit
unfolding outer_of inner_of
are_split past limit was is offers inner entries h =
    subst (λ (os : List Offer). IsSplit past os inner) (sym h.outer_are)
    (subst (λ (os : List Offer). IsSplit past (map (λ p. p.outer) h.parts) os) (sym h.inner_are) (of_parts past limit h.parts h.each))

-- ---- a call

module _ {C J : Type 0} (account : C → Account) (offered : C → List Offer → C → Type 0) (is_broken : J → Bool)
    (wrote : J → List Entry → J → Type 0) (a b : Wrapped C J) (o : Offer)
    (same : (account b.inner).number ≡ (account a.inner).number) (limit : (account b.inner).limit ≡ (account a.inner).limit)
    (past : b.past ≡ a.past) where
  -- it was refused here
  pub refused_offered : offered a.inner [] b.inner → wrote a.journal [] b.journal
      → (is_broken a.journal ≡ true → is_broken b.journal ≡ true)
      → o.is_taken ≡ false → b.kept.taken ≡ a.kept.taken → IsOffered account offered is_broken wrote a (o ∷ []) b
  refused_offered inner journal still refused kept = record {
    outer = record {
      number = same;
      limit = limit;
      taken = kept ∙ sym (append-nil a.kept.taken) ∙ ap (λ (x : Bool). a.kept.taken ++ (cond x (receipt_of o.notice ∷ []) [] ++ [])) (sym refused);
    };
    past = past;
    inner = [];
    entries = [];
    hands = refused_hands a.past (account a.inner).limit o (is_broken a.journal) (is_broken b.journal) still refused;
    handed = inner;
    written = journal;
  }

  taken_more : o.is_taken ≡ true → b.kept.taken ≡ a.kept.taken ++ receipt_of o.notice ∷ []
      → WasOffered (account_of account a) (o ∷ []) (account_of account b)
  taken_more taken kept = record {
    number = same;
    limit = limit;
    taken = kept ∙ ap (λ (x : Bool). a.kept.taken ++ (cond x (receipt_of o.notice ∷ []) [] ++ [])) (sym taken);
  }

  -- it was settled
  pub settled_offered : offered a.inner [] b.inner → wrote a.journal [] b.journal → is_broken b.journal ≡ is_broken a.journal
      → o.is_taken ≡ true → b.kept.taken ≡ a.kept.taken ++ receipt_of o.notice ∷ []
      → is_settled a.past o.notice ≡ true → IsHeld a.past o.notice → IsOffered account offered is_broken wrote a (o ∷ []) b
  settled_offered inner journal broken taken kept settled held = record {
    outer = taken_more taken kept;
    past = past;
    inner = [];
    entries = [];
    hands = subst (λ (x : Bool). Hands a.past (account a.inner).limit (is_broken a.journal) x (o ∷ []) [] []) (sym broken)
        (settled_hands a.past (account a.inner).limit o (is_broken a.journal) settled (λ _. held));
    handed = inner;
    written = journal;
  }

  -- it was handed on
  module _ (text : List ℕ) (is_text : IsTextFor a.past (account a.inner).limit o text) (new : is_settled a.past o.notice ≡ false)
      (whole : is_broken a.journal ≡ false)
      (inner : offered a.inner (record { notice = o.notice; text = text; is_taken = o.is_taken } ∷ []) b.inner) where
    pub failed_offered : wrote a.journal (Begun o.notice ∷ []) b.journal → o.is_taken ≡ false → b.kept.taken ≡ a.kept.taken
        → IsOffered account offered is_broken wrote a (o ∷ []) b
    failed_offered journal failed kept = record {
      outer = record {
        number = same;
        limit = limit;
        taken = kept ∙ sym (append-nil a.kept.taken) ∙ ap (λ (x : Bool). a.kept.taken ++ (cond x (receipt_of o.notice ∷ []) [] ++ [])) (sym failed);
      };
      past = past;
      inner = record { notice = o.notice; text = text; is_taken = o.is_taken } ∷ [];
      entries = Begun o.notice ∷ [];
      hands = failed_hands a.past (account a.inner).limit o text is_text new (is_broken a.journal) (is_broken b.journal) whole failed;
      handed = inner;
      written = journal;
    }

    pub taken_offered : wrote a.journal (Begun o.notice ∷ Taken o.notice ∷ []) b.journal
        ⊎ (wrote a.journal (Begun o.notice ∷ []) b.journal × (is_broken b.journal ≡ true))
        → o.is_taken ≡ true → b.kept.taken ≡ a.kept.taken ++ receipt_of o.notice ∷ []
        → IsOffered account offered is_broken wrote a (o ∷ []) b
    taken_offered (inl journal) taken kept = record {
      outer = taken_more taken kept;
      past = past;
      inner = record { notice = o.notice; text = text; is_taken = o.is_taken } ∷ [];
      entries = Begun o.notice ∷ Taken o.notice ∷ [];
      hands = taken_hands a.past (account a.inner).limit o text is_text new (is_broken a.journal) (is_broken b.journal) whole taken;
      handed = inner;
      written = journal;
    }
    taken_offered (inr (journal, broken)) taken kept = record {
      outer = taken_more taken kept;
      past = past;
      inner = record { notice = o.notice; text = text; is_taken = o.is_taken } ∷ [];
      entries = Begun o.notice ∷ [];
      hands = subst (λ (x : Bool). Hands a.past (account a.inner).limit (is_broken a.journal) x (o ∷ [])
          (record { notice = o.notice; text = text; is_taken = o.is_taken } ∷ []) (Begun o.notice ∷ [])) (sym broken)
          (doubted_hands a.past (account a.inner).limit o text is_text new (is_broken a.journal) whole taken);
      handed = inner;
      written = journal;
    }

-- nothing was offered to it
module _ {C J : Type 0} (account : C → Account) (offered : C → List Offer → C → Type 0) (is_broken : J → Bool)
    (wrote : J → List Entry → J → Type 0) where
  pub nothing_offered : (a b : Wrapped C J) → (account b.inner).number ≡ (account a.inner).number
      → (account b.inner).limit ≡ (account a.inner).limit → b.past ≡ a.past → offered a.inner [] b.inner → wrote a.journal [] b.journal
      → is_broken b.journal ≡ is_broken a.journal → b.kept.taken ≡ a.kept.taken → IsOffered account offered is_broken wrote a [] b
  nothing_offered a b same limit past inner journal broken kept = record {
    outer = record { number = same; limit = limit; taken = kept ∙ sym (append-nil a.kept.taken) };
    past = past;
    inner = [];
    entries = [];
    hands = subst (λ (x : Bool). Hands a.past (account a.inner).limit (is_broken a.journal) x [] [] []) (sym broken)
        (nothing_handed a.past (account a.inner).limit (is_broken a.journal));
    handed = inner;
    written = journal;
  }

  -- what it was is another name of it
  pub of_same : (old a b : Wrapped C J) (offers : List Offer) → a ≡ old → IsOffered account offered is_broken wrote a offers b
      → IsOffered account offered is_broken wrote old offers b
  of_same old a b offers is h = subst (λ (x : Wrapped C J). IsOffered account offered is_broken wrote x offers b) is h

-- begun, and then told or not
pub begun_then : {J : Type 0} (wrote : J → List Entry → J → Type 0) (is_broken : J → Bool)
    → ((a b c : J) (one two : List Entry) → wrote a one b → wrote b two c → wrote a (one ++ two) c)
    → (a b c : J) (n : Notice) → wrote a (Begun n ∷ []) b
    → wrote b (Taken n ∷ []) c ⊎ (wrote b [] c × (is_broken c ≡ true))
    → wrote a (Begun n ∷ Taken n ∷ []) c ⊎ (wrote a (Begun n ∷ []) c × (is_broken c ≡ true))
begun_then wrote is_broken follows a b c n first (inl next) = inl (follows a b c (Begun n ∷ []) (Taken n ∷ []) first next)
begun_then wrote is_broken follows a b c n first (inr (next, broken)) = inr (follows a b c (Begun n ∷ []) [] first next, broken)

-- the letter that is handed on, marked or as it is
pub chosen_text : (past : Past) (limit : ℕ) (letter out : Letter) (b : Bool) (found : Option Letter)
    → IfSome found (λ again. Contains past.begun letter.notice) → IfSome found (λ again. again.text ≡ again_of letter.text)
    → IfNone found ((Contains past.begun letter.notice → ⊥) ⊎ (limit < length (again_of letter.text)))
    → IfSome found (λ again. out ≡ again) → IfNone found (out ≡ letter)
    → IsTextFor past limit (offer_of letter b) out.text
chosen_text past limit letter out b None begun text none some same =
    text_plain past limit (offer_of letter b) out.text none (ap (λ (l : Letter). l.text) same)
chosen_text past limit letter out b (Some again) begun text none some same =
    text_marked past limit (offer_of letter b) out.text begun (ap (λ (l : Letter). l.text) some ∙ text)

-- one that wasn't about to be handed over before is handed on as it is
pub chosen_same : (past : Past) (letter out : Letter) (found : Option Letter)
    → IfSome found (λ again. Contains past.begun letter.notice) → IfNone found (out ≡ letter)
    → (Contains past.begun letter.notice → ⊥) → out ≡ letter
chosen_same past letter out None begun same never = same
chosen_same past letter out (Some again) begun same never = absurd (never begun)

pub chosen_notice : (letter out : Letter) (found : Option Letter) → IfSome found (λ again. again.notice ≡ letter.notice)
    → IfSome found (λ again. out ≡ again) → IfNone found (out ≡ letter) → out.notice ≡ letter.notice
chosen_notice letter out None notice some same = ap (λ (l : Letter). l.notice) same
chosen_notice letter out (Some again) notice some same = ap (λ (l : Letter). l.notice) some ∙ notice

-- the same by other names of what earlier runs left, and of the limit
pub text_is : (past past' : Past) (limit limit' : ℕ) (letter out : Letter) (b : Bool) (found : Option Letter) → past' ≡ past → limit' ≡ limit
    → IfSome found (λ again. Contains past'.begun letter.notice) → IfSome found (λ again. again.text ≡ again_of letter.text)
    → IfNone found ((Contains past'.begun letter.notice → ⊥) ⊎ (limit' < length (again_of letter.text)))
    → IfSome found (λ again. out ≡ again) → IfNone found (out ≡ letter)
    → IsTextFor past limit (offer_of letter b) out.text
text_is past past' limit limit' letter out b found p l begun text none some same =
    subst (λ (q : Past). IsTextFor q limit (offer_of letter b) out.text) p
    (subst (λ (m : ℕ). IsTextFor past' m (offer_of letter b) out.text) l
    (chosen_text past' limit' letter out b found begun text none some same))

pub same_notice : {C : Type 0} (offered : C → List Offer → C → Type 0) (x y : C) (letter out : Letter) (b : Bool) → out.notice ≡ letter.notice
    → offered x (offer_of out b ∷ []) y → offered x (record { notice = letter.notice; text = out.text; is_taken = b } ∷ []) y
same_notice offered x y letter out b same h =
    subst (λ (n : Notice). offered x (record { notice = n; text = out.text; is_taken = b } ∷ []) y) same h
