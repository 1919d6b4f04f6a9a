-- The books after those that were staged.
use Rattle.std.proofs.Common.{◌≡◌, ◌≢◌, ℕ, zero, suc, ◌<◌, ◌≤◌, Bool, true, false, cond, List, [], ◌∷◌, ◌++◌, length, set, get_or, refl, sym, ap, ◌∙◌, subst, arith, inl, inr, ◌⊎◌, get_or-set_same, get_or-set_other, length-set}
use Rattle.std.proofs.lemmas.Bool.{cases_eq}
use Rattle.lemmas.proofs.Numbers.{flat_below, flat_more}
use Rattle.problem_count.specs.claims.Book.{BookValues}
use Rattle.decider.specs.declared.staging.NewBook.{NewBook}
use Rattle.decider.specs.Books.{settled}

-- of object o there is no new book, or one
abbrev pub AtMostOne : ℕ → List NewBook → Type 0
AtMostOne o decided = (decided ≡ []) ⊎ ((new : NewBook) × (decided ≡ new ∷ []) × (new.object.0 ≡ o))

-- the new book, or else this one
abbrev pub book_decided : List NewBook → BookValues → BookValues
book_decided [] book = book
book_decided (new ∷ decided) book = new.book

settled-append : (decided more : List NewBook) (books : List BookValues) → settled (decided ++ more) books ≡ settled more (settled decided books)
settled-append [] more books = refl
settled-append (new ∷ decided) more books = settled-append decided more (set books new.object.0 new.book)

pub length-settled : (decided : List NewBook) (books : List BookValues) → length (settled decided books) ≡ length books
length-settled [] books = refl
length-settled (new ∷ decided) books = length-settled decided (set books new.object.0 new.book) ∙ length-set books new.object.0 new.book

module _ (f : ℕ → List NewBook) (p : ℕ → Bool) (one : (o : ℕ) → AtMostOne o (f o)) where
  -- a new book of object n leaves the books of the others
  step_other : (n o : ℕ) (books : List BookValues) (d : BookValues) → o ≢ n → get_or (settled (cond (p n) (f n) []) books) o d ≡ get_or books o d
  step_other n o books d ne = by_test (p n) (one n)
    where
      by_test : (b : Bool) → AtMostOne n (f n) → get_or (settled (cond b (f n) []) books) o d ≡ get_or books o d
      by_test true (inl e) = ap (λ decided. get_or (settled decided books) o d) e
      by_test true (inr h) =
          ap (λ decided. get_or (settled decided books) o d) h.1
          ∙ get_or-set_other books h.0.object.0 o h.0.book d (λ e. ne (e ∙ h.2))
      by_test false h = refl

  -- and is that of its object
  step_same : (n : ℕ) (books : List BookValues) (d : BookValues) → n < length books → p n ≡ true
      → get_or (settled (cond (p n) (f n) []) books) n d ≡ book_decided (f n) (get_or books n d)
  step_same n books d within owned = ap (λ b. get_or (settled (cond b (f n) []) books) n d) owned ∙ by_decision (one n)
    where
      by_decision : AtMostOne n (f n) → get_or (settled (f n) books) n d ≡ book_decided (f n) (get_or books n d)
      by_decision (inl e) = ap (λ decided. get_or (settled decided books) n d) e ∙ sym (ap (λ decided. book_decided decided (get_or books n d)) e)
      by_decision (inr h) =
          ap (λ decided. get_or (settled decided books) n d) h.1
          ∙ subst (λ (m : ℕ). get_or (set books m h.0.book) n d ≡ h.0.book) (sym h.2) (get_or-set_same books n h.0.book d within)
          ∙ sym (ap (λ decided. book_decided decided (get_or books n d)) h.1)

  -- the books of the objects that come later stay
  settled_later : (n o : ℕ) (books : List BookValues) (d : BookValues) → n ≤ o → get_or (settled (flat_below f p n) books) o d ≡ get_or books o d
  settled_later zero o books d h = refl
  settled_later (suc n) o books d h =
      ap (λ decided. get_or (settled decided books) o d) (flat_more f p n)
      ∙ ap (λ (bs : List BookValues). get_or bs o d) (settled-append (flat_below f p n) (cond (p n) (f n) []) books)
      ∙ step_other n o (settled (flat_below f p n) books) d (omega arith)
      ∙ settled_later n o books d (omega arith)

  -- the book of an owned object is the new one, or stays
  pub settled_at : (n o : ℕ) (books : List BookValues) (d : BookValues) → o < n → o < length books → p o ≡ true
      → get_or (settled (flat_below f p n) books) o d ≡ book_decided (f o) (get_or books o d)
  settled_at zero o books d h within owned = absurd (omega arith)
  settled_at (suc n) o books d h within owned =
      ap (λ decided. get_or (settled decided books) o d) (flat_more f p n)
      ∙ ap (λ (bs : List BookValues). get_or bs o d) (settled-append (flat_below f p n) (cond (p n) (f n) []) books)
      ∙ elim (cases_eq o n) [
        | inl e ↦ subst (λ (m : ℕ). get_or (settled (cond (p m) (f m) []) (settled (flat_below f p m) books)) o d ≡ book_decided (f o) (get_or books o d)) e
            (step_same o (settled (flat_below f p o) books) d (subst (λ (m : ℕ). o < m) (sym (length-settled (flat_below f p o) books)) within) owned
            ∙ ap (book_decided (f o)) (settled_later o o books d (omega arith)))
        | inr ne ↦ step_other n o (settled (flat_below f p n) books) d ne ∙ settled_at n o books d (omega arith) within owned
      ]
