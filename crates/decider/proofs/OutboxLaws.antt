-- Room in lanes, before and after a notice takes its place there.
use Rattle.std.proofs.Common.{◌≡◌, ◌≢◌, ℕ, ◌+◌, ◌<◌, ◌≤◌, List, [], ◌∷◌, length, map, filter, set, get_or, refl, sym, ap, ◌∙◌, subst, arith, inl, inr, length-append}
use Rattle.std.proofs.lemmas.Bool.{cases_eq, eq-eqb, ne_eqb}
use Rattle.std.proofs.lemmas.List.Elements.{filter-append}
use Rattle.due_model.specs.declared.notice.Notice.{Notice}
use Rattle.messages.specs.declared.entries.Entry.{Entry}
use Rattle.messages.specs.declared.entries.Entry.TheVariants.{Sent}
use Rattle.messages.specs.Entries.{is_for}
use Rattle.decider.specs.Outbox.{count_for}
use Rattle.lemmas.proofs.Writes.{kept_at, read_at, written_at}

-- a notice counts for its own lane alone
pub count_own : (n : Notice) (l : ℕ) → n.lane.0 ≡ l → count_for l (Sent n ∷ []) ≡ 1
count_own n l e = rw (eq-eqb n.lane.0 l e) refl

count_other : (n : Notice) (l : ℕ) → n.lane.0 ≢ l → count_for l (Sent n ∷ []) ≡ 0
count_other n l ne = rw (ne_eqb n.lane.0 l ne) refl

-- the entries for a lane are the first, if it is one, and those after it
pub count_first : (l : ℕ) (x : Entry) (xs : List Entry) → count_for l (x ∷ xs) ≡ count_for l (x ∷ []) + count_for l xs
count_first l x xs = ap length (filter-append (is_for l) (x ∷ []) xs) ∙ length-append (filter (is_for l) (x ∷ [])) (filter (is_for l) xs)

module _ {X : Type 0} (f : X → ℕ) where
  -- there is a place for a notice that is needed
  pub has_place : (xs : List X) (x : X) (n : Notice) (entry : Entry) → entry ≡ Sent n → n.lane.0 < length xs → x ≡ get_or xs n.lane.0 x
      → count_for n.lane.0 (entry ∷ []) ≤ get_or (map f xs) n.lane.0 0 → 1 ≤ f x
  has_place xs x n entry is within value needed =
      let one : count_for n.lane.0 (entry ∷ []) ≡ 1 = ap (λ (e : Entry). count_for n.lane.0 (e ∷ [])) is ∙ count_own n n.lane.0 refl in
      let room = read_at f xs n.lane.0 x 0 within value in
      omega (arith, needed, one, room)

  -- a notice takes one place in its lane
  pub one_less : (xs : List X) (l : ℕ) (x y : X) (n : Notice) → n.lane.0 < length xs → x ≡ get_or xs n.lane.0 x → f x ≡ 1 + f y
      → get_or (map f xs) l 0 ≡ count_for l (Sent n ∷ []) + get_or (map f (set xs n.lane.0 y)) l 0
  one_less xs l x y n within value less = elim (cases_eq n.lane.0 l) [
    | inl e ↦ subst (λ (k : ℕ). get_or (map f xs) k 0 ≡ count_for k (Sent n ∷ []) + get_or (map f (set xs n.lane.0 y)) k 0) e
        (let before = read_at f xs n.lane.0 x 0 within value in
        let after = written_at f xs n.lane.0 y 0 within in
        let one = count_own n n.lane.0 refl in
        omega (arith, before, after, one, less))
    | inr ne ↦ let same = kept_at f xs n.lane.0 l y 0 (λ e. ne (sym e)) in let none = count_other n l ne in omega (arith, same, none)
  ]
