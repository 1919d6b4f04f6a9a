-- What is found among notices that stand in the order of their places.
use Rattle.std.proofs.Common.{◌≡◌, ℕ, zero, suc, ◌<◌, ◌≤◌, ◌+◌, ◌-◌, ◌*◌, ◌^◌, List, [], ◌∷◌, Bool, true, false, ◌&&◌, ◌||◌, ◌==◌, nat_le, nat_lt, length, take, drop, slice_index_or, refl, sym, ap, ◌∙◌, subst, arith, eqb-true, eq-eqb, ◌⊎◌, inl, inr}
use Rattle.std.specs.Prelude.{All, Contains, slice_range}
use Rattle.std.specs.List.{list_any}
use Rattle.std.specs.List.Sorted.{IsNonDecreasingBy}
use Rattle.std.proofs.lemmas.Bool.{and_from, and_left, and_right, or_from, or_left, or_right, le-leb, le-ltb, lt-leb, lt-ltb, ne_eqb, ltb-false, ltb-true, true≢false}
use Rattle.std.proofs.lemmas.List.{get_or-drop, get_or-take, length-drop, length-take-le}
use Rattle.std.proofs.lemmas.List.Folds.{list_any_at, list_any_none}
use Rattle.due_model.specs.declared.notice.Notice.{Notice}
use Rattle.journaled.specs.Claims.{settles}
use Rattle.journaled.specs.Places.{IsWithin, place, turn}

-- one whose turn comes sooner doesn't settle it
sooner : (n x : Notice) → n.contact.0 < 65536 → turn x < turn n → settles n x ≡ false
sooner n x few less =
    and_right (x.object.0 == n.object.0) (nat_lt n.event x.event || (x.event == n.event && nat_le n.contact.0 x.contact.0))
    (or_from (nat_lt n.event x.event) (x.event == n.event && nat_le n.contact.0 x.contact.0)
    (le-ltb n.event x.event (omega arith)) (by_test (x.event == n.event) refl))
  where
    by_test : (b : Bool) → (x.event == n.event) ≡ b → (b && nat_le n.contact.0 x.contact.0) ≡ false
    by_test true is =
        let same : x.event ≡ n.event = eqb-true x.event n.event is in
        lt-leb n.contact.0 x.contact.0 (omega arith)
    by_test false is = refl

other : (n x : Notice) → (x.object.0 ≡ n.object.0 → ⊥) → settles n x ≡ false
other n x differs =
    and_left (x.object.0 == n.object.0) (nat_lt n.event x.event || (x.event == n.event && nat_le n.contact.0 x.contact.0))
    (ne_eqb x.object.0 n.object.0 differs)

-- one of its object whose turn doesn't come sooner does
later : (n x : Notice) → x.object.0 ≡ n.object.0 → x.contact.0 < 65536 → turn n ≤ turn x → settles n x ≡ true
later n x same few less =
    and_from (x.object.0 == n.object.0) (nat_lt n.event x.event || (x.event == n.event && nat_le n.contact.0 x.contact.0))
    (eq-eqb x.object.0 n.object.0 same) (by_test (nat_lt n.event x.event) refl)
  where
    by_test : (b : Bool) → nat_lt n.event x.event ≡ b → (b || (x.event == n.event && nat_le n.contact.0 x.contact.0)) ≡ true
    by_test true is = refl
    by_test false is =
        let most : x.event ≤ n.event = ltb-false n.event x.event is in
        let event : x.event ≡ n.event = omega arith in
        and_from (x.event == n.event) (nat_le n.contact.0 x.contact.0) (eq-eqb x.event n.event event)
        (le-leb n.contact.0 x.contact.0 (omega arith))

contrary : {b : Bool} → b ≡ false → b ≡ true → ⊥
contrary f t = true≢false (sym t ∙ f)

-- of its object or not
by_object : (n x : Notice) → (x.object.0 ≡ n.object.0 → settles n x ≡ false) → settles n x ≡ false
by_object n x same = by_test (x.object.0 == n.object.0) refl
  where
    by_test : (b : Bool) → (x.object.0 == n.object.0) ≡ b → settles n x ≡ false
    by_test true is = same (eqb-true x.object.0 n.object.0 is)
    by_test false is = other n x (λ e. contrary is (eq-eqb x.object.0 n.object.0 e))

module _ (xs : List Notice) (n : Notice) (count at : ℕ) (is-at : at ≡ place n) (within : All IsWithin xs) (own : IsWithin n)
    (less : (k : ℕ) (d : Notice) → k < count → place (slice_index_or xs k d) < at)
    (rest : (k : ℕ) (d : Notice) → count ≤ k → k < length xs → at ≤ place (slice_index_or xs k d)) where
  -- all stand before it
  pub none_settles : length xs ≤ count → list_any (settles n) xs ≡ false
  none_settles all = list_any_none (settles n) xs (λ k d inside. let x = slice_index_or xs k d in
      by_object n x (λ same. let before : place x < at = less k d (omega arith) in
      sooner n x own.contact (omega (arith, is-at))))

  -- the first that doesn't is of its object
  pub first_settles : (next : Notice) → count < length xs → (d : Notice) → next ≡ slice_index_or xs count d → next.object.0 ≡ n.object.0
      → list_any (settles n) xs ≡ true
  first_settles next inside d is same =
      let behind : place n ≤ place (slice_index_or xs count d) = subst (λ (p : ℕ). p ≤ place (slice_index_or xs count d)) is-at (rest count d (omega arith) inside) in
      let fits : IsWithin next = subst IsWithin (sym is) (within count d inside) in
      let after : place n ≤ place next = subst (λ (x : Notice). place n ≤ place x) (sym is) behind in
      list_any_at (settles n) xs count d inside
      (subst (λ (x : Notice). settles n x ≡ true) is (later n next same fits.contact (omega arith)))

  -- or is of another
  pub first_differs : IsNonDecreasingBy place xs → (next : Notice) → count < length xs → (d : Notice) → next ≡ slice_index_or xs count d
      → (next.object.0 ≡ n.object.0 → ⊥) → list_any (settles n) xs ≡ false
  first_differs order next inside d is differs = list_any_none (settles n) xs (λ k e within-k. let x = slice_index_or xs k e in
      by_object n x (λ same. by_place k e within-k same (nat_lt k count) refl))
    where
      after : place n ≤ place next
      after = subst (λ (x : Notice). place n ≤ place x) (sym is)
          (subst (λ (p : ℕ). p ≤ place (slice_index_or xs count d)) is-at (rest count d (omega arith) inside))

      fits : IsWithin next
      fits = subst IsWithin (sym is) (within count d inside)

      by_place : (k : ℕ) (e : Notice) → k < length xs → (slice_index_or xs k e).object.0 ≡ n.object.0 → (b : Bool) → nat_lt k count ≡ b
          → settles n (slice_index_or xs k e) ≡ false
      by_place k e within-k same true before =
          let sooner-is : place (slice_index_or xs k e) < place n =
          subst (λ (p : ℕ). place (slice_index_or xs k e) < p) is-at (less k e (ltb-true k count before)) in
          sooner n (slice_index_or xs k e) own.contact (omega arith)
      by_place k e within-k same false not-before =
          let x = slice_index_or xs k e in
          let behind : place (slice_index_or xs count e) ≤ place x = order count k e (ltb-false k count not-before) within-k in
          let same-next : slice_index_or xs count e ≡ next = at_any xs count e d inside ∙ sym is in
          let next-before : place next ≤ place x = subst (λ (y : Notice). place y ≤ place x) same-next behind in
          let fits-x : IsWithin x = within k e within-k in
          let event-x : x.event < 2 ^ 64 = fits-x.event in
          let contact-x : x.contact.0 < 65536 = fits-x.contact in
          let event-next : next.event < 2 ^ 64 = fits.event in
          let contact-next : next.contact.0 < 65536 = fits.contact in
          let differs' : next.object.0 ≡ n.object.0 → ⊥ = differs in
          let is-after : place n ≤ place next = after in
          absurd (differs' (omega arith))
        where
          at_any : (ys : List Notice) (i : ℕ) (a b : Notice) → i < length ys → slice_index_or ys i a ≡ slice_index_or ys i b
          at_any [] i a b h = absurd (omega arith)
          at_any (y ∷ ys) zero a b h = refl
          at_any (y ∷ ys) (suc i) a b h = at_any ys i a b (omega arith)

  -- so the first that doesn't tells
  pub first_tells : IsNonDecreasingBy place xs → (next : Notice) → count < length xs → next ≡ slice_index_or xs count next
      → (next.object.0 == n.object.0) ≡ list_any (settles n) xs
  first_tells order next inside is = by_test (next.object.0 == n.object.0) refl
    where
      by_test : (b : Bool) → (next.object.0 == n.object.0) ≡ b → b ≡ list_any (settles n) xs
      by_test true same = sym (first_settles next inside next is (eqb-true next.object.0 n.object.0 same))
      by_test false other-is =
          sym (first_differs order next inside next is (λ e. contrary other-is (eq-eqb next.object.0 n.object.0 e)))

length_range : (xs : List Notice) (start end : ℕ) → end ≤ length xs → length (slice_range xs start end) ≡ end - start
length_range xs start end most =
    let rest : length (drop start xs) ≡ length xs - start = length-drop start xs in
    length-take-le (end - start) (drop start xs) (omega arith)

-- among those at its place are all that are just as it is
module _ (xs : List Notice) (n : Notice) (start end at : ℕ) (is-at : at ≡ place n) (most : end ≤ length xs)
    (less : (k : ℕ) (d : Notice) → k < start → place (slice_index_or xs k d) < at)
    (rest : (k : ℕ) (d : Notice) → end ≤ k → k < length xs → at < place (slice_index_or xs k d)) where
  range_at : (k : ℕ) (d : Notice) → k < end - start → slice_index_or (slice_range xs start end) k d ≡ slice_index_or xs (start + k) d
  range_at k d inside = get_or-take (end - start) (drop start xs) k d inside ∙ get_or-drop start xs k d

  pub held_there : Contains xs n → (start ≤ end) × Contains (slice_range xs start end) n
  held_there c =
      let k = c.0 in
      let first : start ≤ k = not_before (nat_lt k start) refl in
      let last : k < end = not_after (nat_lt k end) refl in
      let length-is : length (slice_range xs start end) ≡ end - start = range_length in (
        omega arith,
        (
          k - start,
          omega arith,
          range_at (k - start) n (omega arith) ∙ ap (λ (i : ℕ). slice_index_or xs i n) (let i : start + (k - start) ≡ k = omega arith in i) ∙ c.2,
        ),
      )
    where
      same-place : place (slice_index_or xs c.0 n) ≡ place n
      same-place = ap place c.2

      not_before : (b : Bool) → nat_lt c.0 start ≡ b → start ≤ c.0
      not_before true is = let before : place (slice_index_or xs c.0 n) < at = less c.0 n (ltb-true c.0 start is) in absurd (omega (arith, same-place, is-at))
      not_before false is = ltb-false c.0 start is

      not_after : (b : Bool) → nat_lt c.0 end ≡ b → c.0 < end
      not_after true is = ltb-true c.0 end is
      not_after false is = let behind : at < place (slice_index_or xs c.0 n) = rest c.0 n (ltb-false c.0 end is) c.1 in absurd (omega (arith, same-place, is-at))

      range_length : length (slice_range xs start end) ≡ end - start
      range_length = length_range xs start end most

  pub held_here : Contains (slice_range xs start end) n → Contains xs n
  held_here c =
      let length-is : length (slice_range xs start end) ≡ end - start = range_length in
      let inside : c.0 < end - start = omega (arith, c.1) in
      (start + c.0, omega arith, sym (range_at c.0 n inside) ∙ c.2)
    where
      range_length : length (slice_range xs start end) ≡ end - start
      range_length = length_range xs start end most
