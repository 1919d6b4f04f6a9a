-- Lists of lists: a write at one place, seen through a function of the elements.
use Rattle.std.proofs.Common.{◌≡◌, ◌≢◌, ℕ, ◌<◌, cond, eqb, List, [], ◌++◌, length, map, set, get_or, subst, refl, sym, ap, ◌∙◌, inl, inr, get_or-set_same, get_or-set_other, length-set}
use Rattle.std.proofs.Math.Seq.{map-set_same}
use Rattle.std.proofs.lemmas.List.{map-set, get_or-map, append-nil}
use Rattle.std.proofs.lemmas.Bool.{eq-eqb, ne_eqb, cases_eq}

module _ {X Y : Type 0} (f : X → Y) where
  -- what f makes of the element that is written at i
  pub written_at : (xs : List X) (i : ℕ) (y : X) (d : Y) → i < length xs → get_or (map f (set xs i y)) i d ≡ f y
  written_at xs i y d h = get_or-map f (set xs i y) i y d (simp length-set h) ∙ ap f (get_or-set_same xs i y y h)

  -- a write at i leaves what f makes of the others
  pub kept_at : (xs : List X) (i k : ℕ) (y : X) (d : Y) → k ≢ i → get_or (map f (set xs i y)) k d ≡ get_or (map f xs) k d
  kept_at xs i k y d ne = ap (λ l. get_or l k d) (map-set f xs i y) ∙ get_or-set_other (map f xs) i k (f y) d ne

  -- what f makes of the element at i
  pub read_at : (xs : List X) (i : ℕ) (x : X) (d : Y) → i < length xs → x ≡ get_or xs i x → get_or (map f xs) i d ≡ f x
  read_at xs i x d h e = get_or-map f xs i x d h ∙ ap f (sym e)

  -- an element that f sees changed by g
  pub map-set_by : (xs : List X) (i : ℕ) (x y : X) (d : Y) (g : Y → Y) → i < length xs → x ≡ get_or xs i x → f y ≡ g (f x)
      → map f (set xs i y) ≡ set (map f xs) i (g (get_or (map f xs) i d))
  map-set_by xs i x y d g h e w = map-set f xs i y ∙ ap (λ v. set (map f xs) i v) (w ∙ ap g (sym (read_at xs i x d h e)))

  -- an element that f sees unchanged
  pub map-set_kept : (xs : List X) (i : ℕ) (x y : X) → x ≡ get_or xs i x → f y ≡ f x → map f (set xs i y) ≡ map f xs
  map-set_kept xs i x y e w = map-set_same f xs i y x (w ∙ ap f e)

-- an element after a write at i
pub at_set : {Y : Type 0} (xs : List Y) (i l : ℕ) (v d : Y) → i < length xs → get_or (set xs i v) l d ≡ cond (eqb i l) v (get_or xs l d)
at_set xs i l v d h =
    elim (cases_eq i l) [
      | inl e ↦ subst (λ (k : ℕ). get_or (set xs i v) k d ≡ cond (eqb i k) v (get_or xs k d)) e (get_or-set_same xs i v d h ∙ sym (ap (λ b. cond b v (get_or xs i d)) (eq-eqb i i refl)))
      | inr ne ↦ get_or-set_other xs i l v d (λ e. ne (sym e)) ∙ sym (ap (λ b. cond b v (get_or xs l d)) (ne_eqb i l ne))
    ]

-- a list of lists in which one list has become longer
pub at_longer : {A : Type 0} (xs : List (List A)) (i l : ℕ) (ys : List A) → i < length xs
    → get_or (set xs i (get_or xs i [] ++ ys)) l [] ≡ get_or xs l [] ++ cond (eqb i l) ys []
at_longer xs i l ys h =
    elim (cases_eq i l) [
      | inl e ↦ subst (λ (k : ℕ). get_or (set xs i (get_or xs i [] ++ ys)) k [] ≡ get_or xs k [] ++ cond (eqb i k) ys []) e
          (get_or-set_same xs i (get_or xs i [] ++ ys) [] h ∙ sym (ap (λ b. get_or xs i [] ++ cond b ys []) (eq-eqb i i refl)))
      | inr ne ↦ get_or-set_other xs i l (get_or xs i [] ++ ys) [] (λ e. ne (sym e)) ∙ sym (ap (λ b. get_or xs l [] ++ cond b ys []) (ne_eqb i l ne) ∙ append-nil (get_or xs l []))
    ]
