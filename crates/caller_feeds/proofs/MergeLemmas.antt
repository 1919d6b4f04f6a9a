-- A list that is made of others, one item more.
use Rattle.std.proofs.Common.{◌≡◌, ℕ, ◌+◌, ◌<◌, ◌==◌, Bool, true, false, if◌then◌else◌, List, [], ◌∷◌, ◌++◌, length, get_or, set, refl, sym, ap, ◌∙◌, append-nil, arith, ⊎_elim}
use Rattle.std.proofs.lemmas.Bool.{cases_eq, eq-eqb, ne_eqb}
use Rattle.std.proofs.lemmas.List.{get_or-set_other, get_or-set_same, get_or_append_left, get_or_at, length-append, length-set}
use Rattle.caller_feeds.specs.Merge.{Merge, given}

module _ {X : Type 0} where
  if_then : (b : Bool) (x : X) (xs ys zs : List X) → zs ≡ xs ++ ys → (if b then x ∷ zs else zs) ≡ (if b then x ∷ xs else xs) ++ ys
  if_then true x xs ys zs e = ap (λ (r : List X). x ∷ r) e
  if_then false x xs ys zs e = e

  given_more : (j : ℕ) (owners : List ℕ) (xs : List X) (a : ℕ) (x : X) → length owners ≡ length xs
      → given j (owners ++ a ∷ []) (xs ++ x ∷ []) ≡ given j owners xs ++ (if a == j then x ∷ [] else [])
  given_more j [] [] a x same = refl
  given_more j [] (y ∷ ys) a x same = absurd (omega (arith, same))
  given_more j (b ∷ owners) [] a x same = absurd (omega (arith, same))
  given_more j (b ∷ owners) (y ∷ ys) a x same = if_then (b == j) y (given j owners ys) _ _ (given_more j owners ys a x (omega (arith, same)))

  -- no items are a merge of empty lists
  pub merge-none : (lists : List (List X)) → ((i : ℕ) → i < length lists → get_or lists i [] ≡ []) → Merge [] lists
  merge-none lists empty = record {
    owners = [];
    same = refl;
    within = λ i lt. absurd (omega (arith, lt));
    each = λ j within. sym (empty j within);
  }

  -- one item more, at the end of one list
  pub merge-more : (whole : List X) (lists : List (List X)) (i : ℕ) (x : X) → i < length lists → Merge whole lists
      → Merge (whole ++ x ∷ []) (set lists i (get_or lists i [] ++ x ∷ []))
  merge-more whole lists i x within m =
      let long = length-set lists i (get_or lists i [] ++ x ∷ []) in record {
        owners = m.owners ++ i ∷ [];
        same = length-append m.owners (i ∷ []) ∙ ap (λ n. n + 1) m.same ∙ sym (length-append whole (x ∷ []));
        within = λ k lt. ⊎_elim
            (λ (is : k ≡ length m.owners). let e = get_or_at m.owners i [] 0 k (sym is) in omega (arith, e, long, within))
            (λ (apart : ¬ (k ≡ length m.owners)).
            let all = length-append m.owners (i ∷ []) in
            let inside : k < length m.owners = omega (arith, lt, apart, all) in
            let e = get_or_append_left m.owners (i ∷ []) 0 k inside in
            let w = m.within k inside in omega (arith, e, w, long))
            (cases_eq k (length m.owners));
        each = λ j lt. given_more j m.owners whole i x m.same ∙ ⊎_elim
            (λ (is : j ≡ i).
            ap (λ (b : Bool). given j m.owners whole ++ (if b then x ∷ [] else [])) (eq-eqb i j (sym is))
            ∙ ap (λ (r : List X). r ++ x ∷ []) (m.each j (omega (arith, lt, long)))
            ∙ ap (λ k. get_or lists k [] ++ x ∷ []) is
            ∙ sym (get_or-set_same lists i (get_or lists i [] ++ x ∷ []) [] within)
            ∙ ap (λ k. get_or (set lists i (get_or lists i [] ++ x ∷ [])) k []) (sym is))
            (λ (apart : ¬ (j ≡ i)).
            ap (λ (b : Bool). given j m.owners whole ++ (if b then x ∷ [] else [])) (ne_eqb i j (λ e. apart (sym e)))
            ∙ append-nil (given j m.owners whole)
            ∙ m.each j (omega (arith, lt, long))
            ∙ sym (get_or-set_other lists i j (get_or lists i [] ++ x ∷ []) [] apart))
            (cases_eq j i);
      }
