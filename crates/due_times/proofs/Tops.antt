-- The entry on top is the least.
use Rattle.std.proofs.Common.{◌≡◌, ℕ, zero, suc, ◌+◌, ◌-◌, ◌*◌, ◌<◌, ◌≤◌, ◌⊎◌, inl, inr, Bool, true, false, List, [], ◌∷◌, length, Option, Some, None, nat_lt, refl, sym, arith}
use Rattle.std.specs.Prelude.{IfNone, IfSome}
use Rattle.std.proofs.lemmas.Grind.{common_steps}
use Rattle.due_times.specs.claims.Index.{at}
use Rattle.due_times.specs.Index.{NothingIsDue, earlier}
use Rattle.due_times.specs.Levels.{ArePaired, IsAbove, leaves, level}
use Rattle.due_times.proofs.Moments.{halves}
use Rattle.due_times.proofs.Climbing.{entry_within}

-- a moment that is no later
abbrev pub HasNoLater : Option ℕ → (m : ℕ) → Type 0
HasNoLater found m = (n : ℕ) × (found ≡ Some n) × (n ≤ m)

by_test : (t : Bool) (n b : ℕ) → nat_lt b n ≡ t → HasNoLater (earlier (Some n) (Some b)) n
by_test true n b e = (b, grind (arith, common_steps), grind (arith, common_steps))
by_test false n b e = (n, grind (arith, common_steps), omega arith)

-- the earlier of two is no later than the first, if that is a moment
earlier_first : (n : ℕ) (b : Option ℕ) → HasNoLater (earlier (Some n) b) n
earlier_first n None = (n, refl, omega arith)
earlier_first n (Some b) = by_test (nat_lt b n) n b refl

by_test_of_second : (t : Bool) (n a : ℕ) → nat_lt n a ≡ t → HasNoLater (earlier (Some a) (Some n)) n
by_test_of_second true n a e = (n, grind (arith, common_steps), omega arith)
by_test_of_second false n a e = (a, grind (arith, common_steps), grind (arith, common_steps))

-- likewise than the second
earlier_second : (a : Option ℕ) (n : ℕ) → HasNoLater (earlier a (Some n)) n
earlier_second None n = (n, refl, omega arith)
earlier_second (Some a) n = by_test_of_second (nat_lt n a) n a refl

-- an entry has one in the level above that is no later
rise : (below above : List (Option ℕ)) (p n : ℕ) → IsAbove below above → at below p ≡ Some n → (q : ℕ) × HasNoLater (at above q) n
rise below above p n is here = by_half (halves p)
  where
    by_half : (h : ℕ) × ((p ≡ 2 * h) ⊎ (p ≡ 2 * h + 1)) → (q : ℕ) × HasNoLater (at above q) n
    by_half (h, inl e) =
        let first : at below (2 * h) ≡ Some n = rw (← e) here in
        (h, rw (is.pairs h, first) (earlier_first n (at below (2 * h + 1))))
    by_half (h, inr e) =
        let second : at below (2 * h + 1) ≡ Some n = rw (← e) here in
        (h, rw (is.pairs h, second) (earlier_second (at below (2 * h)) n))

-- and so in each level
climb : (levels : List (List (Option ℕ))) (o m k : ℕ) → ArePaired levels → k < length levels → at (leaves levels) o ≡ Some m → (q : ℕ) × HasNoLater (at (level levels k) q) m
climb levels o m zero paired h here = (o, (m, here, omega arith))
climb levels o m (suc k) paired h here = next (climb levels o m k paired (omega (arith, h)) here)
  where
    up : k + 1 ≡ suc k
    up = omega arith

    next : (q : ℕ) × HasNoLater (at (level levels k) q) m → (q : ℕ) × HasNoLater (at (level levels (suc k)) q) m
    next (q, (n, found, less)) = last (rise (level levels k) (level levels (k + 1)) q n (paired.above k (omega (arith, h))) found)
      where
        last : (r : ℕ) × HasNoLater (at (level levels (k + 1)) r) n → (r : ℕ) × HasNoLater (at (level levels (suc k)) r) m
        last (r, (n', found', less')) = (r, (n', rw (← up) found', omega (arith, less, less')))

-- the entry on top is no later than any
pub top_least : (levels : List (List (Option ℕ))) (o m : ℕ) → ArePaired levels → 0 < length levels → at (leaves levels) o ≡ Some m → HasNoLater (at (level levels (length levels - 1)) 0) m
top_least levels o m paired some here = by_place (climb levels o m (length levels - 1) paired (omega (arith, some)) here)
  where
    by_place : (q : ℕ) × HasNoLater (at (level levels (length levels - 1)) q) m → HasNoLater (at (level levels (length levels - 1)) 0) m
    by_place (q, (n, found, less)) =
        let first : q ≡ 0 = omega (arith, entry_within _ q n found, paired.top) in
        (n, rw (← first) found, less)

-- nothing is due before the entry on top, where there is one
pub none_before_top : (levels : List (List (Option ℕ))) (t moment : ℕ) → ArePaired levels → 0 < length levels
    → at (level levels (length levels - 1)) 0 ≡ Some moment → t < moment → NothingIsDue (leaves levels) t
none_before_top levels t moment paired some top later = λ o m here. by_top (top_least levels o m paired some here)
  where
    by_top : {m : ℕ} → HasNoLater (at (level levels (length levels - 1)) 0) m → t < m
    by_top (n, found, less) = let same : n ≡ moment = grind (arith, common_steps) in omega (arith, same, later, less)

-- and nothing is due where there is none
pub none_without_top : (levels : List (List (Option ℕ))) (t : ℕ) → ArePaired levels → 0 < length levels
    → at (level levels (length levels - 1)) 0 ≡ None → NothingIsDue (leaves levels) t
none_without_top levels t paired some top = λ o m here. by_top (top_least levels o m paired some here)
  where
    by_top : {m : ℕ} → HasNoLater (at (level levels (length levels - 1)) 0) m → t < m
    by_top (n, found, less) = grind (arith, common_steps)

-- a place is in a level only where there is one
pub some_level : (levels : List (List (Option ℕ))) (p : ℕ) → p < length (leaves levels) → 0 < length levels
some_level [] p h = absurd (omega (arith, h))
some_level (x ∷ xs) p h = omega arith

-- what the entry on top says of what is due
pub least_by_top : (levels : List (List (Option ℕ))) (found : Option ℕ) → ArePaired levels → 0 < length levels → found ≡ at (level levels (length levels - 1)) 0
    → IfSome found (λ moment. (t : ℕ) → t < moment → NothingIsDue (leaves levels) t)
least_by_top levels None paired some is = tt
least_by_top levels (Some moment) paired some is = λ t later. none_before_top levels t moment paired some (sym is) later

pub none_by_top : (levels : List (List (Option ℕ))) (found : Option ℕ) → ArePaired levels → 0 < length levels → found ≡ at (level levels (length levels - 1)) 0
    → IfNone found ((t : ℕ) → NothingIsDue (leaves levels) t)
none_by_top levels None paired some is = λ t. none_without_top levels t paired some (sym is)
none_by_top levels (Some moment) paired some is = tt
