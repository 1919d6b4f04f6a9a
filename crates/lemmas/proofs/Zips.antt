-- Lists that go together, place by place.
use Rattle.std.proofs.Common.{[], ap, List, map, refl, ◌++◌, ◌∷◌, ◌≡◌}
use Rattle.std.specs.List.{AllZip}

pub zip-more : {X Y : Type 0} (R : X → Y → Type 0) (xs : List X) (ys : List Y) (x : X) (y : Y) → AllZip R xs ys → R x y → AllZip R (xs ++ x ∷ []) (ys ++ y ∷ [])
zip-more R [] [] x y all more = (more, tt)
zip-more R [] (z ∷ ys) x y all more = absurd all
zip-more R (w ∷ xs) [] x y all more = absurd all
zip-more R (w ∷ xs) (z ∷ ys) x y all more = (all.0, zip-more R xs ys x y all.1 more)

pub zip-append : {X Y : Type 0} (R : X → Y → Type 0) (xs zs : List X) (ys ws : List Y) → AllZip R xs ys → AllZip R zs ws → AllZip R (xs ++ zs) (ys ++ ws)
zip-append R [] zs [] ws first second = second
zip-append R [] zs (y ∷ ys) ws first second = absurd first
zip-append R (x ∷ xs) zs [] ws first second = absurd first
zip-append R (x ∷ xs) zs (y ∷ ys) ws first second = (first.0, zip-append R xs zs ys ws first.1 second)

pub zip-map : {X Z W : Type 0} (f : X → W) (R : X → Z → Type 0) (T : W → Z → Type 0) → ((x : X) (z : Z) → R x z → T (f x) z)
    → (xs : List X) (zs : List Z) → AllZip R xs zs → AllZip T (map f xs) zs
zip-map f R T each [] [] all = tt
zip-map f R T each [] (z ∷ zs) all = absurd all
zip-map f R T each (x ∷ xs) [] all = absurd all
zip-map f R T each (x ∷ xs) (z ∷ zs) all = (each x z all.0, zip-map f R T each xs zs all.1)

-- without the last
pub record WithoutLast {X Y : Type 0} (R : X → Y → Type 0) (xs : List X) (ys : List Y) : Type 0 where
  pub first : List Y
  pub last : Y
  pub are : ys ≡ first ++ last ∷ []
  pub all : AllZip R xs first

pub without-last : {X Y : Type 0} (R : X → Y → Type 0) (xs : List X) (x : X) (ys : List Y) → AllZip R (xs ++ x ∷ []) ys → WithoutLast R xs ys
without-last R [] x [] all = absurd all
without-last R [] x (y ∷ []) all = record { first = []; last = y; are = refl; all = tt }
without-last R [] x (y ∷ z ∷ ys) all = absurd all.1
without-last R (w ∷ xs) x [] all = absurd all
without-last R (w ∷ xs) x (y ∷ ys) all =
    let rest = without-last R xs x ys all.1 in
    record {
      first = y ∷ rest.first;
      last = rest.last;
      are = ap (λ zs. y ∷ zs) rest.are;
      all = (all.0, rest.all);
    }
