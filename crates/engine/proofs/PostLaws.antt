-- The channels of the posts.
use Rattle.std.proofs.Common.{◌≡◌, ◌≢◌, ⊎_elim, ◌+◌, ◌≤◌, length-append, ℕ, suc, ◌<◌, Bool, cond, ◌==◌, List, [], ◌∷◌, ◌++◌, filter, length, map, slice_get, Some, refl, sym, ap, subst, ◌∙◌, arith, append_assoc, eq-eqb, set}
use Rattle.std.proofs.lemmas.Bool.{cases_eq, ne_eqb}
use Rattle.std.proofs.lemmas.List.{append-nil, length-map, map-append}
use Rattle.std.proofs.lemmas.List.Elements.{filter-append}
use Rattle.std.proofs.lemmas.List.Sums.{count_by-le-length, length-filter}
use Rattle.std.proofs.lemmas.Option.{same_Some, slice_get_within}
use Rattle.engine_threads.specs.ListLaws.{set_other, set_same}
use Rattle.engine.specs.claims.Lanes.{channels_on, count_of}

module _ {P X : Type 0} (lane : P → ℕ) (channel : P → X) (l : ℕ) where
  -- the channels of some posts, and then of others
  pub channels_more : (posts more : List P) → channels_on lane channel l (posts ++ more) ≡ channels_on lane channel l posts ++ channels_on lane channel l more
  channels_more posts more =
      ap (map channel) (filter-append (λ post. lane post == l) posts more)
      ∙ map-append channel (filter (λ post. lane post == l) posts) (filter (λ post. lane post == l) more)

  -- there are as many as posts
  pub channels_count : (posts : List P) → length (channels_on lane channel l posts) ≡ count_of lane posts l
  channels_count posts = length-map (filter (λ post. lane post == l) posts) channel

  -- of one post
  pub channels_here : (post : P) → lane post ≡ l → channels_on lane channel l (post ∷ []) ≡ channel post ∷ []
  channels_here post is = ap (λ (b : Bool). map channel (cond b (post ∷ []) [])) (eq-eqb (lane post) l is)

  pub channels_elsewhere : (post : P) → lane post ≢ l → channels_on lane channel l (post ∷ []) ≡ []
  channels_elsewhere post apart = ap (λ (b : Bool). map channel (cond b (post ∷ []) [])) (ne_eqb (lane post) l apart)

module _ {P X V : Type 0} (lane : P → ℕ) (channel : P → X) (items : V → List X) (old : List V) (post : P) where
  -- a post behind those of its lane
  pub placed_here : (place : ℕ) (w v : V) → place ≡ lane post → slice_get old place ≡ Some w → items v ≡ items w ++ channel post ∷ []
      → (l : ℕ) (a b : V) → slice_get old l ≡ Some a → slice_get (set old place v) l ≡ Some b → items b ≡ items a ++ channels_on lane channel l (post ∷ [])
  placed_here place w v its at grown l a b at_a at_b = ⊎_elim
      (λ (is : l ≡ place).
      let same_old : w ≡ a = same_Some w a (sym at ∙ subst (λ (k : ℕ). slice_get old k ≡ Some a) is at_a) in
      let same_new : v ≡ b = same_Some v b (sym (set_same old place v (slice_get_within old place w at)) ∙ subst (λ (k : ℕ). slice_get (set old place v) k ≡ Some b) is at_b) in
      ap items (sym same_new) ∙ grown ∙ ap (λ (x : V). items x ++ channel post ∷ []) same_old
      ∙ ap (λ (xs : List X). items a ++ xs) (sym (channels_here lane channel l post (sym (is ∙ its)))))
      (λ (apart : l ≢ place).
      let same : a ≡ b = same_Some a b (sym at_a ∙ sym (set_other old place l v apart) ∙ at_b) in
      ap items (sym same) ∙ sym (append-nil (items a)) ∙ ap (λ (xs : List X). items a ++ xs) (sym (channels_elsewhere lane channel l post (λ is. apart (sym is ∙ sym its)))))
      (cases_eq l place)

  -- one of a lane that isn't there
  pub placed_nowhere : length old ≤ lane post → (l : ℕ) (a b : V) → slice_get old l ≡ Some a → slice_get old l ≡ Some b → items b ≡ items a ++ channels_on lane channel l (post ∷ [])
  placed_nowhere past l a b at_a at_b =
      let inside = slice_get_within old l a at_a in
      let same : a ≡ b = same_Some a b (sym at_a ∙ at_b) in
      ap items (sym same) ∙ sym (append-nil (items a)) ∙ ap (λ (xs : List X). items a ++ xs) (sym (channels_elsewhere lane channel l post (λ is. absurd (omega (arith, inside, past, is)))))

-- a lane has no more posts than there are
pub count_most : {P : Type 0} (lane : P → ℕ) (l : ℕ) (posts : List P) → count_of lane posts l ≤ length posts
count_most lane l posts =
    let same = length-filter (λ post. lane post == l) posts in
    let most = count_by-le-length (λ post. lane post == l) posts in
    omega (arith, same, most)

-- ---- what is taken one by one

-- so many are left of these
pub record AreTakenFrom {X : Type 0} (all yielded rest : List X) (left : ℕ) : Type 0 where
  pub parted : all ≡ yielded ++ rest
  pub long : left ≡ length rest

pub taken_none : {X : Type 0} (all rest : List X) (left : ℕ) → rest ≡ all → left ≡ length rest → AreTakenFrom all [] rest left
taken_none all rest left same long = record { parted = sym same; long = long }

pub taken_more : {X : Type 0} (all yielded rest rest' : List X) (left left' : ℕ) (x : X) → AreTakenFrom all yielded rest left → rest ≡ x ∷ rest' → left' + 1 ≡ left → AreTakenFrom all (yielded ++ x ∷ []) rest' left'
taken_more {X} all yielded rest rest' left left' x h next less = record {
  parted = h.parted ∙ ap (λ (xs : List X). yielded ++ xs) next ∙ sym (append_assoc yielded (x ∷ []) rest');
  long = omega (arith, h.long, less, ap length next);
}

pub none_left : {X : Type 0} (xs : List X) (n : ℕ) → n ≡ length xs → n ≡ 0 → xs ≡ []
none_left [] n e none = refl
none_left (x ∷ xs) n e none = absurd (omega (arith, e, none))

pub taken_all : {X : Type 0} (all yielded rest : List X) (left : ℕ) → AreTakenFrom all yielded rest left → left ≡ 0 → yielded ≡ all
taken_all {X} all yielded rest left h none =
    sym (h.parted ∙ ap (λ (xs : List X). yielded ++ xs) (none_left rest left h.long none) ∙ append-nil yielded)

-- there is room for what comes next
pub room_for : {X : Type 0} (yielded rest more all : List X) (x : X) (n room : ℕ) → n ≡ length yielded → yielded ++ rest ≡ all → rest ≡ x ∷ more → length all ≤ room → n < room
room_for {X} yielded rest more all x n room so is next fits =
    let long : length yielded + length rest ≡ length all = sym (length-append yielded rest) ∙ ap length is in
    let one : length rest ≡ length (x ∷ more) = ap length next in
    omega (arith, so, long, one, fits)
