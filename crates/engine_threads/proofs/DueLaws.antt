-- What was picked of a lane, object by object.
use Rattle.std.proofs.Common.{◌≡◌, ℕ, ◌<◌, ◌%◌, ◌==◌, Bool, true, false, if◌then◌else◌, All, List, [], ◌∷◌, ◌++◌, refl, sym, ap, ◌∙◌, subst, append_assoc, arith, ⊎_elim, true≢false}
use Rattle.std.proofs.lemmas.Bool.{cases_eq, eq-eqb, ne_eqb}
use Rattle.std.proofs.lemmas.List.Elements.{All-cons, All-head, All-nil, All-tail, filter-append}
use mathlib.Core.List.{IsPrefix}
use Rattle.due_model.specs.declared.config.Config.{Config}
use Rattle.due_model.specs.declared.item.Item.{Item}
use Rattle.due_model.specs.declared.item.Item.TheVariants as item
use Rattle.due_model.specs.declared.notice.Notice.{Notice}
use Rattle.due_model.specs.Items.{decider_of, notices}
use Rattle.due_model.specs.LaneFits.{of}
use Rattle.decider.specs.declared.share.Share.{Share}
use Rattle.channel_queue.specs.Rule.{IsPickedOf}
use Rattle.decider_thread.specs.Laws.{IsMade}
use Rattle.decider_thread.specs.Puts.{as_items}
use Rattle.delivery_worker.specs.Picked.{AllEnded}
use Rattle.steps.specs.claims.Lanes.{about}
use Rattle.engine_threads.specs.claims.Run.{IsNamed}

abbrev pub share_of : (n d : ℕ) → Share
share_of n d = record { decider = d; deciders = n }

-- ---- items of their object's decider

module _ (c : Config) (n l : ℕ) where
  -- a notice is of its object's decider, among n, and names an object and this lane
  abbrev IsGood : Item → Type 0
  IsGood (item.Notice e m) = ((m.object.0 % n) ≡ e) × IsNamed c l m
  IsGood (item.End e) = Unit {0}

  abbrev AreGood : List Item → Type 0
  AreGood [] = Unit {0}
  AreGood (x ∷ xs) = IsGood x × AreGood xs

  good_items : (d : ℕ) (ms : List Notice) → All (IsMade c (share_of n d) l) ms → AreGood (as_items d ms ++ item.End d ∷ [])
  good_items d [] made = (tt, tt)
  good_items d (m ∷ ms) made =
      let first = All-head (IsMade c (share_of n d) l) m ms made in
      ((first.owner, (first.object, first.lane)), good_items d ms (All-tail (IsMade c (share_of n d) l) m ms made))

  good_front : (xs ys : List Item) → AreGood (xs ++ ys) → AreGood xs
  good_front [] ys good = tt
  good_front (x ∷ xs) ys good = (good.0, good_front xs ys good.1)

  good_first : (b : Bool) (x : Item) (xs : List Item) → b ≡ true → AreGood (if b then x ∷ xs else xs) → IsGood x
  good_first true x xs test good = good.0
  good_first false x xs test good = absurd (true≢false (sym test))

  good_rest : (b : Bool) (x : Item) (xs : List Item) → AreGood (if b then x ∷ xs else xs) → AreGood xs
  good_rest true x xs good = good.1
  good_rest false x xs good = good

  -- where all items of each decider are, all are
  good_all : (xs : List Item) → All (λ x. decider_of x < n) xs → ((d : ℕ) → d < n → AreGood (of decider_of d xs)) → AreGood xs
  good_all [] below good = tt
  good_all (x ∷ xs) below good = (
    good_first (decider_of x == decider_of x) x (of decider_of (decider_of x) xs) (eq-eqb (decider_of x) (decider_of x) refl) (good (decider_of x) (All-head (λ y. decider_of y < n) x xs below)),
    good_all xs (All-tail (λ y. decider_of y < n) x xs below) (λ d lt. good_rest (decider_of x == d) x (of decider_of d xs) (good d lt)),
  )

  good_named : (xs : List Item) → AreGood xs → All (IsNamed c l) (notices xs)
  good_named [] good = All-nil (IsNamed c l)
  good_named (item.Notice e m ∷ xs) good = All-cons (IsNamed c l) m (notices xs) good.0.1 (good_named xs good.1)
  good_named (item.End e ∷ xs) good = good_named xs good.1

  -- ---- the notices of one object are those of its decider

  end_case : (o d e : ℕ) (b : Bool) (xs : List Item) → about o (notices xs) ≡ about o (notices (if b then item.End e ∷ xs else xs))
  end_case o d e true xs = refl
  end_case o d e false xs = refl

  about_own : (o : ℕ) (xs : List Item) → AreGood xs → about o (notices xs) ≡ about o (notices (of decider_of (o % n) xs))
  about_own o [] good = refl
  about_own o (item.End e ∷ xs) good = about_own o xs good.1 ∙ end_case o (o % n) e (e == (o % n)) (of decider_of (o % n) xs)
  about_own o (item.Notice e m ∷ xs) good = ⊎_elim
      (λ (is : e ≡ (o % n)).
      ap (λ (ms : List Notice). if m.object.0 == o then m ∷ ms else ms) (about_own o xs good.1)
      ∙ ap (λ (b : Bool). about o (notices (if b then item.Notice e m ∷ of decider_of (o % n) xs else of decider_of (o % n) xs))) (sym (eq-eqb e (o % n) is)))
      (λ (apart : ¬ (e ≡ (o % n))).
      ap (λ (b : Bool). if b then m ∷ about o (notices xs) else about o (notices xs)) (ne_eqb m.object.0 o (λ (same : m.object.0 ≡ o). apart (sym good.0.0 ∙ ap (λ (k : ℕ). k % n) same)))
      ∙ about_own o xs good.1
      ∙ ap (λ (b : Bool). about o (notices (if b then item.Notice e m ∷ of decider_of (o % n) xs else of decider_of (o % n) xs))) (sym (ne_eqb e (o % n) apart)))
      (cases_eq e (o % n))

  notices_items : (d : ℕ) (ms : List Notice) → notices (as_items d ms ++ item.End d ∷ []) ≡ ms
  notices_items d [] = refl
  notices_items d (m ∷ ms) = ap (λ (ns : List Notice). m ∷ ns) (notices_items d ms)

  notices-append : (xs ys : List Item) → notices (xs ++ ys) ≡ notices xs ++ notices ys
  notices-append [] ys = refl
  notices-append (item.Notice d m ∷ xs) ys = ap (λ (ns : List Notice). m ∷ ns) (notices-append xs ys)
  notices-append (item.End d ∷ xs) ys = notices-append xs ys

  -- ---- one lane

  -- what each of n deciders put for a lane, and what was picked of it
  pub record LaneRead (picked : List Item) (put : ℕ → List Notice) : Type 0 where
    pub read : (d : ℕ) → d < n → IsPickedOf d picked (as_items d (put d) ++ item.End d ∷ [])
    pub numbers : All (λ x. decider_of x < n) picked
    pub made : (d : ℕ) → d < n → All (IsMade c (share_of n d) l) (put d)

  module _ (picked : List Item) (put : ℕ → List Notice) (r : LaneRead picked put) where
    lane_good : AreGood picked
    lane_good = good_all picked r.numbers (λ d lt.
        let front = (r.read d lt).front in good_front (of decider_of d picked) front.0 (subst AreGood (sym front.1) (good_items d (put d) (r.made d lt))))

    pub lane_named : All (IsNamed c l) (notices picked)
    lane_named = good_named picked lane_good

    -- what was picked of an object is a first part of what its decider put
    pub lane_front : (o : ℕ) → (o % n) < n → IsPrefix (about o (notices picked)) (about o (put (o % n)))
    lane_front o lt =
        let d = o % n in
        let front = (r.read d lt).front in
        let whole : notices (of decider_of d picked) ++ notices front.0 ≡ put d = sym (notices-append (of decider_of d picked) front.0) ∙ ap notices front.1 ∙ notices_items d (put d) in (
          about o (notices front.0),
          ap (λ (ns : List Notice). ns ++ about o (notices front.0)) (about_own o picked lane_good) ∙ sym (filter-append (λ (m : Notice). m.object.0 == o) (notices (of decider_of d picked)) (notices front.0)) ∙ ap (about o) whole,
        )

    -- and all of it once all ends were picked
    pub lane_whole : (o : ℕ) → (o % n) < n → AllEnded n picked → about o (notices picked) ≡ about o (put (o % n))
    lane_whole o lt ended =
        let d = o % n in
        about_own o picked lane_good ∙ ap (λ (xs : List Item). about o (notices xs)) ((r.read d lt).all (ended d lt)) ∙ ap (about o) (notices_items d (put d))

pub owner : (n o : ℕ) → 0 < n → (o % n) < n
owner n o some = omega (arith, some)

-- ---- first parts

pub prefix_then : {X : Type 0} (a b c : List X) → IsPrefix a b → IsPrefix b c → IsPrefix a c
prefix_then {X} a b c one two = (one.0 ++ two.0, sym (append_assoc a one.0 two.0) ∙ ap (λ (ns : List X). ns ++ two.0) one.1 ∙ two.1)

pub about_front : (o : ℕ) (a b : List Notice) → IsPrefix a b → IsPrefix (about o a) (about o b)
about_front o a b front = (about o front.0, sym (filter-append (λ (m : Notice). m.object.0 == o) a front.0) ∙ ap (about o) front.1)
