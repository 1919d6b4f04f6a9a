-- How step lines are split into words.
use Rattle.std.proofs.Common.{◌≡◌, ℕ, suc, ◌+◌, ◌-◌, ◌<◌, ◌≤◌, Bool, true, false, not, eqb, cond, leb, ◌&&◌, List, [], ◌∷◌, ◌++◌, length, take, drop, get_or, Option, Some, None, IfNone, IfSome, add-one, codes, refl, sym, ap, subst, ◌∙◌, arith}
use Rattle.std.specs.Char.{is_ascii_digit}
use Rattle.std.specs.List.{list_all, position_or_len}
use Rattle.std.proofs.lemmas.Bool.{eqb-true, leb-true, not-false, true≢false}
use Rattle.std.proofs.lemmas.List.{append_cancel_left, length-append, take-append-drop, take_rest}
use Rattle.std.proofs.lemmas.List.Sums.{fails_before_first, prefix_len_stops}
use Rattle.std.proofs.Math.Seq.{drop-cons, get_or-append_seam}
use Rattle.due_model.specs.declared.config.Config.{Config}
use Rattle.due_model.specs.declared.config.LaneId.{LaneId}
use Rattle.steps.specs.declared.step.Step.TheVariants.{Post, Decide, Put, Lane}
use Rattle.steps.specs.declared.step.LaneStep.TheVariants.{Pick, Settle, Fail, Ask, Replace, Close, Drain}
use Rattle.trace.specs.declared.step_line.StepLine.{StepLine}
use Rattle.trace.specs.declared.step_line.StepLine.TheVariants.{PostNext, Do}
use Rattle.trace.specs.StepLine.{BeginsWithWord, IsDecider, NamesLane, Spells, SpellsDecide, SpellsLane, SpellsPut}

-- the number that was read
pub number_read : (n most number : ℕ) → Some number ≡ cond (leb n most) (Some n) None → (number ≡ n) × (n ≤ most)
number_read n most number is = by_test (leb n most) refl is
  where
    by_test : (b : Bool) → leb n most ≡ b → Some number ≡ cond b (Some n) None → (number ≡ n) × (n ≤ most)
    by_test true at same = (cc, leb-true n most at)
    by_test false at same = absurd (cc)

pub lane_some : (c : Config) (word line name : List ℕ) (r : Option LaneId) → line ≡ word ++ name → IfSome r (λ lane. NamesLane c lane name) → IfSome r (λ lane. SpellsLane c word lane line)
lane_some c word line name None is names = tt
lane_some c word line name (Some lane) is names = (name, is, names)

pub lane_none : (c : Config) (word line name : List ℕ) (r : Option LaneId) → line ≡ word ++ name → IfNone r ((lane : LaneId) → NamesLane c lane name → ⊥) → IfNone r ((lane : LaneId) → SpellsLane c word lane line → ⊥)
lane_none c word line name (Some lane) is none = tt
lane_none c word line name None is none = λ lane spelled.
    none lane (subst (λ text. NamesLane c lane text) (append_cancel_left word spelled.0 name (sym spelled.1 ∙ is)) spelled.2)

-- a word that has no blank in it ends at the first
one_word : (a b rest more : List ℕ) → list_all (λ byte. not (eqb byte 32)) a ≡ true → list_all (λ byte. not (eqb byte 32)) b ≡ true → a ++ 32 ∷ rest ≡ b ++ 32 ∷ more → (a ≡ b) × (rest ≡ more)
one_word [] [] rest more free free' same = (refl, cc)
one_word [] (y ∷ b) rest more free free' same = let first : y ≡ 32 = cc in absurd (true≢false (sym free' ∙ rw first refl))
one_word (x ∷ a) [] rest more free free' same = let first : x ≡ 32 = cc in absurd (true≢false (sym free ∙ rw first refl))
one_word (x ∷ a) (y ∷ b) rest more free free' same =
    let first : x ≡ y = cc in
    let others = one_word a b rest more (free_others x a free) (free_others y b free') (cc) in (cc, others.1)
  where
    free_others : (z : ℕ) (c : List ℕ) → list_all (λ byte. not (eqb byte 32)) (z ∷ c) ≡ true → list_all (λ byte. not (eqb byte 32)) c ≡ true
    free_others z c all = by_test (not (eqb z 32)) all
      where
        by_test : (b : Bool) → (b && list_all (λ byte. not (eqb byte 32)) c) ≡ true → list_all (λ byte. not (eqb byte 32)) c ≡ true
        by_test true all = all
        by_test false all = absurd (true≢false (sym all))

-- digits are no blanks
free_digits : (digits : List ℕ) → list_all is_ascii_digit digits ≡ true → list_all (λ byte. not (eqb byte 32)) digits ≡ true
free_digits [] all = refl
free_digits (x ∷ digits) all = by_test (is_ascii_digit x) refl all (free_digits digits)
  where
    not_blank : is_ascii_digit x ≡ true → eqb x 32 ≡ false
    not_blank digit = by_blank (eqb x 32) refl
      where
        by_blank : (b : Bool) → eqb x 32 ≡ b → b ≡ false
        by_blank false at = refl
        by_blank true at = let is : x ≡ 32 = eqb-true x 32 at in absurd (true≢false (sym digit ∙ rw is refl))

    by_test : (b : Bool) → is_ascii_digit x ≡ b → (b && list_all is_ascii_digit digits) ≡ true
        → (list_all is_ascii_digit digits ≡ true → list_all (λ byte. not (eqb byte 32)) digits ≡ true) → list_all (λ byte. not (eqb byte 32)) (x ∷ digits) ≡ true
    by_test true digit others free = let no : eqb x 32 ≡ false = not_blank digit in rw no (free others)
    by_test false digit others free = absurd (true≢false (sym others))

-- a line that says a put has two words after it
pub put_parts : (c : Config) (deciders d : ℕ) (lane : LaneId) (line words : List ℕ) → line ≡ 112 ∷ 117 ∷ 116 ∷ 32 ∷ words → (spelled : SpellsPut c deciders d lane line) → BeginsWithWord words spelled.0 spelled.1
put_parts c deciders d lane line words is spelled = record { whole = cc (spelled.2, is); unbroken = free_digits spelled.0 spelled.3.digits }

-- a line that says a put has these words
pub put_words : (c : Config) (deciders d : ℕ) (lane : LaneId) (line words digits name : List ℕ) → line ≡ 112 ∷ 117 ∷ 116 ∷ 32 ∷ words → BeginsWithWord words digits name
    → SpellsPut c deciders d lane line → IsDecider deciders d digits × NamesLane c lane name
put_words c deciders d lane line words digits name is parts spelled =
    let text : spelled.0 ++ 32 ∷ spelled.1 ≡ words = cc (spelled.2, is) in
    let same = one_word spelled.0 digits spelled.1 name (free_digits spelled.0 spelled.3.digits) parts.unbroken (text ∙ parts.whole) in
    (subst (λ text. IsDecider deciders d text) same.0 spelled.3, subst (λ text. NamesLane c lane text) same.1 spelled.4)

-- ---- the first word

-- what stands before the first that passes a test doesn't pass it
free_before : (p : ℕ → Bool) (xs : List ℕ) → list_all (λ x. not (p x)) (take (position_or_len p xs) xs) ≡ true
free_before p [] = refl
free_before p (x ∷ xs) = by_test (p x) refl (free_before p xs)
  where
    by_test : (b : Bool) → p x ≡ b → list_all (λ y. not (p y)) (take (position_or_len p xs) xs) ≡ true → list_all (λ y. not (p y)) (take (position_or_len p (x ∷ xs)) (x ∷ xs)) ≡ true
    by_test true at others = rw at refl
    by_test false at others = let one : 1 + position_or_len p xs ≡ suc (position_or_len p xs) = omega arith in rw (at, one, at) others

pub split_some : (words : List ℕ) (blank : ℕ) → blank ≡ position_or_len (λ b. eqb b 32) words → blank < length words
    → BeginsWithWord words (take blank words) (take (length words - (blank + 1)) (drop (blank + 1) words))
split_some words blank place within = record {
  whole = sym (take-append-drop blank words) ∙ ap (λ (rest : List ℕ). take blank words ++ rest) (drop-cons words blank 0 within ∙ rw (here, take_rest, add-one) refl);
  unbroken = rw place (free_before (λ b. eqb b 32) words);
}
  where
    stops : position_or_len (λ b. eqb b 32) words < length words
    stops = rw (← place) within

    here : get_or words blank 0 ≡ 32
    here = eqb-true _ 32 (rw place (not-false _ (prefix_len_stops (λ b. not (eqb b 32)) words 0 stops)))

pub split_none : (words : List ℕ) → length words ≡ position_or_len (λ b. eqb b 32) words → (word rest : List ℕ) → BeginsWithWord words word rest → ⊥
split_none words none word rest begins =
    let long : length words ≡ length word + length (32 ∷ rest) = ap (λ (ws : List ℕ). length ws) begins.whole ∙ length-append word (32 ∷ rest) in
    let inside : length word < position_or_len (λ b. eqb b 32) words = rw (← none) (rw long (omega arith)) in
    let here : get_or words (length word) 0 ≡ 32 = ap (λ (ws : List ℕ). get_or ws (length word) 0) begins.whole ∙ get_or-append_seam word 32 rest 0 in
    true≢false (sym (ap (λ (byte : ℕ). eqb byte 32) here) ∙ fails_before_first (λ b. eqb b 32) words (length word) 0 inside)

-- ---- all steps

-- a line that says none of these says no step
module _ (c : Config) (deciders : ℕ) (line : List ℕ)
    (post : line ≡ codes "post" → ⊥) (decide : (d : ℕ) → SpellsDecide deciders d line → ⊥) (put : (d : ℕ) (lane : LaneId) → SpellsPut c deciders d lane line → ⊥)
    (pick : (lane : LaneId) → SpellsLane c (codes "pick ") lane line → ⊥) (settle : (lane : LaneId) → SpellsLane c (codes "settle ") lane line → ⊥)
    (fail : (lane : LaneId) → SpellsLane c (codes "fail ") lane line → ⊥) (ask : (lane : LaneId) → SpellsLane c (codes "ask ") lane line → ⊥)
    (replace : (lane : LaneId) → SpellsLane c (codes "replace ") lane line → ⊥) (close : (lane : LaneId) → SpellsLane c (codes "close ") lane line → ⊥)
    (drain : (lane : LaneId) → SpellsLane c (codes "drain ") lane line → ⊥) where
  pub no_step : (said : StepLine) → Spells c deciders said line → ⊥
  no_step PostNext spelled = post spelled
  no_step (Do (Post event)) spelled = spelled
  no_step (Do (Decide d)) spelled = decide d spelled
  no_step (Do (Put d lane)) spelled = put d lane spelled
  no_step (Do (Lane lane Pick)) spelled = pick lane spelled
  no_step (Do (Lane lane Settle)) spelled = settle lane spelled
  no_step (Do (Lane lane Fail)) spelled = fail lane spelled
  no_step (Do (Lane lane Ask)) spelled = ask lane spelled
  no_step (Do (Lane lane Replace)) spelled = replace lane spelled
  no_step (Do (Lane lane Close)) spelled = close lane spelled
  no_step (Do (Lane lane Drain)) spelled = drain lane spelled
