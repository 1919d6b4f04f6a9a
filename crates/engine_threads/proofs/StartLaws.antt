-- Threads that are started, each with a log of its own.
use Rattle.std.proofs.Common.{◌≡◌, ℕ, ◌+◌, ◌<◌, List, [], ◌∷◌, ◌++◌, length, length-append, slice_get, Some, refl, sym, ap, ◌∙◌, subst, arith}
use Rattle.std.proofs.lemmas.List.{nil_from_length}
use Rattle.std.proofs.lemmas.Option.{none-some}
use Rattle.engine_threads.specs.ListLaws.{all_taken, both_longer, next_rest, pairs_grow}

-- of these logs the first were given to the threads of these handles, in order, and these are left
pub record HaveLogs {L H : Type 0} (log_of : H → L) (logs left : List L) (handles : List H) : Type 0 where
  pub taken : List L
  pub rest : taken ++ left ≡ logs
  pub count : length taken ≡ length handles
  pub each : (d : ℕ) (a : L) (h : H) → slice_get taken d ≡ Some a → slice_get handles d ≡ Some h → log_of h ≡ a

module _ {L H : Type 0} (log_of : H → L) (logs : List L) where
  pub no_logs : HaveLogs log_of logs logs []
  no_logs = record { taken = []; rest = refl; count = refl; each = λ d a h at. absurd (none-some a at) }

  pub more_logs : (left next : List L) (handles more : List H) (a : L) (h : H) → left ≡ a ∷ next → more ≡ handles ++ h ∷ [] → log_of h ≡ a
      → HaveLogs log_of logs left handles → HaveLogs log_of logs next more
  more_logs left next handles more a h step grown own have = record {
    taken = have.taken ++ a ∷ [];
    rest = next_rest have.taken a left next logs step have.rest;
    count = length-append have.taken (a ∷ []) ∙ ap (λ n. n + 1) have.count ∙ sym (length-append handles (h ∷ [])) ∙ ap length (sym grown);
    each = rw grown (pairs_grow (λ d b k. log_of k ≡ b) have.taken handles a h (sym have.count) have.each own);
  }

  -- none is lacking while there are fewer handles
  pub some_left : (left : List L) (handles : List H) → length handles < length logs → left ≡ [] → HaveLogs log_of logs left handles → ⊥
  some_left left handles fewer none have =
      let all = ap length (all_taken have.taken left logs none have.rest) in
      let count = have.count in omega (arith, all, count, fewer)

  -- with as many handles as logs each has its own
  pub all_logs : (left : List L) (handles : List H) → length handles ≡ length logs → HaveLogs log_of logs left handles
      → (d : ℕ) (a : L) (h : H) → slice_get logs d ≡ Some a → slice_get handles d ≡ Some h → log_of h ≡ a
  all_logs left handles as_many have d a h at_a at_h =
      let long : length have.taken + length left ≡ length logs = sym (length-append have.taken left) ∙ ap length have.rest in
      let count = have.count in
      let none : left ≡ [] = nil_from_length left (omega (arith, long, count, as_many)) in
      have.each d a h (subst (λ (l : List L). slice_get l d ≡ Some a) (sym (all_taken have.taken left logs none have.rest)) at_a) at_h
