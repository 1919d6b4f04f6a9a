-- The records of a lane's channels, as its end tells them.
use Rattle.std.proofs.Common.{arith, ◌≡◌, ◌≢◌, ℕ, zero, suc, ◌+◌, ◌<◌, Bool, cond, List, [], ◌∷◌, ◌++◌, length, map, slice_get, take, get_or, None, Some, refl, sym, ap, subst, ◌∙◌, append_assoc, length-append, eq-eqb}
use Rattle.std.proofs.lemmas.Bool.{ne_eqb}
use Rattle.std.proofs.lemmas.List.{append-nil, take_more}
use Rattle.std.proofs.lemmas.Option.{slice_get_past}
use Rattle.due_model.specs.declared.notice.Notice.{Notice}
use Rattle.delivery_worker.specs.claims.Picked.{join_lists}
use Rattle.undelivered.specs.Record.{Record}
use Rattle.engine.specs.Lanes.{records_of}

-- what stands at a place of a list stands there in a longer one
front_at : {X : Type 0} (xs ys : List X) (i : ℕ) (x : X) → slice_get xs i ≡ Some x → slice_get (xs ++ ys) i ≡ Some x
front_at [] ys i x at = absurd (cc)
front_at (y ∷ xs) ys zero x at = at
front_at (y ∷ xs) ys (suc i) x at = front_at xs ys i x at

last_at : {X : Type 0} (xs : List X) (x : X) (i : ℕ) → i ≡ length xs → slice_get (xs ++ x ∷ []) i ≡ Some x
last_at {X} xs x i is = subst (λ (k : ℕ). slice_get (xs ++ x ∷ []) k ≡ Some x) (sym is) (at_end xs)
  where
    at_end : (ys : List X) → slice_get (ys ++ x ∷ []) (length ys) ≡ Some x
    at_end [] = refl
    at_end (y ∷ ys) = at_end ys

module _ (channels : ℕ) (held : Record) where
  -- a lane that was given no channel has no record
  pub records_none : channels ≡ 0 → records_of channels held ≡ []
  records_none none = ap (λ (b : Bool). cond b [] (held.ended ++ held.taken ∷ [])) (eq-eqb channels 0 none)

  -- any other has one for each that served
  pub records_some : channels ≢ 0 → records_of channels held ≡ held.ended ++ held.taken ∷ []
  records_some some = ap (λ (b : Bool). cond b [] (held.ended ++ held.taken ∷ [])) (ne_eqb channels 0 some)

  pub count_none : channels ≡ 0 → 0 ≡ length (records_of channels held)
  count_none none = sym (ap length (records_none none))

  pub count_some : channels ≢ 0 → (n : ℕ) → n ≡ length held.ended → n + 1 ≡ length (records_of channels held)
  count_some some n is = ap (λ (k : ℕ). k + 1) is ∙ sym (ap length (records_some some) ∙ length-append held.ended (held.taken ∷ []))

  pub record_of_none : channels ≡ 0 → (i : ℕ) → None ≡ slice_get (records_of channels held) i
  record_of_none none i = sym (ap (λ (rs : List (List Notice)). slice_get rs i) (records_none none))

  module _ (some : channels ≢ 0) (i : ℕ) where
    at_place : (found : _) → slice_get (held.ended ++ held.taken ∷ []) i ≡ found → found ≡ slice_get (records_of channels held) i
    at_place found at = sym (ap (λ (rs : List (List Notice)). slice_get rs i) (records_some some) ∙ at)

    pub record_ended : (taken : List Notice) → slice_get held.ended i ≡ Some taken → Some taken ≡ slice_get (records_of channels held) i
    record_ended taken at = at_place (Some taken) (front_at held.ended (held.taken ∷ []) i taken at)

    pub record_last : i ≡ length held.ended → Some held.taken ≡ slice_get (records_of channels held) i
    record_last is = at_place (Some held.taken) (last_at held.ended held.taken i is)

    pub record_past : length held.ended < i → None ≡ slice_get (records_of channels held) i
    record_past past = at_place None (slice_get_past (held.ended ++ held.taken ∷ []) i (let long = length-append held.ended (held.taken ∷ []) in omega (arith, long, past)))

-- ---- records as one list

pub join_push : (records : List (List Notice)) (last : List Notice) → join_lists (records ++ last ∷ []) ≡ join_lists records ++ last
join_push [] last = append-nil last
join_push (first ∷ records) last = ap (λ (ns : List Notice). first ++ ns) (join_push records last) ∙ sym (append_assoc first (join_lists records) last)

-- one record more
pub join_more : (records : List (List Notice)) (i : ℕ) → i < length records → join_lists (take (i + 1) records) ≡ join_lists (take i records) ++ get_or records i []
join_more records i within = ap join_lists (take_more records i [] within) ∙ join_push (take i records) (get_or records i [])
