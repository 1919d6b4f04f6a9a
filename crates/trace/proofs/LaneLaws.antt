-- Lines that are written one after another, in order of a number.
use Rattle.std.proofs.Common.{◌≡◌, ℕ, ◌+◌, ◌-◌, ◌<◌, zero, suc, List, ◌++◌, flat_map, Option, sym, ap, subst, ◌∙◌, append_assoc, arith}
use Rattle.std.specs.List.{range_with_len}
use Rattle.lemmas.proofs.Numbers.{flat_range_more}
use Rattle.due_model.specs.declared.config.Config.{Config}
use Rattle.due_model.specs.declared.notice.Notice.{Notice}
use Rattle.command_output.specs.claims.TraceLine.{held_line}
use Rattle.written.specs.claims.Written.{Leaves, WritesFront}
use Rattle.written.specs.WrittenLaws.{front_begun, front_on, leaves_on}

-- a line whose parts are the same
pub same_line : (c c' : Config) (l o : ℕ) {taken taken' hand hand' undelivered undelivered' queue queue' outbox outbox' : List Notice} → c ≡ c' → taken ≡ taken' → hand ≡ hand' → undelivered ≡ undelivered'
    → queue ≡ queue' → outbox ≡ outbox' → held_line c l o taken hand undelivered queue outbox ≡ held_line c' l o taken' hand' undelivered' queue' outbox'
same_line c c' l o {taken} {taken'} {hand} {hand'} {undelivered} {undelivered'} {queue} {queue'} {outbox} {outbox'} same t h u q b =
    ap (λ (x : Config). held_line x l o taken hand undelivered queue outbox) same
    ∙ ap (λ (xs : List Notice). held_line c' l o xs hand undelivered queue outbox) t
    ∙ ap (λ (xs : List Notice). held_line c' l o taken' xs undelivered queue outbox) h
    ∙ ap (λ (xs : List Notice). held_line c' l o taken' hand' xs queue outbox) u
    ∙ ap (λ (xs : List Notice). held_line c' l o taken' hand' undelivered' xs outbox) q
    ∙ ap (λ (xs : List Notice). held_line c' l o taken' hand' undelivered' queue' xs) b

-- lines in order of a number: one number more
pub lines_more : (f : ℕ → List ℕ) (n : ℕ) (old mid new : Option (List ℕ)) (first held held' : List ℕ) → Leaves old mid (first ++ flat_map f (range_with_len 0 n)) held
    → Leaves mid new (held ++ f n) held' → Leaves old new (first ++ flat_map f (range_with_len 0 (n + 1))) held'
lines_more f n old mid new first held held' h k =
    subst (λ all. Leaves old new all held')
    (append_assoc first (flat_map f (range_with_len 0 n)) (f n) ∙ ap (λ text. first ++ text) (sym (flat_range_more f n)))
    (leaves_on old mid new (first ++ flat_map f (range_with_len 0 n)) held (f n) held' h k)

-- a front of the first lines is one of more
front_lines : (f : ℕ → List ℕ) (n k : ℕ) (old new : Option (List ℕ)) (first : List ℕ) → WritesFront old new (first ++ flat_map f (range_with_len 0 n))
    → WritesFront old new (first ++ flat_map f (range_with_len 0 (n + k)))
front_lines f n zero old new first h = subst (λ m. WritesFront old new (first ++ flat_map f (range_with_len 0 m))) (omega arith) h
front_lines f n (suc k) old new first h =
    subst (λ m. WritesFront old new (first ++ flat_map f (range_with_len 0 m))) (omega arith)
    (subst (λ text. WritesFront old new (first ++ text)) (sym (flat_range_more f (n + k)))
    (front_begun old new first (flat_map f (range_with_len 0 (n + k))) (f (n + k)) (front_lines f n k old new first h)))

-- of the next line a front was written
pub lines_front : (f : ℕ → List ℕ) (n all : ℕ) (old mid new : Option (List ℕ)) (first held : List ℕ) → n < all → Leaves old mid (first ++ flat_map f (range_with_len 0 n)) held
    → WritesFront mid new (held ++ f n) → WritesFront old new (first ++ flat_map f (range_with_len 0 all))
lines_front f n all old mid new first held within h k =
    subst (λ m. WritesFront old new (first ++ flat_map f (range_with_len 0 m))) (omega (arith, within))
    (front_lines f (n + 1) (all - (n + 1)) old new first
    (subst (λ text. WritesFront old new text) (append_assoc first (flat_map f (range_with_len 0 n)) (f n) ∙ ap (λ text. first ++ text) (sym (flat_range_more f n)))
    (front_on old mid new (first ++ flat_map f (range_with_len 0 n)) held (f n) h k)))
