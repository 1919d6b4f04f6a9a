-- Parts of a buffer, and the first newline in one.
use Rattle.std.proofs.Common.{◌≡◌, ℕ, ◌+◌, ◌-◌, ◌<◌, ◌≤◌, not, List, ◌++◌, length, take, drop, get_or, refl, sym, ap, subst, false, ◌∙◌, arith}
use Rattle.std.specs.Prelude.{slice_range}
use Rattle.std.specs.List.{position_or_len}
use Rattle.std.proofs.lemmas.Bool.{not-false, eqb-true}
use Rattle.std.specs.List.{copy_within}
use Rattle.std.proofs.lemmas.List.Edits.{take-paste}
use Rattle.std.proofs.lemmas.List.{drop-take, drop-drop, length-take, length-drop, get_or-take, get_or-drop}
use Rattle.std.proofs.lemmas.List.Sums.{fails_before_first, prefix_len_stops}
use Rattle.std.proofs.lemmas.List.Elements.{All-append}
use Rattle.std.proofs.lemmas.List.{append-nil}
use Rattle.std.proofs.Math.Seq.{drop-length, take-length, take-add}
use Rattle.text_lines.specs.claims.Lines.{is_newline}
use Rattle.text_lines.specs.Lines.{IsUnbroken}

-- a part without its front is a part
pub range-drop : (xs : List ℕ) (start place end : ℕ) → start + place ≤ end → slice_range xs (start + place) end ≡ drop place (slice_range xs start end)
range-drop xs start place end within =
    let long : end - start ≡ place + (end - (start + place)) = omega arith in
    rw (long, drop-take, drop-drop) refl

pub length-range : (xs : List ℕ) (start end : ℕ) → start ≤ end → end ≤ length xs → length (slice_range xs start end) ≡ end - start
length-range xs start end ordered within = rw (length-take, length-drop) (omega arith)

pub unbroken-before : (bytes : List ℕ) (place : ℕ) → place ≡ position_or_len is_newline bytes → IsUnbroken (take place bytes)
unbroken-before bytes place at = λ k d within.
    let before : k < place = let long : length (take place bytes) ≤ place = omega (arith, length-take place bytes) in omega arith in
    rw (get_or-take place bytes k d before) (fails_before_first is_newline bytes k d (rw (← at) before))

pub newline-at : (bytes : List ℕ) (place : ℕ) → place ≡ position_or_len is_newline bytes → place < length bytes → get_or bytes place 0 ≡ 10
newline-at bytes place at within =
    let stops : position_or_len is_newline bytes < length bytes = rw (← at) within in
    eqb-true _ 10 (rw at (not-false _ (prefix_len_stops (λ byte. not (is_newline byte)) bytes 0 stops)))

-- a part that was copied to the front
pub copied : (xs : List ℕ) (start end : ℕ) → start ≤ end → end ≤ length xs → take (end - start) (copy_within xs start end 0) ≡ slice_range xs start end
copied xs start end ordered within =
    let same : end - start ≡ 0 + (end - start) = omega arith in
    ap (λ (k : ℕ). take k (copy_within xs start end 0)) same
    ∙ take-paste xs 0 (drop start xs) (end - start) (omega arith) (rw length-drop (omega arith))

-- what a vector holds after all of it was written through a slice
pub written : (items new : List ℕ) (len : ℕ) → length new ≡ length items → len ≡ length items → take len (new ++ drop (length new) items) ≡ new
written items new len same long = rw (same, drop-length, append-nil, long, ← same) (take-length new)

-- what is held after a read of so many bytes after it
pub range-filled : (new : List ℕ) (held count : ℕ) → slice_range new 0 (held + count) ≡ take held new ++ take count (drop held new)
range-filled new held count = let all : held + count - 0 ≡ held + count = omega arith in rw all (take-add held count new)

-- no newline comes before the first one that is found from a place on, before which there is none
pub unbroken-from : (bytes : List ℕ) (from place : ℕ) → IsUnbroken (take from bytes) → place ≡ position_or_len is_newline (drop from bytes) → IsUnbroken (take (from + place) bytes)
unbroken-from bytes from place before at =
    subst IsUnbroken (sym (take-add from place bytes))
    (All-append (λ byte. is_newline byte ≡ false) (take from bytes) (take place (drop from bytes)) before (unbroken-before (drop from bytes) place at))

pub newline-from : (bytes : List ℕ) (from place : ℕ) → place ≡ position_or_len is_newline (drop from bytes) → from + place < length bytes → get_or bytes (from + place) 0 ≡ 10
newline-from bytes from place at within =
    rw get_or-drop at (newline-at (drop from bytes) place at (rw length-drop (omega arith)))
