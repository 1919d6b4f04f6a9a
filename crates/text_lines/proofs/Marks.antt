-- The search for the mark that ends a text.
use Rattle.std.proofs.Common.{◌≡◌, ℕ, suc, ◌+◌, ◌-◌, ◌<◌, ◌≤◌, true, false, cond, List, [], ◌∷◌, ◌++◌, length, take, drop, get_or, Option, None, Some, IfSome, refl, sym, ap, subst, ◌∙◌, arith, add-one, append_assoc, length-append, length-drop, length-take, drop-cons}
use Rattle.std.specs.List.{onto_first, join_with_byte, position_or_len}
use Rattle.std.specs.Str.{bytes_eq}
use Rattle.std.specs.Io.KnownBytes.{Consumes, IsAtEnd, Keeps, prepend_known}
use Rattle.std.proofs.Math.Seq.{take-length, drop-append_seam, take-add}
use Rattle.std.proofs.lemmas.Bool.{false_from_ne_true, true≢false}
use Rattle.std.proofs.lemmas.List.{append-nil, drop-drop, take-append-drop, take-append-le}
use Rattle.std.proofs.lemmas.List.Elements.{All-append, All-head, All-tail, All-nil}
use Rattle.std.proofs.lemmas.List.Splits.{join_with_byte-slice_split, slice_split_at, slice_split_none, slice_split-cons_no}
use Rattle.std.proofs.lemmas.Slice.Eq.{bytes_eq-Decides}
use Rattle.text_lines.specs.claims.Lines.{Known, is_newline, pieces}
use Rattle.text_lines.specs.Lines.{IsUnbroken}
use Rattle.text_lines.specs.LineReader.{Reading, Fills, to_come}
use Rattle.text_lines.specs.declared.line_reader.Filled.TheVariants.{More, Empty}
use Rattle.text_lines.specs.declared.text.Parting.{Parting}
use Rattle.text_lines.specs.declared.text.Search.{Search}
use Rattle.text_lines.specs.Text.{FindsMark, IsParting, IsSearched, MovesHeld, is_mark, rest_after, split_lines, split_text, text_before, text_limit, with_front}
use Rattle.lemmas.proofs.Lists.{HasFirst, slice_split-first}
use Rattle.text_lines.proofs.Ranges.{unbroken-before}

-- ---- one line

split_at_mark : (mark : Option (List ℕ)) (line rest : List ℕ) (parts : List (List ℕ)) → HasFirst parts → parts ≡ pieces rest → is_mark mark line ≡ true
    → split_lines mark (line ∷ parts) ≡ ([], rest)
split_at_mark mark line rest parts has are is =
    ap (λ ps. split_lines mark (line ∷ ps)) has.are
    ∙ ap (λ b. cond {A = List ℕ × List ℕ} b ([], join_with_byte 10 (has.first ∷ has.others))
    (line ++ 10 ∷ (split_lines mark (has.first ∷ has.others)).0, (split_lines mark (has.first ∷ has.others)).1)) is
    ∙ ap (λ ps. ([], join_with_byte 10 ps)) (sym has.are ∙ are) ∙ ap (λ (xs : List ℕ). ([], xs)) (join_with_byte-slice_split 10 rest)

split_at_line : (mark : Option (List ℕ)) (line : List ℕ) (parts : List (List ℕ)) → HasFirst parts → is_mark mark line ≡ false
    → split_lines mark (line ∷ parts) ≡ (line ++ 10 ∷ (split_lines mark parts).0, (split_lines mark parts).1)
split_at_line mark line parts has differs =
    ap (λ ps. split_lines mark (line ∷ ps)) has.are
    ∙ ap (λ b. cond {A = List ℕ × List ℕ} b ([], join_with_byte 10 (has.first ∷ has.others))
    (line ++ 10 ∷ (split_lines mark (has.first ∷ has.others)).0, (split_lines mark (has.first ∷ has.others)).1)) differs
    ∙ ap (λ ps. (line ++ 10 ∷ (split_lines mark ps).0, (split_lines mark ps).1)) (sym has.are)

line_first : (line rest : List ℕ) → IsUnbroken line → pieces (line ++ 10 ∷ rest) ≡ line ∷ pieces rest
line_first line rest unbroken = slice_split_at is_newline line 10 rest unbroken refl

mark_first : (mark : Option (List ℕ)) (line rest : List ℕ) → IsUnbroken line → is_mark mark line ≡ true → split_text mark (line ++ 10 ∷ rest) ≡ ([], rest)
mark_first None line rest unbroken is = absurd (true≢false (sym is))
mark_first (Some mark) line rest unbroken is =
    ap (split_lines (Some mark)) (line_first line rest unbroken) ∙ split_at_mark (Some mark) line rest (pieces rest) (slice_split-first is_newline rest) refl is

other_first : (mark : Option (List ℕ)) (line rest : List ℕ) → IsUnbroken line → is_mark mark line ≡ false
    → split_text mark (line ++ 10 ∷ rest) ≡ (line ++ 10 ∷ (split_text mark rest).0, (split_text mark rest).1)
other_first None line rest unbroken differs = refl
other_first (Some mark) line rest unbroken differs =
    ap (split_lines (Some mark)) (line_first line rest unbroken) ∙ split_at_line (Some mark) line (pieces rest) (slice_split-first is_newline rest) differs

last_piece : (mark : Option (List ℕ)) (line : List ℕ) → IsUnbroken line → split_text mark line ≡ cond (is_mark mark line) ([], []) (line, [])
last_piece None line unbroken = refl
last_piece (Some mark) line unbroken = ap (split_lines (Some mark)) (slice_split_none is_newline line unbroken)

-- ---- a newline in the bytes

abbrev pub begun_line : List ℕ → (start at : ℕ) → List ℕ
begun_line bytes start at = take (at - start) (drop start bytes)

line_at : (bytes : List ℕ) (start at : ℕ) → start ≤ at → at < length bytes → get_or bytes at 0 ≡ 10 → drop start bytes ≡ begun_line bytes start at ++ 10 ∷ drop (at + 1) bytes
line_at bytes start at order within newline =
    let there : start + (at - start) ≡ at = omega arith in
    sym (take-append-drop (at - start) (drop start bytes))
    ∙ ap (λ xs. begun_line bytes start at ++ xs)
    (drop-drop (at - start) start bytes ∙ ap (λ k. drop k bytes) there ∙ drop-cons bytes at 0 within ∙ ap (λ b. b ∷ drop (suc at) bytes) newline ∙ ap (λ k. 10 ∷ drop k bytes) (sym (add-one at)))

before_line : (bytes : List ℕ) (start at : ℕ) → start ≤ at → at ≤ length bytes → take at bytes ≡ take start bytes ++ begun_line bytes start at
before_line bytes start at order within =
    let there : start + (at - start) ≡ at = omega arith in
    ap (λ k. take k bytes) (sym there) ∙ take-add start (at - start) bytes

through_line : (bytes : List ℕ) (start at : ℕ) → start ≤ at → at < length bytes → get_or bytes at 0 ≡ 10 → take (at + 1) bytes ≡ take start bytes ++ (begun_line bytes start at ++ 10 ∷ [])
through_line bytes start at order within newline =
    take-add at 1 bytes
    ∙ ap (λ xs. take at bytes ++ take 1 xs) (drop-cons bytes at 0 within)
    ∙ ap (λ b. take at bytes ++ b ∷ []) newline ∙ ap (λ xs. xs ++ 10 ∷ []) (before_line bytes start at order (omega arith))
    ∙ append_assoc (take start bytes) (begun_line bytes start at) (10 ∷ [])

-- the bytes up to the next newline, or to the end, belong to the line under way
pub searched_on : (mark : Option (List ℕ)) (bytes : List ℕ) (start at place : ℕ) → IsSearched mark bytes (record { line_start = start; at = at })
    → place ≡ position_or_len is_newline (drop at bytes) → at + place ≤ length bytes → IsSearched mark bytes (record { line_start = start; at = at + place })
searched_on mark bytes start at place s is within =
    let order : start ≤ at = s.order in
    record {
      order = omega arith;
      within = within;
      lines = s.lines;
      begun =
          let long : at + place - start ≡ (at - start) + place = omega arith in
          let there : start + (at - start) ≡ at = omega arith in
          subst IsUnbroken (sym (ap (λ k. take k (drop start bytes)) long ∙ take-add (at - start) place (drop start bytes)
          ∙ ap (λ xs. begun_line bytes start at ++ take place xs) (drop-drop (at - start) start bytes ∙ ap (λ k. drop k bytes) there)))
          (All-append (λ byte. is_newline byte ≡ false) (begun_line bytes start at) (take place (drop at bytes)) s.begun (unbroken-before (drop at bytes) place is));
    }

-- the line is the mark
pub found_mark : (mark : Option (List ℕ)) (bytes : List ℕ) (start at : ℕ) → IsSearched mark bytes (record { line_start = start; at = at }) → at < length bytes
    → get_or bytes at 0 ≡ 10 → is_mark mark (begun_line bytes start at) ≡ true → IsParting mark bytes (record { text_end = start; rest_start = at + 1 })
found_mark mark bytes start at s within newline is = record {
  text = omega (arith, s.order);
  rest = omega arith;
  parts = λ more.
      s.lines more
      ∙ ap (λ xs. with_front (take start bytes) (split_text mark xs)) (ap (λ xs. xs ++ more) (line_at bytes start at s.order within newline) ∙ append_assoc (begun_line bytes start at) (10 ∷ drop (at + 1) bytes) more)
      ∙ ap (with_front (take start bytes)) (mark_first mark (begun_line bytes start at) (drop (at + 1) bytes ++ more) s.begun is)
      ∙ ap (λ xs. (xs, drop (at + 1) bytes ++ more)) (append-nil (take start bytes));
}

-- it isn't, and the next line begins
pub skipped_line : (mark : Option (List ℕ)) (bytes : List ℕ) (start at : ℕ) → IsSearched mark bytes (record { line_start = start; at = at }) → at < length bytes
    → get_or bytes at 0 ≡ 10 → is_mark mark (begun_line bytes start at) ≡ false → IsSearched mark bytes (record { line_start = at + 1; at = at + 1 })
skipped_line mark bytes start at s within newline differs = record {
  order = omega arith;
  within = omega arith;
  lines = λ more.
      let rest = drop (at + 1) bytes ++ more in
      let line = begun_line bytes start at in
      s.lines more
      ∙ ap (λ xs. with_front (take start bytes) (split_text mark xs)) (ap (λ xs. xs ++ more) (line_at bytes start at s.order within newline) ∙ append_assoc line (10 ∷ drop (at + 1) bytes) more)
      ∙ ap (with_front (take start bytes)) (other_first mark line rest s.begun differs)
      ∙ ap (λ xs. (take start bytes ++ xs, (split_text mark rest).1)) (sym (append_assoc line (10 ∷ []) (split_text mark rest).0))
      ∙ ap (λ xs. (xs, (split_text mark rest).1)) (sym (append_assoc (take start bytes) (line ++ 10 ∷ []) (split_text mark rest).0))
      ∙ ap (λ xs. (xs ++ (split_text mark rest).0, (split_text mark rest).1)) (sym (through_line bytes start at s.order within newline));
  begun = let none : (at + 1) - (at + 1) ≡ 0 = omega arith in subst (λ k. IsUnbroken (take k (drop (at + 1) bytes))) (sym none) (All-nil (λ byte. is_newline byte ≡ false));
}

-- ---- more bytes, and their end

-- at first nothing is searched
pub searched_none : (mark : Option (List ℕ)) → IsSearched mark [] (record { line_start = 0; at = 0 })
searched_none mark = record {
  order = omega arith;
  within = omega arith;
  lines = λ more. refl;
  begun = All-nil (λ byte. is_newline byte ≡ false);
}

drop_longer : (bytes more : List ℕ) (k : ℕ) → k ≤ length bytes → drop k (bytes ++ more) ≡ drop k bytes ++ more
drop_longer bytes more k h =
    let long : length (take k bytes) ≡ k = omega (arith, length-take k bytes) in
    ap (λ xs. drop k (xs ++ more)) (sym (take-append-drop k bytes)) ∙ ap (drop k) (append_assoc (take k bytes) (drop k bytes) more)
    ∙ ap (λ n. drop n (take k bytes ++ (drop k bytes ++ more))) (sym long) ∙ drop-append_seam (take k bytes) (drop k bytes ++ more)

pub searched_more : (mark : Option (List ℕ)) (bytes piece : List ℕ) (s : Search) → IsSearched mark bytes s → IsSearched mark (bytes ++ piece) s
searched_more mark bytes piece s h =
    let inside : s.line_start ≤ length bytes = omega (arith, h.order, h.within) in
    let order : s.line_start ≤ s.at = h.order in
    let within : s.at ≤ length bytes = h.within in
    let room : s.at - s.line_start ≤ length (drop s.line_start bytes) = omega (arith, length-drop s.line_start bytes) in
    record {
      order = h.order;
      within = omega (arith, length-append bytes piece);
      lines = λ more.
          ap (split_text mark) (append_assoc bytes piece more) ∙ h.lines (piece ++ more)
          ∙ ap (λ xs. with_front (take s.line_start bytes) (split_text mark xs)) (sym (append_assoc (drop s.line_start bytes) piece more) ∙ ap (λ xs. xs ++ more) (sym (drop_longer bytes piece s.line_start inside)))
          ∙ ap (λ xs. with_front xs (split_text mark (drop s.line_start (bytes ++ piece) ++ more))) (sym (take-append-le s.line_start bytes piece inside));
      begun = subst IsUnbroken (sym (ap (take (s.at - s.line_start)) (drop_longer bytes piece s.line_start inside) ∙ take-append-le (s.at - s.line_start) (drop s.line_start bytes) piece room)) h.begun;
    }

-- the line at the end is unbroken
last_line : (mark : Option (List ℕ)) (bytes : List ℕ) (s : Search) → IsSearched mark bytes s → s.at ≡ length bytes → IsUnbroken (drop s.line_start bytes)
last_line mark bytes s h all =
    let long : length (drop s.line_start bytes) ≡ s.at - s.line_start = omega (arith, length-drop s.line_start bytes) in
    subst IsUnbroken (ap (λ k. take k (drop s.line_start bytes)) (sym long) ∙ take-length (drop s.line_start bytes)) h.begun

end_parts : (mark : Option (List ℕ)) (bytes : List ℕ) (s : Search) → IsSearched mark bytes s → s.at ≡ length bytes
    → split_text mark bytes ≡ with_front (take s.line_start bytes) (cond (is_mark mark (drop s.line_start bytes)) ([], []) (drop s.line_start bytes, []))
end_parts mark bytes s h all =
    ap (split_text mark) (sym (append-nil bytes)) ∙ h.lines []
    ∙ ap (λ xs. with_front (take s.line_start bytes) (split_text mark xs)) (append-nil (drop s.line_start bytes))
    ∙ ap (with_front (take s.line_start bytes)) (last_piece mark (drop s.line_start bytes) (last_line mark bytes s h all))

pub ends_with_mark : (mark : Option (List ℕ)) (bytes : List ℕ) (s : Search) → IsSearched mark bytes s → s.at ≡ length bytes → is_mark mark (drop s.line_start bytes) ≡ true
    → split_text mark bytes ≡ (take s.line_start bytes, [])
ends_with_mark mark bytes s h all is =
    end_parts mark bytes s h all ∙ ap (λ b. with_front (take s.line_start bytes) (cond b ([], []) (drop s.line_start bytes, []))) is ∙ ap (λ (xs : List ℕ). (xs, [])) (append-nil (take s.line_start bytes))

pub ends_without_mark : (mark : Option (List ℕ)) (bytes : List ℕ) (s : Search) → IsSearched mark bytes s → s.at ≡ length bytes → is_mark mark (drop s.line_start bytes) ≡ false
    → split_text mark bytes ≡ (take (length bytes) bytes, [])
ends_without_mark mark bytes s h all differs =
    end_parts mark bytes s h all ∙ ap (λ b. with_front (take s.line_start bytes) (cond b ([], []) (drop s.line_start bytes, []))) differs
    ∙ ap (λ (xs : List ℕ). (xs, [])) (take-append-drop s.line_start bytes ∙ sym (take-length bytes))

-- ---- a text that is too large

-- a line that is longer than the mark isn't it
pub longer_than_mark : (mark line : List ℕ) → length mark < length line → is_mark (Some mark) line ≡ false
longer_than_mark mark line h = false_from_ne_true (is_mark (Some mark) line) (λ e. let same = ap length (bytes_same line mark e) in absurd (omega (arith, same)))
  where
    bytes_same : (xs ys : List ℕ) → bytes_eq xs ys ≡ true → xs ≡ ys
    bytes_same xs ys e = grind (arith, bytes_eq-Decides)

first_piece : (line rest : List ℕ) → IsUnbroken line → (first : List ℕ) × (others : List (List ℕ)) × (pieces (line ++ rest) ≡ (line ++ first) ∷ others)
first_piece [] rest h = let has = slice_split-first is_newline rest in (has.first, has.others, has.are)
first_piece (b ∷ line) rest h =
    let later = first_piece line rest (All-tail (λ byte. is_newline byte ≡ false) b line h) in
    (later.0, later.1, slice_split-cons_no is_newline b (line ++ rest) (All-head (λ byte. is_newline byte ≡ false) b line h) ∙ ap (onto_first b) later.2)

text_of_long : (mark : Option (List ℕ)) (line : List ℕ) (others : List (List ℕ)) → is_mark mark line ≡ false → length line ≤ length (split_lines mark (line ∷ others)).0
text_of_long mark line [] differs = rw differs (omega arith)
text_of_long mark line (next ∷ others) differs = rw differs (omega (arith, length-append line (10 ∷ (split_lines mark (next ∷ others)).0)))

begun_text : (mark : Option (List ℕ)) (line rest : List ℕ) → IsUnbroken line → ((more : List ℕ) → length line ≤ length more → is_mark mark more ≡ false)
    → length line ≤ length (split_text mark (line ++ rest)).0
begun_text None line rest unbroken other = rw length-append (omega arith)
begun_text (Some mark) line rest unbroken other =
    let first = first_piece line rest unbroken in
    let longer : length line ≤ length (line ++ first.0) = rw length-append (omega arith) in
    let text = text_of_long (Some mark) (line ++ first.0) first.1 (other (line ++ first.0) longer) in
    let is : length (split_text (Some mark) (line ++ rest)).0 ≡ length (split_lines (Some mark) ((line ++ first.0) ∷ first.1)).0 = ap (λ ps. length (split_lines (Some mark) ps).0) first.2 in
    omega (arith, text, is, longer)

text_from : (mark : Option (List ℕ)) (bytes rest : List ℕ) (s : Search) → IsSearched mark bytes s
    → length (text_before mark (bytes ++ rest)) ≡ s.line_start + length (split_text mark (drop s.line_start bytes ++ rest)).0
text_from mark bytes rest s h =
    let before : length (take s.line_start bytes) ≡ s.line_start = omega (arith, length-take s.line_start bytes, h.order, h.within) in
    ap (λ p. length p.0) (h.lines rest) ∙ length-append (take s.line_start bytes) (split_text mark (drop s.line_start bytes ++ rest)).0
    ∙ ap (λ n. n + length (split_text mark (drop s.line_start bytes ++ rest)).0) before

pub lines_are_large : (mark : Option (List ℕ)) (bytes rest : List ℕ) (s : Search) (limit : ℕ) → IsSearched mark bytes s → limit < s.line_start
    → limit < length (text_before mark (bytes ++ rest))
lines_are_large mark bytes rest s limit h large = omega (arith, text_from mark bytes rest s h)

pub bytes_are_large : (mark : Option (List ℕ)) (bytes rest : List ℕ) (s : Search) (limit : ℕ) → IsSearched mark bytes s → s.at ≡ length bytes → limit < length bytes
    → ((line : List ℕ) → length bytes - s.line_start ≤ length line → is_mark mark line ≡ false) → limit < length (text_before mark (bytes ++ rest))
bytes_are_large mark bytes rest s limit h all large other =
    let order : s.line_start ≤ s.at = h.order in
    let after : length (drop s.line_start bytes) ≡ length bytes - s.line_start = length-drop s.line_start bytes in
    let text = begun_text mark (drop s.line_start bytes) rest (last_line mark bytes s h all) (λ more long. other more (omega (arith, after, long))) in
    omega (arith, text_from mark bytes rest s h, text, after)

-- ---- what is held, moved after the text

drop_past : (before held : List ℕ) (k : ℕ) → length before ≤ k → drop k (before ++ held) ≡ drop (k - length before) held
drop_past before held k past =
    let there : length before + (k - length before) ≡ k = omega arith in
    ap (λ n. drop n (before ++ held)) (sym there) ∙ sym (drop-drop (k - length before) (length before) (before ++ held))
    ∙ ap (drop (k - length before)) (drop-append_seam before held)

pub finds_mark : (mark : Option (List ℕ)) (old new : Reading) (before bytes after : List ℕ) (parting : Parting) → bytes ≡ before ++ old.held → IsParting mark bytes parting
    → length before ≤ parting.rest_start → new.held ≡ drop (parting.rest_start - length before) old.held → new.unread ≡ old.unread
    → after ≡ take parting.text_end bytes → parting.text_end ≤ text_limit → FindsMark mark old new before after
finds_mark mark old new before bytes after parting whole is past held unread text few =
    record {
      parts = λ more.
          ap (λ xs. split_text mark (xs ++ more)) (sym whole) ∙ is.parts more
          ∙ ap (λ xs. (xs, drop parting.rest_start bytes ++ more)) (sym text)
          ∙ ap (λ xs. (after, xs ++ more)) (ap (drop parting.rest_start) whole ∙ drop_past before old.held parting.rest_start past ∙ sym held);
      unread = unread;
      few = omega (arith, few, ap length text, length-take parting.text_end bytes);
    }

-- ---- a reader whose bytes are known

-- the bytes are the text so far and those to come
abbrev pub IsFront : Option (List ℕ) → Reading → List ℕ → Type 0
IsFront start now text = Known start (to_come now) (λ bytes rest. bytes ≡ text ++ rest)

pub front-none : (start : Option (List ℕ)) → Known start start (λ bytes rest. bytes ≡ [] ++ rest)
front-none None = tt
front-none (Some bytes) = refl

moved : (start unread : Option (List ℕ)) (held text : List ℕ) → Known start (prepend_known held unread) (λ bytes rest. bytes ≡ text ++ rest)
    → Known start (prepend_known [] unread) (λ bytes rest. bytes ≡ (text ++ held) ++ rest)
moved None unread held text known = tt
moved (Some bytes) None held text known = known
moved (Some bytes) (Some more) held text known = known ∙ sym (append_assoc text held more)

pub front-moved : (mark start : Option (List ℕ)) (now new : Reading) (before after : List ℕ) (search : Search) → IsFront start now before → MovesHeld mark now new before after search
    → IsFront start new after
front-moved mark start now new before after search known moves = rw (moves.held, moves.unread, moves.text) (moved start now.unread now.held before known)

filled : (start old new : Option (List ℕ)) (held piece text : List ℕ) → Consumes old new piece → Known start (prepend_known held old) (λ bytes rest. bytes ≡ text ++ rest)
    → Known start (prepend_known (held ++ piece) new) (λ bytes rest. bytes ≡ text ++ rest)
filled None old new held piece text consumed known = tt
filled (Some bytes) None new held piece text consumed known = absurd known
filled (Some bytes) (Some xs) None held piece text consumed known = absurd consumed
filled (Some bytes) (Some xs) (Some ys) held piece text consumed known =
    known ∙ ap (λ more. text ++ (held ++ more)) consumed ∙ ap (λ more. text ++ more) (sym (append_assoc held piece ys))

pub front-filled : (start : Option (List ℕ)) (now new : Reading) (text : List ℕ) → IsFront start now text → Fills now More new → IsFront start new text
front-filled start now new text known fills = rw fills.2 (filled start now.unread new.unread now.held fills.0 text fills.3 known)

-- the text, and what is left, of known bytes
abbrev pub IsText : Option (List ℕ) → Option (List ℕ) → Reading → List ℕ → Type 0
IsText mark start new text = Known start (to_come new) (λ bytes rest. (text ≡ text_before mark bytes) × (rest ≡ rest_after mark bytes))

found : (mark start unread : Option (List ℕ)) (held held' before after : List ℕ) → Known start (prepend_known held unread) (λ bytes rest. bytes ≡ before ++ rest)
    → ((more : List ℕ) → split_text mark ((before ++ held) ++ more) ≡ (after, held' ++ more))
    → Known start (prepend_known held' unread) (λ bytes rest. (after ≡ text_before mark bytes) × (rest ≡ rest_after mark bytes))
found mark None unread held held' before after known parts = tt
found mark (Some bytes) None held held' before after known parts = known
found mark (Some bytes) (Some more) held held' before after known parts =
    let is : split_text mark bytes ≡ (after, held' ++ more) = ap (split_text mark) (known ∙ sym (append_assoc before held more)) ∙ parts more in
    (ap (λ (p : List ℕ × List ℕ). p.0) (sym is), ap (λ (p : List ℕ × List ℕ). p.1) (sym is))

pub text-found : (mark start : Option (List ℕ)) (now new : Reading) (before after : List ℕ) → IsFront start now before → FindsMark mark now new before after → IsText mark start new after
text-found mark start now new before after known finds = rw finds.unread (found mark start now.unread now.held new.held before after known finds.parts)

ended : (mark start old new : Option (List ℕ)) (text after : List ℕ) → Known start (prepend_known [] old) (λ bytes rest. bytes ≡ text ++ rest) → Keeps old new → IsAtEnd old
    → split_text mark text ≡ (after, []) → Known start (prepend_known [] new) (λ bytes rest. (after ≡ text_before mark bytes) × (rest ≡ rest_after mark bytes))
ended mark None old new text after known keeps end parts = tt
ended mark (Some bytes) None new text after known keeps end parts = absurd known
ended mark (Some bytes) (Some xs) None text after known keeps end parts = absurd keeps
ended mark (Some bytes) (Some xs) (Some ys) text after known keeps end parts =
    let is : split_text mark bytes ≡ (after, []) = ap (split_text mark) (known ∙ ap (λ more. text ++ more) end ∙ append-nil text) ∙ parts in
    (ap (λ (p : List ℕ × List ℕ). p.0) (sym is), keeps ∙ end ∙ ap (λ (p : List ℕ × List ℕ). p.1) (sym is))

pub text-ended : (mark start : Option (List ℕ)) (now new : Reading) (text after : List ℕ) → IsFront start now text → now.held ≡ [] → Fills now Empty new
    → split_text mark text ≡ (after, []) → IsText mark start new after
text-ended mark start now new text after known none fills parts =
    rw (fills.0, none) (ended mark start now.unread new.unread text after (rw none at known) fills.1 fills.2 parts)

large : (mark start unread : Option (List ℕ)) (held before : List ℕ) → Known start (prepend_known held unread) (λ bytes rest. bytes ≡ before ++ rest)
    → ((more : List ℕ) → text_limit < length (text_before mark ((before ++ held) ++ more))) → IfSome start (λ bytes. text_limit < length (text_before mark bytes))
large mark None unread held before known over = tt
large mark (Some bytes) None held before known over = absurd known
large mark (Some bytes) (Some more) held before known over =
    subst (λ (xs : List ℕ). text_limit < length (text_before mark xs)) (append_assoc before held more ∙ sym known) (over more)

pub text-large : (mark start : Option (List ℕ)) (now : Reading) (before : List ℕ) → IsFront start now before
    → ((more : List ℕ) → text_limit < length (text_before mark ((before ++ now.held) ++ more))) → IfSome start (λ bytes. text_limit < length (text_before mark bytes))
text-large mark start now before known over = large mark start now.unread now.held before known over

ended_large : (mark start old : Option (List ℕ)) (text : List ℕ) → Known start (prepend_known [] old) (λ bytes rest. bytes ≡ text ++ rest) → IsAtEnd old
    → text_limit < length (text_before mark text) → IfSome start (λ bytes. text_limit < length (text_before mark bytes))
ended_large mark None old text known end over = tt
ended_large mark (Some bytes) None text known end over = absurd known
ended_large mark (Some bytes) (Some xs) text known end over =
    subst (λ (ys : List ℕ). text_limit < length (text_before mark ys)) (sym (known ∙ ap (λ more. text ++ more) end ∙ append-nil text)) over

pub text-ended_large : (mark start : Option (List ℕ)) (now new : Reading) (text : List ℕ) → IsFront start now text → now.held ≡ [] → Fills now Empty new
    → text_limit < length (text_before mark text) → IfSome start (λ bytes. text_limit < length (text_before mark bytes))
text-ended_large mark start now new text known none fills over = ended_large mark start now.unread text (rw none at known) fills.2 over
