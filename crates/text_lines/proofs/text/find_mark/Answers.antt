use Rattle.std.proofs.Common.{◌≡◌, ◌+◌, ◌<◌, ℕ, List, length, drop, sym, ◌∙◌, ap, arith}
use Rattle.std.specs.List.{position_or_len}
use Rattle.std.specs.Option.{option_copied}
use Rattle.std.proofs.lemmas.List.{take_rest}
use Rattle.text_lines.specs.claims.Lines.{is_newline}
use Rattle.text_lines.proofs.Marks.{searched_on, found_mark, skipped_line}
use Rattle.text_lines.proofs.Ranges.{newline-from}
use Rattle.text_lines.proofs.text.find_mark.Goals as goal

pub returns-then-end-bytes-clause-searched : goal.returns-then-end-bytes-clause-searched
returns-then-end-bytes-clause-searched c =
    let bytes = c.args.bytes.now in
    let at = c.loop-search.search.at in
    let is : c.find_byte.result ≡ position_or_len is_newline (drop at bytes) = c.find_byte.ensures.place ∙ ap (λ (b : List ℕ). position_or_len is_newline b) (take_rest bytes at) in (
      searched_on (option_copied c.args.mark) bytes c.loop-search.search.line_start at c.find_byte.result c.loop-search.invariant.searched is (omega arith),
      c.if-end-bytes.true,
    )

pub returns-then-is_mark-clause-found : goal.returns-then-is_mark-clause-found
returns-then-is_mark-clause-found c =
    let bytes = c.args.bytes.now in
    let at = c.loop-search.search.at in
    let end : at + c.find_byte.result < length bytes = omega (arith, c.find_byte.ensures.within, c.if-end-bytes.false) in
    let is : c.find_byte.result ≡ position_or_len is_newline (drop at bytes) = c.find_byte.ensures.place ∙ ap (λ (b : List ℕ). position_or_len is_newline b) (take_rest bytes at) in
    let searched = searched_on (option_copied c.args.mark) bytes c.loop-search.search.line_start at c.find_byte.result c.loop-search.invariant.searched is (omega arith) in (
      found_mark (option_copied c.args.mark) bytes c.loop-search.search.line_start (at + c.find_byte.result) searched end (newline-from bytes at c.find_byte.result is end)
          (sym c.is_mark.ensures ∙ c.if-is_mark.true),
      omega (arith, c.loop-search.invariant.later),
    )

pub loop-search-preserved : goal.loop-search-preserved
loop-search-preserved c =
    let bytes = c.args.bytes.now in
    let at = c.loop-search.search.at in
    let end : at + c.find_byte.result < length bytes = omega (arith, c.find_byte.ensures.within, c.if-end-bytes.false) in
    let is : c.find_byte.result ≡ position_or_len is_newline (drop at bytes) = c.find_byte.ensures.place ∙ ap (λ (b : List ℕ). position_or_len is_newline b) (take_rest bytes at) in
    let searched = searched_on (option_copied c.args.mark) bytes c.loop-search.search.line_start at c.find_byte.result c.loop-search.invariant.searched is (omega arith) in
    record {
      searched = skipped_line (option_copied c.args.mark) bytes c.loop-search.search.line_start (at + c.find_byte.result) searched end (newline-from bytes at c.find_byte.result is end)
          (sym c.is_mark.ensures ∙ c.if-is_mark.false);
      later = omega (arith, c.loop-search.invariant.later);
    }
