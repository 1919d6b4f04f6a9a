-- What a joined line says, as it is written and as it is found.
use Rattle.std.proofs.Common.{◌≡◌, ℕ, ◌+◌, ◌<◌, ◌⊎◌, inl, inr, Bool, true, false, not, ◌||◌, ◌==◌, List, [], ◌∷◌, ◌++◌, length, drop, refl, sym, ap, subst, ◌∙◌, arith, tests, append_assoc, length-append}
use Rattle.std.proofs.lemmas.Bool.{false_from_ne_true}
use Rattle.std.specs.List.{before_first}
use Rattle.object_reader.specs.claims.Blanks.{is_blank, trim_start, trim_end, AreBlanks, IsTight}
use Rattle.object_reader.specs.claims.Joined.{EndsInBackslash}
use Rattle.object_reader.specs.Statements.{starts_comment, bare_from, unescaped, statement}
use Rattle.object_reader.specs.claims.Spelling.{IsComment, IsKept, Says}
use Rattle.object_reader.proofs.Trimming.{before_fails, rest_begins, blanks_from, blanks_dropped, all_append, all_trimmed, trimmed_parts, not_mark, EndsTight, end_dropped, split_end}
use Rattle.object_reader.proofs.Escapes.{bare_found, cut, meant_found, covered, covered_core, kept_unescaped}

-- comments

comment_mark : (c : ℕ) → (c == 35 || c == 59) ≡ true → (c ≡ 35) ⊎ (c ≡ 59)
comment_mark c h = by_first (c == 35) refl where
  by_first : (t : Bool) → (c == 35) ≡ t → (c ≡ 35) ⊎ (c ≡ 59)
  by_first true e = let hash : c ≡ 35 = grind (arith, tests) in inl hash
  by_first false e = let semicolon : (c == 59) ≡ true = rw e at h in let is : c ≡ 59 = grind (arith, tests) in inr is

comment_from : (bs : List ℕ) → starts_comment (trim_start bs) ≡ true → IsComment bs
comment_from bs h = by_rest (trim_start bs) refl where
  by_rest : (t : List ℕ) → trim_start bs ≡ t → IsComment bs
  by_rest [] e = let none : false ≡ true = sym (ap starts_comment e) ∙ h in let never : ⊥ = cc in absurd never
  by_rest (c ∷ others) e = record {
    before = before_first (λ b. not (is_blank b)) bs;
    mark = c;
    others = others;
    parts = trimmed_parts bs ∙ ap (λ x. before_first (λ b. not (is_blank b)) bs ++ x) e;
    blank = blanks_from (before_first (λ b. not (is_blank b)) bs) (before_fails (λ b. not (is_blank b)) bs);
    marks = comment_mark c (sym (ap starts_comment e) ∙ h);
  }

comment_to : (bs : List ℕ) → IsComment bs → starts_comment (trim_start bs) ≡ true
comment_to bs h = by_mark h.marks where
  by_mark : (h.mark ≡ 35) ⊎ (h.mark ≡ 59) → starts_comment (trim_start bs) ≡ true
  by_mark (inl e) = ap (λ x. starts_comment (trim_start x)) (h.parts ∙ ap (λ m. h.before ++ m ∷ h.others) e) ∙ ap starts_comment (blanks_dropped h.before 35 h.others h.blank refl)
  by_mark (inr e) = ap (λ x. starts_comment (trim_start x)) (h.parts ∙ ap (λ m. h.before ++ m ∷ h.others) e) ∙ ap starts_comment (blanks_dropped h.before 59 h.others h.blank refl)

-- what is written is found

core_found : (before s after : List ℕ) → AreBlanks before → AreBlanks after → IsTight s → trim_end (trim_start (before ++ (s ++ after))) ≡ s
core_found before s after b a (inl none) =
    let empty : before ++ (s ++ after) ≡ before ++ after = ap (λ x. before ++ (x ++ after)) none in
    ap (λ x. trim_end (trim_start x)) empty ∙ ap trim_end (all_trimmed (before ++ after) (all_append is_blank before after b a)) ∙ sym none
core_found before s after b a (inr (begins, ends)) =
    let front : trim_start (before ++ (s ++ after)) ≡ s ++ after =
    ap (λ x. trim_start (before ++ (x ++ after))) begins.2 ∙ blanks_dropped before begins.0 (begins.1 ++ after) b begins.3 ∙ ap (λ x. x ++ after) (sym begins.2) in
    ap trim_end front ∙ end_dropped is_blank s after (inr ends) a

pub statement_found : (bs s : List ℕ) → Says bs s → statement bs ≡ s
unfolding statement
statement_found bs s (inl (comment, none)) = let e : starts_comment (trim_start bs) ≡ true = comment_to bs comment in rw e (sym none)
statement_found bs s (inr (no_comment, h)) =
    let e : starts_comment (trim_start bs) ≡ false = false_from_ne_true _ (λ t. no_comment (comment_from bs t)) in
    let kept : List ℕ = h.before ++ (h.core ++ h.after) in
    rw e (ap (λ x. unescaped (trim_end (trim_start (bare_from 0 x)))) h.parts
    ∙ ap (λ x. unescaped (trim_end (trim_start x))) (bare_found kept h.dropped (covered_core h.before h.core h.after s h.before_blank h.after_blank h.escapes) h.comment)
    ∙ ap unescaped (core_found h.before h.core h.after h.before_blank h.after_blank h.tight)
    ∙ meant_found h.core s h.escapes)

-- what is found is written so

-- what is left between blanks begins with a mark too
begins_tight : (k front after : List ℕ) → trim_start k ≡ front ++ after → EndsTight is_blank front → IsTight front
begins_tight k front after e (inl none) = inl none
begins_tight k front after e (inr (before, last, is, mark)) =
    let core : front ++ after ≡ before ++ last ∷ after = ap (λ x. x ++ after) is ∙ append_assoc before (last ∷ []) after in
    let some : 0 < length (trim_start k) = omega (arith, ap length (e ∙ core), length-append before (last ∷ after)) in
    let h = rest_begins (λ b. not (is_blank b)) k some in
    inr (by_front front after (before ++ last ∷ []) is h.first h.others (sym e ∙ h.is) (not_mark (is_blank h.first) h.passes), (before, last, is, mark)) where
      by_front : (front after whole : List ℕ) → front ≡ before ++ last ∷ [] → (first : ℕ) (others : List ℕ) → front ++ after ≡ first ∷ others → is_blank first ≡ false
          → (first : ℕ) × (others : List ℕ) × (front ≡ first ∷ others) × (is_blank first ≡ false)
      by_front [] after whole is first others e m =
          let n : 0 ≡ length before + 1 = ap length is ∙ length-append before (last ∷ []) in absurd (omega arith)
      by_front (x ∷ xs) after whole is first others e m =
          let same : x ≡ first = cc in (x, xs, refl, ap is_blank same ∙ m)

kept_written : (bs : List ℕ) → IsKept bs (unescaped (trim_end (trim_start (bare_from 0 bs))))
kept_written bs =
    let k : List ℕ = bare_from 0 bs in
    let c = cut 0 bs in
    let before : List ℕ = before_first (λ b. not (is_blank b)) k in
    let before_blank : AreBlanks before = blanks_from before (before_fails (λ b. not (is_blank b)) k) in
    let h = split_end is_blank (trim_start k) in
    let found : trim_end (trim_start k) ≡ h.front = ap trim_end h.is ∙ end_dropped is_blank h.front h.after h.ends h.pass in
    let inner : k ≡ before ++ (h.front ++ h.after) = trimmed_parts k ∙ ap (λ x. before ++ x) h.is in
    subst (λ s. IsKept bs (unescaped s)) (sym found) (record {
      before = before;
      core = h.front;
      after = h.after;
      dropped = c.dropped;
      parts = c.is ∙ ap (λ x. x ++ c.dropped) inner;
      before_blank = before_blank;
      after_blank = h.pass;
      tight = begins_tight k h.front h.after h.is h.ends;
      escapes = kept_unescaped before h.front h.after (ap (covered 0) (sym inner) ∙ c.cover) before_blank;
      comment = comment_kept (before ++ (h.front ++ h.after)) inner c.comment;
    }) where
      comment_kept : {dropped : List ℕ} (whole : List ℕ) → bare_from 0 bs ≡ whole → (dropped ≡ []) ⊎ ((others : List ℕ) × (dropped ≡ 59 ∷ others) × (EndsInBackslash (0 ∷ bare_from 0 bs) → ⊥))
          → (dropped ≡ []) ⊎ ((others : List ℕ) × (dropped ≡ 59 ∷ others) × (EndsInBackslash whole → ⊥))
      comment_kept whole is (inl e) = inl e
      comment_kept whole is (inr (others, e, none)) = inr (others, e, λ h. none (0 ∷ h.0, ap (λ x. 0 ∷ x) (is ∙ h.1)))

pub statement_written : (bs : List ℕ) → Says bs (statement bs)
unfolding statement
statement_written bs = by_comment (starts_comment (trim_start bs)) refl where
  by_comment : (t : Bool) → starts_comment (trim_start bs) ≡ t → Says bs (statement bs)
  by_comment true e = inl (comment_from bs e, rw e refl)
  by_comment false e = inr (λ c. let yes : starts_comment (trim_start bs) ≡ true = comment_to bs c in cc, rw e (kept_written bs))
