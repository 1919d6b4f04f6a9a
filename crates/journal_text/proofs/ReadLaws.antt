-- A journal that is read line by line.
use Rattle.std.proofs.Common.{◌≡◌, ℕ, suc, ◌+◌, ◌^◌, ◌<◌, ◌≤◌, ◌⊎◌, inl, inr, List, [], ◌∷◌, ◌++◌, Bool, true, false, ◌==◌, length, nat_le, refl, sym, ap, ◌∙◌, subst, arith, Option, Some, None, Result, Ok, Err, IfSome, append-nil, append_assoc, eq-eqb, filter_map}
use Rattle.std.specs.Io.KnownBytes.{prepend_known}
use Rattle.std.proofs.lemmas.Bool.{cond-true, cond-false, le-leb, lt-leb, true≢false}
use Rattle.std.proofs.lemmas.List.Elements.{filter_map-append}
use Rattle.std.proofs.lemmas.List.Splits.{slice_split_at, slice_split_none}
use Rattle.due_model.specs.claims.Limits.{line_limit}
use Rattle.due_model.specs.declared.config.Config.{Config}
use Rattle.due_model.specs.declared.config.LaneId.{LaneId}
use Rattle.due_model.specs.declared.notice.Notice.{Notice}
use Rattle.text_lines.specs.claims.LineReader.{call_limit}
use Rattle.text_lines.specs.LineReader.{BeginsUnbroken}
use Rattle.text_lines.specs.claims.Lines.{Known, is_newline, pieces}
use Rattle.text_lines.specs.Lines.{BeginsWithLine, IsUnbroken}
use Rattle.journal_text.specs.declared.entry.Entry.{Entry}
use Rattle.journal_text.specs.declared.journal.JournalFault.{JournalFault}
use Rattle.journal_text.specs.declared.journal.JournalFault.TheVariants.{Line, NoMemory, Unreadable}
use Rattle.journal_text.specs.declared.journal.ReadJournal.{ReadJournal}
use Rattle.journal_text.specs.Entries.{entry_said, first_said}
use Rattle.journal_text.specs.Lines.{after_first, after_line, put, read_from, told_by, whole_length, with_front, within}
use Rattle.journal_text.specs.Told.{Comes, Gains, HasUnbroken, IsRead, IsTooMuch, Reads, ReadsEntries, Steps, begun_by, begun_in, journal_said, line_count, line_said, settled_by, settled_in}
use Rattle.journal_text.proofs.CutLaws.{some_piece, put_with}

-- ---- known bytes

pub known_same : (a : Option (List ℕ)) (P : List ℕ → List ℕ → Type 0) → ((x : List ℕ) → P x x) → Known a a P
known_same None P each = tt
known_same (Some x) P each = each x

pub known_map : (a b : Option (List ℕ)) (P Q : List ℕ → List ℕ → Type 0) → Known a b P → ((x y : List ℕ) → P x y → Q x y) → Known a b Q
known_map None b P Q known each = tt
known_map (Some x) None P Q known each = known
known_map (Some x) (Some y) P Q known each = each x y known

pub known_then : (a b c : Option (List ℕ)) (P Q S : List ℕ → List ℕ → Type 0) → Known a b P → Known b c Q
    → ((x y z : List ℕ) → P x y → Q y z → S x z) → Known a c S
known_then None b c P Q S first second both = tt
known_then (Some x) None c P Q S first second both = absurd first
known_then (Some x) (Some y) None P Q S first second both = absurd second
known_then (Some x) (Some y) (Some z) P Q S first second both = both x y z first second

pub known_first : (a b : Option (List ℕ)) (P : List ℕ → List ℕ → Type 0) (Q : List ℕ → Type 0) → Known a b P
    → ((x y : List ℕ) → P x y → Q x) → IfSome a Q
known_first None b P Q known each = tt
known_first (Some x) None P Q known each = absurd known
known_first (Some x) (Some y) P Q known each = each x y known

-- ---- one line

short_said : {X : Type 0} (said : List ℕ → Option X) (line : List ℕ) → length line ≤ line_limit → within said line ≡ said line
short_said said line short = cond-true (nat_le (length line) line_limit) (said line) None (le-leb (length line) line_limit short)

long_said : {X : Type 0} (said : List ℕ → Option X) (line : List ℕ) → line_limit < length line → within said line ≡ None
long_said said line long = cond-false (nat_le (length line) line_limit) (said line) None (lt-leb (length line) line_limit long)

reads_fault : {X : Type 0} (can_fail : Bool) (said : List ℕ → Option X) (number : ℕ) (f : JournalFault) → ((n : ℕ) → f ≡ Line n → n ≡ number)
    → (bytes line rest : List ℕ) → Steps can_fail bytes (Err f) line rest → Reads can_fail said number bytes (Err f) line rest
reads_fault can_fail said number (Line n) is bytes line rest h = (is n refl, h.0, h.1, long_said said h.0 h.2)
reads_fault can_fail said number Unreadable is bytes line rest h = h
reads_fault can_fail said number NoMemory is bytes line rest h = h

module _ {X : Type 0} (can_fail : Bool) (said : List ℕ → Option X) (number : ℕ) (a b : Option (List ℕ)) (line : List ℕ) where
  pub fault_reads : (r : Result Bool JournalFault) (f : JournalFault) → Known a b (λ bytes rest. Steps can_fail bytes r line rest) → r ≡ Err f
      → ((n : ℕ) → r ≡ Err (Line n) → n ≡ number) → Known a b (λ bytes rest. Reads can_fail said number bytes (Err f) line rest)
  fault_reads r f known is numbered =
      known_map a b _ _ known (λ bytes rest h.
      reads_fault can_fail said number f (λ n same. numbered n (is ∙ ap Err same)) bytes line rest
      (subst (λ (x : Result Bool JournalFault). Steps can_fail bytes x line rest) is h))

  pub over_reads : (r : Result Bool JournalFault) → Known a b (λ bytes rest. Steps can_fail bytes r line rest) → r ≡ Ok false
      → Known a b (λ bytes rest. Reads can_fail said number bytes (Ok None) line rest)
  over_reads r known is =
      known_map a b _ _ known (λ bytes rest h. subst (λ (x : Result Bool JournalFault). Steps can_fail bytes x line rest) is h)

  pub some_reads : (r : Result Bool JournalFault) (x : X) → Known a b (λ bytes rest. Steps can_fail bytes r line rest) → r ≡ Ok true
      → said line ≡ Some x → Known a b (λ bytes rest. Reads can_fail said number bytes (Ok (Some x)) line rest)
  some_reads r x known is says =
      known_map a b _ _ known (λ bytes rest h.
      let line-is : BeginsWithLine bytes line rest × (length line ≤ line_limit) =
      subst (λ (y : Result Bool JournalFault). Steps can_fail bytes y line rest) is h in
      (line-is.0, short_said said line line-is.1 ∙ says))

  pub none_reads : (r : Result Bool JournalFault) → Known a b (λ bytes rest. Steps can_fail bytes r line rest) → r ≡ Ok true
      → said line ≡ None → Known a b (λ bytes rest. Reads can_fail said number bytes (Err (Line number)) line rest)
  none_reads r known is says =
      known_map a b _ _ known (λ bytes rest h.
      let line-is : BeginsWithLine bytes line rest × (length line ≤ line_limit) =
      subst (λ (y : Result Bool JournalFault). Steps can_fail bytes y line rest) is h in
      (refl, line, line-is.0, short_said said line line-is.1 ∙ says))

-- ---- one line after another

pieces_line : (bytes line rest : List ℕ) → BeginsWithLine bytes line rest → pieces bytes ≡ line ∷ pieces rest
pieces_line bytes line rest h = ap pieces h.whole ∙ slice_split_at is_newline line 10 rest h.unbroken (eq-eqb 10 10 refl)

whole_step : (line rest : List ℕ) → whole_length (line ∷ pieces rest) ≡ length line + 1 + whole_length (pieces rest)
whole_step line rest =
    let some = some_piece rest in
    ap (λ ps. whole_length (line ∷ ps)) some.2 ∙ ap (λ ps. length line + 1 + whole_length ps) (sym some.2)

-- a line that says something, or says nothing
read_on : (said : List ℕ → Option Entry) (n : ℕ) (bytes line rest : List ℕ) → BeginsWithLine bytes line rest → (o : Option Entry) → said line ≡ o
    → read_from said n (pieces bytes) ≡ after_line n o (read_from said (n + 1) (pieces rest))
read_on said n bytes line rest h o says =
    let some = some_piece rest in
    ap (read_from said n) (pieces_line bytes line rest h ∙ ap (λ ps. line ∷ ps) some.2)
    ∙ ap (λ x. after_line n x (read_from said (n + 1) (some.0 ∷ some.1))) says
    ∙ ap (λ ps. after_line n o (read_from said (n + 1) ps)) (sym some.2)

gains_more : (a b d : ReadJournal) (es es' : List Entry) → Gains a b es → Gains b d es' → Gains a d (es ++ es')
gains_more a b d es es' first next = record {
  from = next.from ∙ first.from;
  settled = next.settled ∙ ap (λ ns. ns ++ settled_in es') first.settled ∙ append_assoc a.settled.items (settled_in es) (settled_in es')
      ∙ ap (λ ns. a.settled.items ++ ns) (sym (filter_map-append settled_by es es'));
  begun = next.begun ∙ ap (λ ns. ns ++ begun_in es') first.begun ∙ append_assoc a.begun.items (begun_in es) (begun_in es')
      ∙ ap (λ ns. a.begun.items ++ ns) (sym (filter_map-append begun_by es es'));
}

gains_none : (a : ReadJournal) → Gains a a []
gains_none a = record { from = refl; settled = sym (append-nil a.settled.items); begun = sym (append-nil a.begun.items) }

-- ---- what is too much

begins_has : (bytes : List ℕ) (count : ℕ) → BeginsUnbroken bytes count → HasUnbroken count bytes
begins_has bytes count h = ([], h.0, h.1, h.3, h.2, h.4)

has_behind : (gone rest bytes : List ℕ) (count : ℕ) → bytes ≡ gone ++ rest → HasUnbroken count rest → HasUnbroken count bytes
has_behind gone rest bytes count is h =
    (gone ++ h.0, h.1, h.2, is ∙ ap (λ x. gone ++ x) h.3 ∙ sym (append_assoc gone (h.0 ++ h.1) h.2) ∙ ap (λ x. x ++ h.2) (sym (append_assoc gone h.0 h.1)), h.4, h.5)

line_gone : (bytes line rest : List ℕ) → BeginsWithLine bytes line rest → bytes ≡ (line ++ 10 ∷ []) ++ rest
line_gone bytes line rest h = h.whole ∙ sym (append_assoc line (10 ∷ []) rest)

lines_gone : (bytes line rest : List ℕ) → BeginsWithLine bytes line rest → length (pieces bytes) ≡ suc (length (pieces rest))
lines_gone bytes line rest h = ap length (pieces_line bytes line rest h)

length_gone : (bytes line rest : List ℕ) → BeginsWithLine bytes line rest
    → whole_length (pieces bytes) ≡ length line + 1 + whole_length (pieces rest)
length_gone bytes line rest h = ap whole_length (pieces_line bytes line rest h) ∙ whole_step line rest

some_left : (rest : List ℕ) → 1 ≤ length (pieces rest)
some_left rest =
    let some = some_piece rest in
    let length-is : length (pieces rest) ≡ suc (length some.1) = ap length some.2 in
    omega arith

too_much_whole : (bytes line rest : List ℕ) (whole : ℕ) → BeginsWithLine bytes line rest → whole ≡ 0 + (length line + 1)
    → IsTooMuch 1 whole rest → IsTooMuch 0 0 bytes
too_much_whole bytes line rest whole begins is (inl long) =
    inl (has_behind (line ++ 10 ∷ []) rest bytes call_limit (line_gone bytes line rest begins) long)
too_much_whole bytes line rest whole begins is (inr (inl many)) =
    let lines-are : length (pieces bytes) ≡ suc (length (pieces rest)) = lines_gone bytes line rest begins in
    inr (inl (omega arith))
too_much_whole bytes line rest whole begins is (inr (inr large)) =
    let length-is : whole_length (pieces bytes) ≡ length line + 1 + whole_length (pieces rest) = length_gone bytes line rest begins in
    inr (inr (omega arith))

module _ (c : Config) (lane : LaneId) where
  pub comes_first : (bytes : List ℕ) (old : ReadJournal) → Comes c lane bytes bytes 2 old old
  comes_first bytes old = record {
    entries = [];
    said = nothing_put (read_from (line_said c lane) 2 (pieces bytes));
    gains = gains_none old;
    whole = refl;
    gone = [];
    gone_is = refl;
    lines = refl;
  }
    where
      nothing_put : (r : Result (List Entry) ℕ) → put [] r ≡ r
      nothing_put (Ok es) = refl
      nothing_put (Err n) = refl

module _ (can_fail : Bool) (c : Config) (lane : LaneId) where
  comes_next : (bytes rest line rest' : List ℕ) (number : ℕ) (old now mid new : ReadJournal) (e : Entry)
      → Comes c lane bytes rest number old now → Reads can_fail (entry_said c lane) number rest (Ok (Some e)) line rest'
      → Gains now mid (e ∷ []) → Gains mid new [] → new.whole ≡ now.whole + (length line + 1)
      → Comes c lane bytes rest' (number + 1) old new
  comes_next bytes rest line rest' number old now mid new e h reads add count whole =
      let step : whole_length (pieces rest) ≡ length line + 1 + whole_length (pieces rest') =
      ap whole_length (pieces_line rest line rest' reads.0) ∙ whole_step line rest' in
      let before : now.whole + whole_length (pieces rest) ≡ old.whole + whole_length (pieces bytes) = h.whole in
      let lines-were : number + length (pieces rest) ≡ 2 + length (pieces bytes) = h.lines in
      let lines-are : length (pieces rest) ≡ suc (length (pieces rest')) = lines_gone rest line rest' reads.0 in
      record {
        entries = h.entries ++ e ∷ [];
        said = put_with h.entries e (read_from (line_said c lane) (number + 1) (pieces rest'))
            ∙ ap (put h.entries) (sym (read_on (line_said c lane) number rest line rest' reads.0 (Some e) reads.1)) ∙ h.said;
        gains = subst (λ (es : List Entry). Gains old new es) (append-nil (h.entries ++ e ∷ []))
            (gains_more old mid new (h.entries ++ e ∷ []) [] (gains_more old now mid h.entries (e ∷ []) h.gains add) count);
        whole = omega arith;
        gone = h.gone ++ (line ++ 10 ∷ []);
        gone_is = h.gone_is ∙ ap (λ x. h.gone ++ x) (line_gone rest line rest' reads.0) ∙ sym (append_assoc h.gone (line ++ 10 ∷ []) rest');
        lines = omega arith;
      }

  comes_over : (bytes rest line rest' : List ℕ) (number : ℕ) (old now : ReadJournal)
      → Comes c lane bytes rest number old now → Reads can_fail (entry_said c lane) number rest (Ok None) line rest'
      → ReadsEntries can_fail c lane old now bytes (Ok tt)
  comes_over bytes rest line rest' number old now h torn =
      let one : pieces rest ≡ rest ∷ [] = slice_split_none is_newline rest torn in
      let none : whole_length (pieces rest) ≡ 0 = ap whole_length one in
      let before : now.whole + whole_length (pieces rest) ≡ old.whole + whole_length (pieces bytes) = h.whole in (
        h.entries,
        sym h.said ∙ ap (λ ps. put h.entries (read_from (line_said c lane) number ps)) one ∙ ap Ok (append-nil h.entries),
        h.gains,
        omega arith,
      )

  comes_stop : (bytes rest line rest' : List ℕ) (number : ℕ) (old now any : ReadJournal) (f : JournalFault)
      → Comes c lane bytes rest number old now → Reads can_fail (entry_said c lane) number rest (Err f) line rest'
      → ReadsEntries can_fail c lane old any bytes (Err f)
  comes_stop bytes rest line rest' number old now any (Line n) h reads =
      sym h.said
      ∙ ap (put h.entries) (read_on (line_said c lane) number rest reads.1 rest' reads.2 None reads.3 ∙ ap Err (sym reads.0))
  comes_stop bytes rest line rest' number old now any Unreadable h (inl failed) = inl failed
  comes_stop bytes rest line rest' number old now any Unreadable h (inr long) =
      inr (inl (has_behind h.gone rest bytes call_limit h.gone_is (begins_has rest call_limit long)))
  comes_stop bytes rest line rest' number old now any NoMemory h reads = tt

  -- the bytes are too many to be counted
  comes_large : (bytes rest line rest' : List ℕ) (number : ℕ) (old now any : ReadJournal) (e : Entry)
      → Comes c lane bytes rest number old now → Reads can_fail (entry_said c lane) number rest (Ok (Some e)) line rest'
      → 2 ^ 64 ≤ now.whole + (length line + 1) → ReadsEntries can_fail c lane old any bytes (Err Unreadable)
  comes_large bytes rest line rest' number old now any e h reads large =
      let step : whole_length (pieces rest) ≡ length line + 1 + whole_length (pieces rest') = length_gone rest line rest' reads.0 in
      let before : now.whole + whole_length (pieces rest) ≡ old.whole + whole_length (pieces bytes) = h.whole in
      inr (inr (inr (omega arith)))

  -- there are too many lines
  comes_many : (bytes rest : List ℕ) (number : ℕ) (old now any : ReadJournal) → Comes c lane bytes rest number old now
      → line_count < number → ReadsEntries can_fail c lane old any bytes (Err Unreadable)
  comes_many bytes rest number old now any h many =
      let lines-are : number + length (pieces rest) ≡ 2 + length (pieces bytes) = h.lines in
      let left : 1 ≤ length (pieces rest) = some_left rest in
      inr (inr (inl (omega arith)))

  module _ (a b d : Option (List ℕ)) (number : ℕ) (line : List ℕ) (old now : ReadJournal)
      (before : Known a b (λ bytes rest. Comes c lane bytes rest number old now)) where
    pub stopped : (any : ReadJournal) (f : JournalFault) → Known b d (λ bytes rest. Reads can_fail (entry_said c lane) number bytes (Err f) line rest)
        → Known a d (λ bytes rest. ReadsEntries can_fail c lane old any bytes (Err f))
    stopped any f known =
        known_then a b d _ _ _ before known (λ bytes rest rest' comes reads. comes_stop bytes rest line rest' number old now any f comes reads)

    pub large : (any mid : ReadJournal) (e : Entry)
        → Known b d (λ bytes rest. Reads can_fail (entry_said c lane) number bytes (Ok (Some e)) line rest)
        → mid.whole ≡ now.whole → 2 ^ 64 ≤ mid.whole + (length line + 1)
        → Known a d (λ bytes rest. ReadsEntries can_fail c lane old any bytes (Err Unreadable))
    large any mid e known same much =
        known_then a b d _ _ _ before known (λ bytes rest rest' comes reads.
        comes_large bytes rest line rest' number old now any e comes reads (subst (λ (n : ℕ). 2 ^ 64 ≤ n + (length line + 1)) same much))

    pub failed : (any mid : ReadJournal) (e : Entry) (f : JournalFault)
        → Known b d (λ bytes rest. Reads can_fail (entry_said c lane) number bytes (Ok (Some e)) line rest)
        → mid.whole ≡ now.whole → ((n : ℕ) → f ≡ Line n → ⊥) → (f ≡ Unreadable → 2 ^ 64 ≤ mid.whole + (length line + 1))
        → Known a d (λ bytes rest. ReadsEntries can_fail c lane old any bytes (Err f))
    failed any mid e (Line n) known same none much = absurd (none n refl)
    failed any mid e Unreadable known same none much = large any mid e known same (much refl)
    failed any mid e NoMemory known same none much = known_then a b d _ _ _ before known (λ bytes rest rest' comes reads. tt)

    pub many : (any : ReadJournal) → line_count < number
        → Known a b (λ bytes rest. ReadsEntries can_fail c lane old any bytes (Err Unreadable))
    many any more = known_map a b _ _ before (λ bytes rest comes. comes_many bytes rest number old now any comes more)

    pub over : Known b d (λ bytes rest. Reads can_fail (entry_said c lane) number bytes (Ok None) line rest)
        → Known a d (λ bytes rest. ReadsEntries can_fail c lane old now bytes (Ok tt))
    over known =
        known_then a b d _ _ _ before known (λ bytes rest rest' comes reads. comes_over bytes rest line rest' number old now comes reads)

    pub next : (e : Entry) (mid new : ReadJournal) → Known b d (λ bytes rest. Reads can_fail (entry_said c lane) number bytes (Ok (Some e)) line rest)
        → Gains now mid (e ∷ []) → mid.whole ≡ now.whole → Gains mid new [] → new.whole ≡ mid.whole + (length line + 1)
        → Known a d (λ bytes rest. Comes c lane bytes rest (number + 1) old new)
    next e mid new known add same count more =
        known_then a b d _ _ _ before known (λ bytes rest rest' comes reads.
        comes_next bytes rest line rest' number old now mid new e comes reads add count (more ∙ ap (λ (n : ℕ). n + (length line + 1)) same))

  -- ---- the first line, and the others

  told_first : (bytes line rest : List ℕ) → BeginsWithLine bytes line rest → (o : Option ℕ) → within (first_said c lane) line ≡ o
      → journal_said c lane bytes ≡ after_first o (read_from (line_said c lane) 2 (pieces rest))
  told_first bytes line rest h o says =
      let some = some_piece rest in
      ap (told_by (within (first_said c lane)) (line_said c lane)) (pieces_line bytes line rest h ∙ ap (λ ps. line ∷ ps) some.2)
      ∙ ap (λ x. after_first x (read_from (line_said c lane) 2 (some.0 ∷ some.1))) says
      ∙ ap (λ ps. after_first o (read_from (line_said c lane) 2 ps)) (sym some.2)

  module _ (a b : Option (List ℕ)) (line : List ℕ) where
    pub none_read : (read : ReadJournal) → Known a b (λ bytes rest. Reads can_fail (first_said c lane) 1 bytes (Ok None) line rest)
        → read.from ≡ None → read.settled.items ≡ [] → read.begun.items ≡ [] → read.whole ≡ 0
        → IfSome a (λ bytes. IsRead c lane bytes read)
    none_read read known from settled begun whole =
        known_first a b _ _ known (λ bytes rest torn.
        let one : pieces bytes ≡ bytes ∷ [] = slice_split_none is_newline bytes torn in
        record {
          entries = [];
          said = ap (told_by (within (first_said c lane)) (line_said c lane)) one
              ∙ ap (λ (x : Option ℕ). Ok (record { from = x; entries = [] })) (sym from);
          settled = settled;
          begun = begun;
          whole = whole ∙ sym (ap whole_length one);
        })

    pub first_refused : (f : JournalFault) (n : ℕ) → Known a b (λ bytes rest. Reads can_fail (first_said c lane) 1 bytes (Err f) line rest)
        → f ≡ Line n → IfSome a (λ bytes. journal_said c lane bytes ≡ Err n)
    first_refused f n known is =
        known_first a b _ _ known (λ bytes rest h.
        let reads : Reads can_fail (first_said c lane) 1 bytes (Err (Line n)) line rest =
        subst (λ (x : JournalFault). Reads can_fail (first_said c lane) 1 bytes (Err x) line rest) is h in
        told_first bytes reads.1 rest reads.2 None reads.3 ∙ ap Err (sym reads.0))

    pub first_unreadable : (f : JournalFault) → Known a b (λ bytes rest. Reads can_fail (first_said c lane) 1 bytes (Err f) line rest)
        → f ≡ Unreadable → can_fail ≡ false → IfSome a (λ bytes. IsTooMuch 0 0 bytes)
    first_unreadable f known is sure =
        known_first a b _ _ known (λ bytes rest h.
        by_cause bytes (subst (λ (x : JournalFault). Reads can_fail (first_said c lane) 1 bytes (Err x) line rest) is h))
      where
        by_cause : (bytes : List ℕ) → (can_fail ≡ true) ⊎ BeginsUnbroken bytes call_limit → IsTooMuch 0 0 bytes
        by_cause bytes (inl failed) = absurd (true≢false (sym failed ∙ sure))
        by_cause bytes (inr long) = inl (begins_has bytes call_limit long)

    pub first_large : (from : ℕ) → Known a b (λ bytes rest. Reads can_fail (first_said c lane) 1 bytes (Ok (Some from)) line rest)
        → 2 ^ 64 ≤ 0 + (length line + 1) → IfSome a (λ bytes. IsTooMuch 0 0 bytes)
    first_large from known much =
        known_first a b _ _ known (λ bytes rest h.
        let length-is : whole_length (pieces bytes) ≡ length line + 1 + whole_length (pieces rest) = length_gone bytes line rest h.0 in
        inr (inr (omega arith)))

    module _ (d : Option (List ℕ)) (from : ℕ) (old new : ReadJournal)
        (first : Known a b (λ bytes rest. Reads can_fail (first_said c lane) 1 bytes (Ok (Some from)) line rest)) where
      pub all_read : Known b d (λ bytes rest. ReadsEntries can_fail c lane old new bytes (Ok tt))
          → old.from ≡ Some from → old.settled.items ≡ [] → old.begun.items ≡ [] → old.whole ≡ 0 + (length line + 1)
          → IfSome a (λ bytes. IsRead c lane bytes new)
      all_read known is settled begun whole =
          known_first a d _ _ (known_then a b d _ _ (λ bytes _. IsRead c lane bytes new) first known (λ bytes rest last h reads.
          let length-is : whole_length (pieces bytes) ≡ length line + 1 + whole_length (pieces rest) =
          ap whole_length (pieces_line bytes line rest h.0) ∙ whole_step line rest in
          let whole-is : new.whole ≡ old.whole + whole_length (pieces rest) = reads.3 in
          record {
            entries = reads.0;
            said = told_first bytes line rest h.0 (Some from) h.1 ∙ ap (after_first (Some from)) reads.1
                ∙ ap (λ (x : Option ℕ). Ok (record { from = x; entries = reads.0 })) (sym (reads.2.from ∙ is));
            settled = reads.2.settled ∙ ap (λ ns. ns ++ settled_in reads.0) settled;
            begun = reads.2.begun ∙ ap (λ ns. ns ++ begun_in reads.0) begun;
            whole = whole-is ∙ omega arith;
          })) (λ bytes rest is-read. is-read)

      pub entry_refused : (f : JournalFault) (n : ℕ) → Known b d (λ bytes rest. ReadsEntries can_fail c lane old new bytes (Err f)) → f ≡ Line n
          → IfSome a (λ bytes. journal_said c lane bytes ≡ Err n)
      entry_refused f n known is =
          known_first a d _ _ (known_then a b d _ _ (λ bytes _. journal_said c lane bytes ≡ Err n) first known (λ bytes rest last h reads.
          told_first bytes line rest h.0 (Some from) h.1
          ∙ ap (after_first (Some from)) (subst (λ (x : JournalFault). ReadsEntries can_fail c lane old new rest (Err x)) is reads)))
          (λ bytes rest says. says)

      pub entry_unreadable : (f : JournalFault)
          → Known b d (λ bytes rest. ReadsEntries can_fail c lane old new bytes (Err f)) → f ≡ Unreadable → can_fail ≡ false
          → old.whole ≡ 0 + (length line + 1) → IfSome a (λ bytes. IsTooMuch 0 0 bytes)
      entry_unreadable f known is sure whole =
          known_first a d _ _ (known_then a b d _ _ (λ bytes _. IsTooMuch 0 0 bytes) first known (λ bytes rest last h reads.
          by_cause bytes rest h.0 (subst (λ (x : JournalFault). ReadsEntries can_fail c lane old new rest (Err x)) is reads)))
          (λ bytes rest much. much)
        where
          by_cause : (bytes rest : List ℕ) → BeginsWithLine bytes line rest → (can_fail ≡ true) ⊎ IsTooMuch 1 old.whole rest
              → IsTooMuch 0 0 bytes
          by_cause bytes rest begins (inl failed) = absurd (true≢false (sym failed ∙ sure))
          by_cause bytes rest begins (inr much) = too_much_whole bytes line rest old.whole begins whole much

-- ---- a call's result

fault_of : {T : Type 0} → Result T JournalFault → JournalFault
fault_of (Ok x) = Unreadable
fault_of (Err f) = f

pub same_fault : {T : Type 0} (r : Result T JournalFault) (f g : JournalFault) → r ≡ Err f → r ≡ Err g → f ≡ g
unfolding fault_of
same_fault r f g is other = ap fault_of (sym is ∙ other)

pub held_none : (o : Option (List ℕ)) → prepend_known [] o ≡ o
held_none None = refl
held_none (Some x) = refl
