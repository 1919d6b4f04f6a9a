-- How what is written follows what was.
use Rattle.std.proofs.Common.{◌≡◌, ℕ, ◌⊎◌, inl, inr, Bool, true, false, List, [], ◌∷◌, ◌++◌, Option, Some, None, flat_map, refl, sym, ap, ◌∙◌, subst, append_assoc, append-nil}
use Rattle.std.specs.Io.KnownBytes.{Appends}
use Rattle.std.specs.List.{AllByRecursion}
use Rattle.std.proofs.lemmas.Bool.{true≢false}
use Rattle.due_model.specs.declared.config.Config.{Config}
use Rattle.due_model.specs.declared.config.LaneId.{LaneId}
use Rattle.written.specs.WrittenLaws.{appends_more, appends_none}
use Rattle.journal_text.specs.declared.entry.Entry.{Entry}
use Rattle.journal_text.specs.Cuts.{IsEntryBack}
use Rattle.journal_text.specs.Entries.{body}
use Rattle.journal_text.specs.Lines.{text}
use Rattle.journal_file.specs.Text.{IsPiece, Text, Wrote}

pub text-append : (f : Entry → List ℕ) (one two : List Entry) → text f (one ++ two) ≡ text f one ++ text f two
text-append f [] two = refl
text-append f (e ∷ one) two =
    ap (λ (bs : List ℕ). (f e ++ 10 ∷ []) ++ bs) (text-append f one two)
    ∙ sym (append_assoc (f e ++ 10 ∷ []) (text f one) (text f two))

pub each-append : (P : Entry → Type 0) (one two : List Entry) → AllByRecursion P one → AllByRecursion P two → AllByRecursion P (one ++ two)
each-append P [] two h k = k
each-append P (e ∷ one) two h k = (h.0, each-append P one two h.1 k)

module _ {W : Type 0} (contents : W → Option (List ℕ)) where
  pub wrote_none : (s : Text W) → Wrote contents s [] s
  wrote_none s = record {
    config = refl;
    lane = refl;
    each = tt;
    piece = [];
    bytes = appends_none (contents s.writer);
    is_piece = inl refl;
    whole = λ _. refl;
    silent = λ is. (refl, refl, is);
  }

  same_piece : (a b : Text W) (piece : List ℕ) → b.config ≡ a.config → b.lane ≡ a.lane
      → (piece ≡ []) ⊎ IsPiece b.config b.lane piece → (piece ≡ []) ⊎ IsPiece a.config a.lane piece
  same_piece a b piece config lane h =
      subst (λ (l : LaneId). (piece ≡ []) ⊎ IsPiece a.config l piece) lane
      (subst (λ (c : Config). (piece ≡ []) ⊎ IsPiece c b.lane piece) config h)

  same_each : (a b : Text W) (entries : List Entry) → b.config ≡ a.config → b.lane ≡ a.lane
      → AllByRecursion (IsEntryBack b.config b.lane) entries → AllByRecursion (IsEntryBack a.config a.lane) entries
  same_each a b entries config lane h =
      subst (λ (l : LaneId). AllByRecursion (IsEntryBack a.config l) entries) lane
      (subst (λ (c : Config). AllByRecursion (IsEntryBack c b.lane) entries) config h)

  pub wrote_more : (a b d : Text W) (one two : List Entry) → Wrote contents a one b → Wrote contents b two d
      → Wrote contents a (one ++ two) d
  wrote_more a b d one two first next = by_break b.is_broken refl
    where
      by_break : (broken : Bool) → b.is_broken ≡ broken → Wrote contents a (one ++ two) d
      by_break true is =
          let still = next.silent is in
          let entries-are : one ++ two ≡ one = ap (λ es. one ++ es) still.0 ∙ append-nil one in
          let bytes-are : text (body b.config) two ++ next.piece ≡ [] =
          ap (λ es. text (body b.config) es ++ next.piece) still.0 ∙ still.1 in
          record {
            config = next.config ∙ first.config;
            lane = next.lane ∙ first.lane;
            each = subst (λ (es : List Entry). AllByRecursion (IsEntryBack a.config a.lane) es) (sym entries-are) first.each;
            piece = first.piece;
            bytes = subst (λ (bs : List ℕ). Appends (contents a.writer) (contents d.writer) bs)
                (append-nil (text (body a.config) one ++ first.piece) ∙ ap (λ es. text (body a.config) es ++ first.piece) (sym entries-are))
                (appends_more (contents a.writer) (contents b.writer) (contents d.writer) (text (body a.config) one ++ first.piece) []
                first.bytes (subst (λ (bs : List ℕ). Appends (contents b.writer) (contents d.writer) bs) bytes-are next.bytes));
            is_piece = first.is_piece;
            whole = λ no. absurd (true≢false (sym still.2 ∙ no));
            silent = λ was. let before = first.silent was in (entries-are ∙ before.0, before.1, still.2);
          }
      by_break false is =
          let none : first.piece ≡ [] = first.whole is in
          record {
            config = next.config ∙ first.config;
            lane = next.lane ∙ first.lane;
            each = each-append (IsEntryBack a.config a.lane) one two first.each (same_each a b two first.config first.lane next.each);
            piece = next.piece;
            bytes = subst (λ (bs : List ℕ). Appends (contents a.writer) (contents d.writer) bs)
                (ap (λ p. (text (body a.config) one ++ p) ++ (text (body b.config) two ++ next.piece)) none
                ∙ ap (λ bs. bs ++ (text (body b.config) two ++ next.piece)) (append-nil (text (body a.config) one))
                ∙ ap (λ (c : Config). text (body a.config) one ++ (text (body c) two ++ next.piece)) first.config
                ∙ sym (append_assoc (text (body a.config) one) (text (body a.config) two) next.piece)
                ∙ ap (λ bs. bs ++ next.piece) (sym (text-append (body a.config) one two)))
                (appends_more (contents a.writer) (contents b.writer) (contents d.writer) (text (body a.config) one ++ first.piece)
                (text (body b.config) two ++ next.piece) first.bytes next.bytes);
            is_piece = same_piece a b next.piece first.config first.lane next.is_piece;
            whole = next.whole;
            silent = λ was. absurd (true≢false (sym (first.silent was).2 ∙ is));
          }
