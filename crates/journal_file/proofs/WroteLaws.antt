-- What one write makes of a journal.
use Rattle.std.proofs.Common.{◌≡◌, ℕ, ◌⊎◌, inl, inr, Bool, true, false, List, [], ◌∷◌, ◌++◌, Option, Some, None, refl, sym, ap, ◌∙◌, subst, append-nil}
use Rattle.std.specs.Io.KnownBytes.{Appends}
use Rattle.std.proofs.lemmas.Bool.{true≢false}
use Rattle.written.specs.claims.Written.{WritesFront}
use Rattle.written.specs.WrittenLaws.{appends_none}
use Rattle.journal_text.specs.declared.entry.Entry.{Entry}
use Rattle.journal_text.specs.Cuts.{IsEntryBack}
use Rattle.journal_text.specs.Entries.{body}
use Rattle.journal_text.specs.Lines.{text}
use Rattle.journal_file.specs.Text.{IsPiece, Text, Wrote}

module _ {W : Type 0} (contents : W → Option (List ℕ)) (a b : Text W) (config : b.config ≡ a.config) (lane : b.lane ≡ a.lane)
    (open-was : a.is_broken ≡ false) where
  -- the line of an entry
  pub wrote_line : (e : Entry) → IsEntryBack a.config a.lane e → (line : List ℕ) → line ≡ body a.config e ++ 10 ∷ []
      → Appends (contents a.writer) (contents b.writer) line → Wrote contents a (e ∷ []) b
  wrote_line e back line is bytes = record {
    config = config;
    lane = lane;
    each = (back, tt);
    piece = [];
    bytes = subst (λ (bs : List ℕ). Appends (contents a.writer) (contents b.writer) bs)
        (is ∙ sym (append-nil (body a.config e ++ 10 ∷ [])) ∙ sym (append-nil (text (body a.config) (e ∷ [])))) bytes;
    is_piece = inl refl;
    whole = λ _. refl;
    silent = λ was. absurd (true≢false (sym was ∙ open-was));
  }

  -- a front of it
  pub wrote_front : (e : Entry) → IsEntryBack a.config a.lane e → (line : List ℕ) → line ≡ body a.config e ++ 10 ∷ []
      → WritesFront (contents a.writer) (contents b.writer) line → b.is_broken ≡ true → Wrote contents a [] b
  wrote_front e back line is front broken = record {
    config = config;
    lane = lane;
    each = tt;
    piece = front.1.0;
    bytes = front.1.1;
    is_piece = inr (e, back, (front.0, front.1.2 ∙ is));
    whole = λ no. absurd (true≢false (sym broken ∙ no));
    silent = λ was. absurd (true≢false (sym was ∙ open-was));
  }

  -- nothing
  pub wrote_nothing : b.writer ≡ a.writer → b.is_broken ≡ true → Wrote contents a [] b
  wrote_nothing same broken = record {
    config = config;
    lane = lane;
    each = tt;
    piece = [];
    bytes = subst (λ (w : W). Appends (contents a.writer) (contents w) []) (sym same) (appends_none (contents a.writer));
    is_piece = inl refl;
    whole = λ _. refl;
    silent = λ was. absurd (true≢false (sym was ∙ open-was));
  }
