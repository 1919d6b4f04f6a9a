-- What is read of a journal that was written to.
use Rattle.std.proofs.Common.{◌≡◌, ℕ, ◌⊎◌, inl, inr, List, [], ◌∷◌, ◌++◌, Option, Some, None, IfSome, refl, sym, ap, ◌∙◌, subst, append_assoc, append-nil}
use Rattle.std.specs.Io.KnownBytes.{Appends}
use Rattle.std.specs.List.{AllByRecursion}
use mathlib.Core.List.{IsPrefix}
use Rattle.due_model.specs.declared.config.Config.{Config}
use Rattle.due_model.specs.declared.config.LaneId.{LaneId}
use Rattle.journal_text.specs.declared.entry.Entry.{Entry}
use Rattle.journal_text.specs.Cuts.{CutIsRead, EachCutIsRead, IsEntryBack, IsWritten, journal_text}
use Rattle.journal_text.specs.Entries.{body, first_line}
use Rattle.journal_text.specs.Lines.{text}
use Rattle.journal_file.specs.Kills.{EachKillIsRead}
use Rattle.journal_file.specs.Text.{IsPiece, Text, Wrote}
use Rattle.journal_file.specs.TextLaws.{each-append, text-append}

-- more lines after a journal
longer : (c : Config) (lane : LaneId) (from : ℕ) (before more : List Entry)
    → journal_text c lane from (before ++ more) ≡ journal_text c lane from before ++ text (body c) more
longer c lane from before more =
    ap (λ bs. (first_line c lane from ++ 10 ∷ []) ++ bs) (text-append (body c) before more)
    ∙ sym (append_assoc (first_line c lane from ++ 10 ∷ []) (text (body c) before) (text (body c) more))

prefix_of : (xs ys zs : List ℕ) → IsPrefix xs ys → IsPrefix ys zs → IsPrefix xs zs
prefix_of xs ys zs f g = (f.0 ++ g.0, sym (append_assoc xs f.0 g.0) ∙ ap (λ x. x ++ g.0) f.1 ∙ g.1)

one_text : (c : Config) (e : Entry) → text (body c) (e ∷ []) ≡ body c e ++ 10 ∷ []
one_text c e = append-nil (body c e ++ 10 ∷ [])

module _ (cuts : EachCutIsRead) {W : Type 0} (contents : W → Option (List ℕ)) (a b : Text W) (from : ℕ) (before entries : List Entry)
    (was : IsWritten a.config a.lane from before) (wrote : Wrote contents a entries b) where
  more : (last : List Entry) → AllByRecursion (IsEntryBack a.config a.lane) last → IsWritten a.config a.lane from (before ++ entries ++ last)
  more last each = record {
    first = was.first;
    each = each-append (IsEntryBack a.config a.lane) (before ++ entries) last
        (each-append (IsEntryBack a.config a.lane) before entries was.each wrote.each) each;
  }

  all_text : (last : List Entry) → journal_text a.config a.lane from (before ++ entries ++ last)
      ≡ journal_text a.config a.lane from before ++ (text (body a.config) entries ++ text (body a.config) last)
  all_text last =
      longer a.config a.lane from (before ++ entries) last
      ∙ ap (λ bs. bs ++ text (body a.config) last) (longer a.config a.lane from before entries)
      ∙ append_assoc (journal_text a.config a.lane from before) (text (body a.config) entries) (text (body a.config) last)

  -- what is held is a front of a journal with these last entries
  held_of : (bytes : List ℕ) → bytes ≡ journal_text a.config a.lane from before ++ (text (body a.config) entries ++ wrote.piece)
      → (wrote.piece ≡ []) ⊎ IsPiece a.config a.lane wrote.piece
      → (last : List Entry) × AllByRecursion (IsEntryBack a.config a.lane) last
      × IsPrefix bytes (journal_text a.config a.lane from (before ++ entries ++ last))
  held_of bytes is (inl none) = (
    [],
    tt,
    (
      [],
      append-nil bytes ∙ is
          ∙ ap (λ p. journal_text a.config a.lane from before ++ (text (body a.config) entries ++ p)) none
          ∙ sym (all_text []),
    ),
  )
  held_of bytes is (inr piece) = (
    piece.0 ∷ [],
    (piece.1, tt),
    (
      piece.2.0,
      ap (λ bs. bs ++ piece.2.0) is
          ∙ append_assoc (journal_text a.config a.lane from before) (text (body a.config) entries ++ wrote.piece) piece.2.0
          ∙ ap (λ bs. journal_text a.config a.lane from before ++ bs)
          (append_assoc (text (body a.config) entries) wrote.piece piece.2.0
          ∙ ap (λ bs. text (body a.config) entries ++ bs) (piece.2.1 ∙ sym (one_text a.config piece.0)))
          ∙ sym (all_text (piece.0 ∷ [])),
    ),
  )

  kill_at : (bytes : List ℕ) → bytes ≡ journal_text a.config a.lane from before ++ (text (body a.config) entries ++ wrote.piece)
      → (cut : List ℕ) → IsPrefix cut bytes
      → (last : List Entry) × CutIsRead a.config a.lane from (before ++ entries ++ last) cut
  kill_at bytes is cut front =
      let h = held_of bytes is wrote.is_piece in (
        h.0,
        cuts a.config a.lane from (before ++ entries ++ h.0) cut (more h.0 h.1)
            (prefix_of cut bytes (journal_text a.config a.lane from (before ++ entries ++ h.0)) front h.2),
      )

  kill_known : (held : Option (List ℕ)) → Appends (Some (journal_text a.config a.lane from before)) held (text (body a.config) entries ++ wrote.piece)
      → IfSome held (λ bytes. (cut : List ℕ) → IsPrefix cut bytes
      → (last : List Entry) × CutIsRead a.config a.lane from (before ++ entries ++ last) cut)
  kill_known None h = tt
  kill_known (Some bytes) h = kill_at bytes h

pub each_kill : EachCutIsRead → EachKillIsRead
each_kill cuts a b from before entries was known wrote =
    kill_known cuts (λ held. held) a b from before entries was wrote b.writer
    (subst (λ (o : Option (List ℕ)). Appends o b.writer (text (body a.config) entries ++ wrote.piece)) known wrote.bytes)
