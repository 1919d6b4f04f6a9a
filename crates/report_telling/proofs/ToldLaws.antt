-- Laws of what a teller writes.
use Rattle.std.proofs.Common.{◌≡◌, ℕ, suc, ◌+◌, ◌<◌, List, [], ◌∷◌, ◌++◌, Option, arith, drop, drop-cons, get_or, length, map, refl, sym, ap, subst, ◌∙◌, append_assoc}
use Rattle.std.proofs.lemmas.List.{append-nil}
use Rattle.written.specs.claims.Written.{Leaves, WritesFront}
use Rattle.written.specs.WrittenLaws.{front_begun, front_on, leaves_all, leaves_on}
use Rattle.messages.specs.declared.entries.Entry.{Entry}
use Rattle.line_forms.specs.declared.report_line.ReportLine.{ReportLine}
use Rattle.line_forms.specs.declared.report_line.ReportLine.TheVariants.{Decided}
use Rattle.report_telling.specs.Told.{Form, after_all, told_all}
use Rattle.report_telling.specs.ToldLaws.{after-append, told-append, told-one}

-- ---- lines that are told one by one

-- of these lines some were told, and the rest is left
pub record HasTold {T : Type 0} (form : Form T) (t : T) (old new : Option (List ℕ)) (held : List ℕ) (lines rest : List ReportLine) (t' : T) (held' : List ℕ) : Type 0 where
  pub done : List ReportLine
  pub all : lines ≡ done ++ rest
  pub teller : t' ≡ after_all form t done
  pub leaves : Leaves old new (held ++ told_all form t done) held'

pub told_none : {T : Type 0} (form : Form T) (t : T) (known : Option (List ℕ)) (held : List ℕ) (lines : List ReportLine) → HasTold form t known known held lines lines t held
told_none form t known held lines = record {
  done = [];
  all = refl;
  teller = refl;
  leaves = subst (λ all. Leaves known known all held) (sym (append-nil held)) (leaves_all known held);
}

texts : {T : Type 0} (form : Form T) (t : T) (held : List ℕ) (xs : List ReportLine) (y : ReportLine)
    → (held ++ told_all form t xs) ++ form.told (after_all form t xs) y ≡ held ++ told_all form t (xs ++ y ∷ [])
texts form t held xs y =
    append_assoc held (told_all form t xs) (form.told (after_all form t xs) y)
    ∙ ap (λ (text : List ℕ). held ++ (told_all form t xs ++ text)) (told-one form (after_all form t xs) y)
    ∙ ap (λ (text : List ℕ). held ++ text) (sym (told-append form t xs (y ∷ [])))

pub told_more : {T : Type 0} (form : Form T) (t : T) (old mid new : Option (List ℕ)) (held : List ℕ) (lines rest : List ReportLine) (now now' : T) (held' : List ℕ) (line : ReportLine) (later : List ReportLine) (held'' : List ℕ)
    → HasTold form t old mid held lines rest now held' → rest ≡ line ∷ later → Leaves mid new (held' ++ form.told now line) held'' → now' ≡ form.after now line
    → HasTold form t old new held lines later now' held''
told_more form t old mid new held lines rest now now' held' line later held'' h e step is = record {
  done = h.done ++ line ∷ [];
  all = h.all ∙ ap (λ (xs : List ReportLine). h.done ++ xs) e ∙ sym (append_assoc h.done (line ∷ []) later);
  teller = is ∙ ap (λ x. form.after x line) h.teller ∙ sym (after-append form t h.done (line ∷ []));
  leaves =
      let step' : Leaves mid new (held' ++ form.told (after_all form t h.done) line) held'' = subst (λ x. Leaves mid new (held' ++ form.told x line) held'') h.teller step in
      subst (λ all. Leaves old new all held'') (texts form t held h.done line)
      (leaves_on old mid new (held ++ told_all form t h.done) held' (form.told (after_all form t h.done) line) held'' h.leaves step');
}

pub told_whole : {T : Type 0} (form : Form T) (t : T) (old new : Option (List ℕ)) (held : List ℕ) (lines rest : List ReportLine) (now : T) (held' : List ℕ)
    → HasTold form t old new held lines rest now held' → rest ≡ [] → Leaves old new (held ++ told_all form t lines) held' × (now ≡ after_all form t lines)
told_whole form t old new held lines rest now held' h e =
    let is : h.done ≡ lines = sym (append-nil h.done) ∙ ap (λ (xs : List ReportLine). h.done ++ xs) (sym e) ∙ sym h.all in (
      subst (λ xs. Leaves old new (held ++ told_all form t xs) held') is h.leaves,
      h.teller ∙ ap (λ (xs : List ReportLine). after_all form t xs) is,
    )

-- the telling of a line broke off
pub told_cut : {T : Type 0} (form : Form T) (t : T) (old mid new : Option (List ℕ)) (held : List ℕ) (lines rest : List ReportLine) (now : T) (held' : List ℕ) (line : ReportLine) (later : List ReportLine)
    → HasTold form t old mid held lines rest now held' → rest ≡ line ∷ later → WritesFront mid new (held' ++ form.told now line)
    → WritesFront old new (held ++ told_all form t lines)
told_cut form t old mid new held lines rest now held' line later h e front =
    let here : WritesFront mid new (held' ++ form.told (after_all form t h.done) line) = subst (λ x. WritesFront mid new (held' ++ form.told x line)) h.teller front in
    let some = front_on old mid new (held ++ told_all form t h.done) held' (form.told (after_all form t h.done) line) h.leaves here in
    let all : (held ++ told_all form t h.done) ++ (form.told (after_all form t h.done) line ++ told_all form (form.after (after_all form t h.done) line) later) ≡ held ++ told_all form t lines =
    append_assoc held (told_all form t h.done) (told_all form (after_all form t h.done) (line ∷ later))
    ∙ ap (λ (text : List ℕ). held ++ text) (sym (told-append form t h.done (line ∷ later)))
    ∙ ap (λ (xs : List ReportLine). held ++ told_all form t (h.done ++ xs)) (sym e)
    ∙ ap (λ (xs : List ReportLine). held ++ told_all form t xs) (sym h.all) in
    subst (λ bytes. WritesFront old new bytes) all
    (front_begun old new (held ++ told_all form t h.done) (form.told (after_all form t h.done) line) (told_all form (form.after (after_all form t h.done) line) later) some)

-- a front of what is told of some lines is one of what is told of them and more
pub part_begun : {T : Type 0} (form : Form T) (t : T) (before after : Option (List ℕ)) (held : List ℕ) (xs ys : List ReportLine)
    → WritesFront before after (held ++ told_all form t xs) → WritesFront before after (held ++ told_all form t (xs ++ ys))
part_begun form t before after held xs ys h =
    subst (λ text. WritesFront before after (held ++ text)) (sym (told-append form t xs ys))
    (front_begun before after held (told_all form t xs) (told_all form (after_all form t xs) ys) h)

-- the lines of the entries from one on
pub mapped : (entries : List Entry) (i : ℕ) (d : Entry) → i < length entries → map Decided (drop i entries) ≡ Decided (get_or entries i d) ∷ map Decided (drop (i + 1) entries)
mapped entries i d h =
    let next : suc i ≡ i + 1 = omega arith in
    ap (λ (xs : List Entry). map Decided xs) (drop-cons entries i d h ∙ ap (λ (j : ℕ). get_or entries i d ∷ drop j entries) next)
