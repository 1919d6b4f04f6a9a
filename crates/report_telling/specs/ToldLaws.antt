-- Laws of what is told of some lines.
use Rattle.std.proofs.Common.{◌≡◌, ℕ, ◌+◌, List, [], ◌∷◌, ◌++◌, refl, sym, ap, ◌∙◌, append_assoc}
use Rattle.std.proofs.lemmas.List.{append-nil}
use Rattle.line_forms.specs.declared.report_line.ReportLine.{ReportLine}
use Rattle.report_telling.specs.Told.{Form, after_all, told_all}

pub told-append : {T : Type 0} (form : Form T) (t : T) (xs ys : List ReportLine) → told_all form t (xs ++ ys) ≡ told_all form t xs ++ told_all form (after_all form t xs) ys
told-append form t [] ys = refl
told-append form t (x ∷ xs) ys =
    ap (λ (text : List ℕ). form.told t x ++ text) (told-append form (form.after t x) xs ys)
    ∙ sym (append_assoc (form.told t x) (told_all form (form.after t x) xs) (told_all form (after_all form (form.after t x) xs) ys))

pub after-append : {T : Type 0} (form : Form T) (t : T) (xs ys : List ReportLine) → after_all form t (xs ++ ys) ≡ after_all form (after_all form t xs) ys
after-append form t [] ys = refl
after-append form t (x ∷ xs) ys = after-append form (form.after t x) xs ys

-- of one line
pub told-one : {T : Type 0} (form : Form T) (t : T) (line : ReportLine) → form.told t line ≡ told_all form t (line ∷ [])
told-one form t line = sym (append-nil (form.told t line))
