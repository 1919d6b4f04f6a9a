-- Laws of the lines of entries, written some at a time.
use Rattle.std.proofs.Common.{◌≡◌, ℕ, List, [], ◌∷◌, ◌++◌, Option, None, Some, refl, sym, ap, subst, ◌∙◌, append_assoc, arith}
use Rattle.std.proofs.lemmas.List.{append-nil}
use Rattle.std.proofs.lemmas.Grind.{common_steps, flat_map-append}
use Rattle.due_model.specs.declared.config.Config.{Config}
use Rattle.due_model.specs.declared.config.ContactId.{ContactId}
use Rattle.due_model.specs.declared.notice.Suppression.{Suppression}
use Rattle.messages.specs.declared.entries.Entry.{Entry}
use Rattle.messages.specs.declared.entries.Entry.TheVariants.{Sent, Withheld}
use Rattle.notice_text.specs.claims.Names.{filter_name}
use Rattle.command_output.specs.claims.Fields.{field}
use Rattle.command_output.specs.LineHead.{contact_field, entry_end, entry_head, entry_letter, head_text, number_field, suppression_letter, suppression_number}
use Rattle.command_output.specs.claims.ReportLine.{head_fields, suppression_line_of}
use Rattle.written.specs.claims.Written.{Leaves, WritesFront}
use Rattle.written.specs.WrittenLaws.{front_begun, front_on, leaves_all, leaves_on}
use Rattle.command_output.specs.claims.OutputLine.{entries_text, entry_text}

-- ---- the parts of a line

parts_stopped : (c : Config) (s : Suppression) (contact : Option ContactId)
    → suppression_line_of c s contact ≡ suppression_letter contact ∷ (head_fields c s.event s.moment s.object.0 s.kind s.state ++ number_field (suppression_number s contact))
    ++ (contact_field c contact ++ field (filter_name s.filter) ++ 10 ∷ [])
parts_stopped c s None = grind (arith, common_steps)
parts_stopped c s (Some contact) = grind (arith, common_steps)

pub entry_parts : (c : Config) (entry : Entry) → entry_text c entry ≡ entry_letter entry ∷ head_text c (entry_head entry) ++ entry_end c entry
entry_parts c (Sent n) = grind (arith, common_steps)
entry_parts c (Withheld s) = parts_stopped c s s.contact

-- ---- entries that are written some at a time

-- of these entries some were written, and the rest is left
pub record HasWritten (c : Config) (old new : Option (List ℕ)) (held : List ℕ) (entries rest : List Entry) (held' : List ℕ) : Type 0 where
  pub done : List Entry
  pub all : entries ≡ done ++ rest
  pub leaves : Leaves old new (held ++ entries_text c done) held'

pub written_none : (c : Config) (known : Option (List ℕ)) (held : List ℕ) (entries : List Entry) → HasWritten c known known held entries entries held
written_none c known held entries = record {
  done = [];
  all = refl;
  leaves = subst (λ all. Leaves known known all held) (sym (append-nil held)) (leaves_all known held);
}

texts : (c : Config) (held : List ℕ) (xs ys : List Entry) → (held ++ entries_text c xs) ++ entries_text c ys ≡ held ++ entries_text c (xs ++ ys)
texts c held xs ys = append_assoc held (entries_text c xs) (entries_text c ys) ∙ ap (λ text. held ++ text) (sym (flat_map-append (entry_text c) xs ys))

pub written_more : (c : Config) (old mid new : Option (List ℕ)) (held : List ℕ) (entries rest : List Entry) (now : List ℕ) (next later : List Entry) (held' : List ℕ)
    → HasWritten c old mid held entries rest now → rest ≡ next ++ later → Leaves mid new (now ++ entries_text c next) held'
    → HasWritten c old new held entries later held'
written_more c old mid new held entries rest now next later held' h e step = record {
  done = h.done ++ next;
  all = h.all ∙ ap (λ (xs : List Entry). h.done ++ xs) e ∙ sym (append_assoc h.done next later);
  leaves = subst (λ all. Leaves old new all held') (texts c held h.done next)
      (leaves_on old mid new (held ++ entries_text c h.done) now (entries_text c next) held' h.leaves step);
}

pub written_all : (c : Config) (old new : Option (List ℕ)) (held : List ℕ) (entries rest : List Entry) (held' : List ℕ)
    → HasWritten c old new held entries rest held' → rest ≡ [] → Leaves old new (held ++ entries_text c entries) held'
written_all c old new held entries rest held' h e =
    let all : entries ≡ h.done = h.all ∙ ap (λ (xs : List Entry). h.done ++ xs) e ∙ append-nil h.done in
    subst (λ (xs : List Entry). Leaves old new (held ++ entries_text c xs) held') (sym all) h.leaves

pub written_front : (c : Config) (old mid new : Option (List ℕ)) (held : List ℕ) (entries rest : List Entry) (now : List ℕ) (next later : List Entry)
    → HasWritten c old mid held entries rest now → rest ≡ next ++ later → WritesFront mid new (now ++ entries_text c next)
    → WritesFront old new (held ++ entries_text c entries)
written_front c old mid new held entries rest now next later h e step =
    let all : entries ≡ (h.done ++ next) ++ later = h.all ∙ ap (λ (xs : List Entry). h.done ++ xs) e ∙ sym (append_assoc h.done next later) in
    let some : WritesFront old new (held ++ entries_text c (h.done ++ next)) =
    subst (λ all. WritesFront old new all) (texts c held h.done next)
    (front_on old mid new (held ++ entries_text c h.done) now (entries_text c next) h.leaves step) in
    let whole : entries_text c (h.done ++ next) ++ entries_text c later ≡ entries_text c entries =
    sym (flat_map-append (entry_text c) (h.done ++ next) later) ∙ ap (entries_text c) (sym all) in
    subst (λ text. WritesFront old new (held ++ text)) whole
    (front_begun old new held (entries_text c (h.done ++ next)) (entries_text c later) some)
