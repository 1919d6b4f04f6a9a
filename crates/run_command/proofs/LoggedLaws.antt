-- Lines of a decider's log that are written one by one, and how a run with logs ended.
use Rattle.std.proofs.Common.{◌≡◌, ◌⊎◌, inl, inr, ℕ, Bool, false, List, [], ◌++◌, Option, Result, Ok, Err, IfErr, IfOk, IsErrOf, IsOk, OnOk, ap, sym, subst, ◌∙◌}
use Rattle.std.proofs.lemmas.List.{append-nil}
use Rattle.engine.specs.declared.run_end.RunEnd.{RunEnd}
use Rattle.command_output.specs.declared.outcome.CommandFault.{CommandFault}
use Rattle.command_output.specs.declared.outcome.CommandFault.TheVariants.{NoMemory, Output}
use Rattle.command_output.specs.declared.outcome.Ending.{Ending}
use Rattle.written.specs.claims.Written.{Leaves, Writes, WritesFront}
use Rattle.written.specs.WrittenLaws.{front_less, leaves_less}
use Rattle.run_command.specs.claims.Report.{ending_of}

-- where nothing was held back before, and nothing is now, all was written
pub all_written : (old new : Option (List ℕ)) (held text left : List ℕ) → held ≡ [] → left ≡ [] → Leaves old new (held ++ text) left → Writes old new text
all_written old new held text left none rest h =
    let whole : Leaves old new text [] = subst (λ (ls : List ℕ). Leaves old new text ls) rest (subst (λ (hs : List ℕ). Leaves old new (hs ++ text) left) none h) in
    subst (λ (bs : List ℕ). Writes old new bs) (sym (append-nil whole.0) ∙ whole.2) whole.1

-- what is made after nothing and then flushed is written
pub made_flushed : {E : Type 0} (old mid new : Option (List ℕ)) (held text left : List ℕ) (done : Result Unit E) → held ≡ [] → Leaves old mid (held ++ text) left → OnOk done (Leaves mid new left []) → OnOk done (Writes old new text)
made_flushed old mid new held text left (Ok x) none made flushed =
    let whole = leaves_less old mid new text left [] (subst (λ (hs : List ℕ). Leaves old mid (hs ++ text) left) none made) flushed in
    subst (λ (bs : List ℕ). Writes old new bs) (sym (append-nil whole.0) ∙ whole.2) whole.1
made_flushed old mid new held text left (Err e) none made flushed = tt

-- what is made and then flushed is written, and nothing is left
pub made_more : {E : Type 0} (old mid new : Option (List ℕ)) (text left rest : List ℕ) (done : Result Unit E) → Leaves old mid text left → OnOk done (Leaves mid new left []) → rest ≡ [] → OnOk done (Leaves old new text rest)
made_more old mid new text left rest (Ok x) made flushed empty = subst (λ (ls : List ℕ). Leaves old new text ls) (sym empty) (leaves_less old mid new text left [] made flushed)
made_more old mid new text left rest (Err e) made flushed empty = tt

pub made_cut : (old mid new : Option (List ℕ)) (held text left : List ℕ) → held ≡ [] → Leaves old mid (held ++ text) left → WritesFront mid new left → WritesFront old new text
made_cut old mid new held text left none made front =
    front_less old mid new text left (subst (λ (hs : List ℕ). Leaves old mid (hs ++ text) left) none made) front

-- where it ended the ends of its lanes were written
pub if_ended : {E : Type 0} (run wrote : RunEnd → Type 0) (end : RunEnd) (told : Result Unit E) (result : Result Ending CommandFault) → run end → OnOk told (wrote end)
    → IfOk result (λ ending. (end.memory ≡ false) × (ending ≡ ending_of end) × IsOk told)
    → IfOk result (λ ending. (e : RunEnd) × run e × (e.memory ≡ false) × (ending ≡ ending_of e) × wrote e)
if_ended run wrote end told (Err fault) ran written ended = tt
if_ended run wrote end (Ok x) (Ok ending) ran written ended = (end, ran, ended.0, ended.1, written)
if_ended run wrote end (Err e) (Ok ending) ran written ended = let never = ended.2 in absurd (cc)

-- where it was given up a front of them was
pub if_cut : (run front : RunEnd → Type 0) (same : Type 0) (end : RunEnd) (result : Result Ending CommandFault) → run end → (IsErrOf result Output → end.memory ≡ false) → front end
    → IfErr result (λ fault. ((e : RunEnd) × run e × (fault ≡ Output → e.memory ≡ false) × front e) ⊎ ((fault ≡ NoMemory) × same))
if_cut run front same end (Ok ending) ran memory wrote = tt
if_cut run front same end (Err fault) ran memory wrote = inl (end, ran, (λ (is : fault ≡ Output). memory (ap (λ (f : CommandFault). Err f) is)), wrote)
