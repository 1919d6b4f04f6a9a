-- The lines of a trace beside those of refused feed lines, as bytes.
use Rattle.std.specs.Prelude.{ℕ, List, [], ◌∷◌, ◌++◌, codes, decimal}
use Rattle.due_model.specs.declared.config.Config.{Config}
use Rattle.due_model.specs.declared.notice.Notice.{Notice}
use Rattle.command_output.specs.declared.trace_line.LaneLine.{LaneLine}
use Rattle.command_output.specs.declared.trace_line.StepRefusal.{StepRefusal}
use Rattle.command_output.specs.declared.trace_line.StepRefusal.TheVariants.{BadStep, NotEnabled}
use Rattle.command_output.specs.claims.Fields.{field, notices_text}
use Rattle.notice_text.specs.claims.Texts.{lane_text, object_text}

abbrev pub refusal_name : StepRefusal → List ℕ
refusal_name BadStep = codes "BadStep"
refusal_name NotEnabled = codes "NotEnabled"

-- a refused step line: E;line;refusal
abbrev pub refused_step_line : ℕ → StepRefusal → List ℕ
refused_step_line line refusal =
    codes "E" ++ field (decimal line) ++ field (refusal_name refusal) ++ 10 ∷ []

-- five lists of notices
unfoldable pub list_fields : Config → (taken hand undelivered queue outbox : List Notice) → List ℕ
list_fields c taken hand undelivered queue outbox =
    field (notices_text c taken) ++ field (notices_text c hand)
    ++ field (notices_text c undelivered) ++ field (notices_text c queue)
    ++ field (notices_text c outbox)

-- what lane l holds of object o: L;lane;object;taken;hand;undelivered;queue;outbox
abbrev pub held_line : Config → (l o : ℕ)
    → (taken hand undelivered queue outbox : List Notice) → List ℕ
held_line c l o taken hand undelivered queue outbox =
    codes "L" ++ field (lane_text c l) ++ field (object_text c o)
    ++ list_fields c taken hand undelivered queue outbox ++ 10 ∷ []

abbrev pub lane_line : Config → LaneLine → List ℕ
lane_line c held =
    held_line c held.lane.0 held.object.0 held.taken.now held.hand.now held.undelivered.now
    held.queue.now held.outbox.now
