-- The parts of a line, joined.
use Rattle.std.proofs.Common.{◌≡◌, ℕ, List, ◌++◌, Result, Ok, Err, IfOk, sym, ap, ◌∙◌}
use Rattle.due_model.specs.declared.notice.Notice.{Notice}
use Rattle.steps.specs.declared.line.LineParts.{LineParts}
use Rattle.steps.specs.claims.Lanes.{about}
use Rattle.world_steps.specs.Views.{joined}
use Rattle.world_steps.proofs.StateLaws.{about-append}

-- what is joined of an object, part by part
about-five : (o : ℕ) (t h u q x : List Notice)
    → about o ((((t ++ h) ++ u) ++ q) ++ x) ≡ (((about o t ++ about o h) ++ about o u) ++ about o q) ++ about o x
about-five o t h u q x =
    about-append o (((t ++ h) ++ u) ++ q) x
    ∙ ap (λ (v : List Notice). v ++ about o x) (about-append o ((t ++ h) ++ u) q
    ∙ ap (λ (v : List Notice). v ++ about o q) (about-append o (t ++ h) u ∙ ap (λ (v : List Notice). v ++ about o u) (about-append o t h)))

-- parts that are each what is about an object are, joined, what is about it
pub joined_law : (o : ℕ) (t h u q x : List Notice) (parts : LineParts) → parts.taken.items ≡ about o t → parts.hand.items ≡ about o h
    → parts.undelivered.items ≡ about o u → parts.queue.items ≡ about o q → parts.outbox.items ≡ about o x
    → joined parts ≡ about o ((((t ++ h) ++ u) ++ q) ++ x)
joined_law o t h u q x parts is_t is_h is_u is_q is_x =
    ap (λ (v : List Notice). (((v ++ parts.hand.items) ++ parts.undelivered.items) ++ parts.queue.items) ++ parts.outbox.items) is_t
    ∙ ap (λ (v : List Notice). (((about o t ++ v) ++ parts.undelivered.items) ++ parts.queue.items) ++ parts.outbox.items) is_h
    ∙ ap (λ (v : List Notice). (((about o t ++ about o h) ++ v) ++ parts.queue.items) ++ parts.outbox.items) is_u
    ∙ ap (λ (v : List Notice). (((about o t ++ about o h) ++ about o u) ++ v) ++ parts.outbox.items) is_q
    ∙ ap (λ (v : List Notice). (((about o t ++ about o h) ++ about o u) ++ about o q) ++ v) is_x
    ∙ sym (about-five o t h u q x)

-- five facts of what a call gives make a sixth
pub from_five : {T E : Type 0} (r : Result T E) (P1 P2 P3 P4 P5 Q : T → Type 0) → ((x : T) → P1 x → P2 x → P3 x → P4 x → P5 x → Q x)
    → IfOk r P1 → IfOk r P2 → IfOk r P3 → IfOk r P4 → IfOk r P5 → IfOk r Q
from_five (Ok x) P1 P2 P3 P4 P5 Q all p1 p2 p3 p4 p5 = all x p1 p2 p3 p4 p5
from_five (Err e) P1 P2 P3 P4 P5 Q all p1 p2 p3 p4 p5 = tt
