-- Step lines, one after another: what was read, and what becomes of it.
use Rattle.std.proofs.Common.{◌≡◌, ◌<◌, ◌≤◌, ℕ, ◌+◌, Bool, true, false, cond, eqb, nat_lt, List, [], ◌∷◌, ◌++◌, length, flat_map, Option, None, Some, IfNone, IfSome, inl, inr, refl, sym, ap, subst, ◌∙◌, append_assoc, arith, codes}
use Rattle.std.proofs.lemmas.Bool.{cases_lt, ne_eqb}
use Rattle.std.proofs.lemmas.Grind.{flat_map-append}
use Rattle.std.proofs.lemmas.List.{append-nil, length-append}
use Rattle.std.proofs.lemmas.Option.{same_Some}
use Rattle.std.proofs.lemmas.List.Elements.{All-nil, All-push}
use Rattle.due_model.specs.declared.config.Config.{Config}
use Rattle.command_output.specs.claims.TraceLine.{refused_step_line}
use Rattle.command_output.specs.declared.trace_line.StepRefusal.TheVariants.{BadStep}
use Rattle.written.specs.claims.Written.{Leaves, WritesFront}
use Rattle.written.specs.WrittenLaws.{front_less, leaves_on, leaves_nothing}
use Rattle.text_lines.specs.claims.LineReader.{byte_limit, cut_text}
use Rattle.text_lines.specs.LineReader.{line_limit}
use Rattle.text_lines.specs.claims.Lines.{Known}
use Rattle.text_lines.specs.Lines.{BeginsWithLine, IsUnbroken}
use Rattle.steps.specs.declared.step.Step.TheVariants.{Post, Decide, Put, Lane}
use Rattle.steps.specs.declared.step.LaneStep.{LaneStep}
use Rattle.steps.specs.declared.step.LaneStep.TheVariants.{Pick, Settle, Fail, Ask, Replace, Close, Drain}
use Rattle.world_steps.specs.claims.Worlds.{Setup}
use Rattle.trace.specs.declared.step_line.StepLine.{StepLine}
use Rattle.trace.specs.declared.step_line.StepLine.TheVariants.{PostNext, Do}
use Rattle.trace.specs.StepLine.{Spells, word_of}
use Rattle.trace.specs.Run.{RunState, DoesLine, DoesSaid, SaidFront, Says}
use Rattle.event_feed.specs.claims.Feed.{feed_limit}
use Rattle.trace.specs.StepLines.{AreLines, DoesLast, DoesLines, DoesNext, DoesSoFar, NextFront, StepsFront, WritesSteps, last_line, with_newline}

-- ---- bytes that are known

pub known_first : (a b : Option (List ℕ)) (P : List ℕ → List ℕ → Type 0) (Q : List ℕ → Type 0) → ((x y : List ℕ) → P x y → Q x) → Known a b P → IfSome a Q
known_first None b P Q f h = tt
known_first (Some x) None P Q f h = absurd h
known_first (Some x) (Some y) P Q f h = f x y h

pub known_last : (a b : Option (List ℕ)) (P : List ℕ → List ℕ → Type 0) (Q R : List ℕ → Type 0) → ((x y : List ℕ) → P x y → Q y → R x) → Known a b P → IfSome b Q → IfSome a R
known_last None b P Q R f h k = tt
known_last (Some x) None P Q R f h k = absurd h
known_last (Some x) (Some y) P Q R f h k = f x y h k

-- ---- one line

-- what a line says is said in other words
pub does_said : (s : Setup) (n : ℕ) (P Q : StepLine → Type 0) (old new : RunState) (text : List ℕ) → ((said : StepLine) → P said → Q said) → ((said : StepLine) → Q said → P said)
    → DoesSaid s n P old new text → DoesSaid s n Q old new text
does_said s n P Q old new text f g (inl h) = inl ((λ said q. h.0 said (g said q)), h.1, h.2)
does_said s n P Q old new text f g (inr h) = inr (h.0, f h.0 h.1, h.2)

module _ (c : Config) (d : ℕ) (s : Setup) (n : ℕ) (old new : RunState) (text : List ℕ) where
  pub does_short : (line : List ℕ) → length line ≤ line_limit → DoesSaid s n (λ said. Spells c d said line) old new text → DoesLine c d s n line old new text
  does_short line short h = does_said s n (λ said. Spells c d said line) (Says c d line) old new text (λ said p. (p, short)) (λ said q. q.0) h

-- a line that is too long says nothing
pub does_long : (c : Config) (d : ℕ) (s : Setup) (n : ℕ) (old : RunState) (line : List ℕ) → line_limit < length line → DoesLine c d s n line old old (refused_step_line n BadStep)
does_long c d s n old line long = inl ((λ said says. absurd (omega (arith, long, says.1))), refl, refl)

-- the empty line says nothing: what a step is spelled by begins with a word
no_word : (word rest : List ℕ) → 0 < length word → [] ≡ word ++ rest → ⊥
no_word word rest some spelled = let e : 0 ≡ length (word ++ rest) = ap length spelled in absurd (omega (arith, e, some, length-append word rest))

says_nothing : (c : Config) (d : ℕ) (said : StepLine) → Spells c d said [] → ⊥
says_nothing c d PostNext spelled = no_word (codes "post") [] (omega arith) spelled
says_nothing c d (Do (Post event)) spelled = spelled
says_nothing c d (Do (Decide k)) spelled = no_word (codes "decide ") spelled.0 (omega arith) spelled.1
says_nothing c d (Do (Put k lane)) spelled = no_word (codes "put ") (spelled.0 ++ 32 ∷ spelled.1) (omega arith) spelled.2
says_nothing c d (Do (Lane lane step)) spelled = no_word (word_of step) spelled.0 (some step) spelled.1
  where
    some : (step : LaneStep) → 0 < length (word_of step)
    some Pick = omega arith
    some Settle = omega arith
    some Fail = omega arith
    some Ask = omega arith
    some Replace = omega arith
    some Close = omega arith
    some Drain = omega arith

-- the text that is kept of a line that the end of the input cut
pub does_cut : (c : Config) (d : ℕ) (s : Setup) (n : ℕ) (old new : RunState) (text bytes line : List ℕ) → line ≡ cut_text (length bytes) bytes
    → DoesSaid s n (λ said. Spells c d said line) old new text → DoesLine c d s n bytes old new text
does_cut c d s n old new text bytes line is h = elim (cases_lt line_limit (length bytes)) [
  | inl long ↦ does_said s n (λ said. Spells c d said line) (Says c d bytes) old new text
      (λ said p. absurd (says_nothing c d said (subst (λ (l : List ℕ). Spells c d said l) (is ∙ by_test (nat_lt line_limit (length bytes)) (grind (arith, long))) p)))
      (λ said q. absurd (omega (arith, long, q.1))) h
  | inr short ↦ does_short c d s n old new text bytes short
      (subst (λ (l : List ℕ). DoesSaid s n (λ said. Spells c d said l) old new text) (is ∙ by_none (nat_lt line_limit (length bytes)) (grind (arith, short))) h)
]
  where
    by_test : (b : Bool) → b ≡ true → cond b [] bytes ≡ []
    by_test true e = refl
    by_test false e = absurd (cc)

    by_none : (b : Bool) → b ≡ false → cond b [] bytes ≡ bytes
    by_none false e = refl
    by_none true e = absurd (cc)

-- ---- lines in order

module _ (c : Config) (d : ℕ) (s : Setup) where
  -- other lines after them
  does_end : (n : ℕ) (lines ends : List (List ℕ)) (old mid new : RunState) (first next : List ℕ) → DoesLines c d s n lines old mid first
      → DoesLines c d s (n + length lines) ends mid new next → DoesLines c d s n (lines ++ ends) old new (first ++ next)
  does_end n [] ends old mid new first next h k =
      subst (λ (t : List ℕ). DoesLines c d s n ends old new t) (ap (λ (t : List ℕ). t ++ next) (sym h.1)) (subst (λ (w : RunState). DoesLines c d s n ends w new next) h.0
      (subst (λ (m : ℕ). DoesLines c d s m ends mid new next) (omega arith) k))
  does_end n (x ∷ lines) ends old mid new first next h k = (
    h.0,
    h.1,
    h.2 ++ next,
    h.3,
    does_end (n + 1) lines ends h.0 mid new h.2 next h.4 (subst (λ (m : ℕ). DoesLines c d s m ends mid new next) (omega arith) k),
    ap (λ (t : List ℕ). t ++ next) h.5 ∙ append_assoc h.1 h.2 next,
  )

  -- one line more
  does_more : (n : ℕ) (lines : List (List ℕ)) (line : List ℕ) (old mid new : RunState) (first next : List ℕ) → DoesLines c d s n lines old mid first
      → DoesLine c d s (n + length lines) line mid new next → DoesLines c d s n (lines ++ line ∷ []) old new (first ++ next)
  does_more n lines line old mid new first next h k = does_end n lines (line ∷ []) old mid new first next h (new, next, [], k, (refl, refl), sym (append-nil next))

-- one line more of the bytes
pub lines_read : (bytes mid rest line : List ℕ) (lines : List (List ℕ)) → AreLines bytes lines mid → BeginsWithLine mid line rest → length lines < feed_limit → length line ≤ byte_limit
    → AreLines bytes (lines ++ line ∷ []) rest
lines_read bytes mid rest line lines are begins fewer short = record {
  whole = are.whole ∙ ap (λ (r : List ℕ). flat_map with_newline lines ++ r) begins.whole
      ∙ ap (λ (r : List ℕ). flat_map with_newline lines ++ r) (sym (append_assoc line (10 ∷ []) rest))
      ∙ sym (append_assoc (flat_map with_newline lines) (line ++ 10 ∷ []) rest)
      ∙ ap (λ (f : List ℕ). f ++ rest) (sym (flat_map-append with_newline lines (line ∷ []) ∙ ap (λ (t : List ℕ). flat_map with_newline lines ++ t) (append-nil (line ++ 10 ∷ []))));
  unbroken = All-push IsUnbroken lines line are.unbroken begins.unbroken;
  few = omega (arith, fewer, length-append lines (line ∷ []));
  short = All-push (λ (l : List ℕ). length l ≤ byte_limit) lines line are.short short;
}

-- ---- the loop

pub so_far_none : (c : Config) (d : ℕ) (s : Setup) (bytes : List ℕ) (old : RunState) (known : Option (List ℕ)) (held : List ℕ)
    → DoesSoFar c d s 0 bytes bytes old old known known held held
so_far_none c d s bytes old known held = (
  [],
  [],
  record { whole = refl; unbroken = All-nil IsUnbroken; few = omega arith; short = All-nil (λ (l : List ℕ). length l ≤ byte_limit) },
  refl,
  (refl, refl),
  leaves_nothing known held,
)

pub so_far_more : (c : Config) (d : ℕ) (s : Setup) (n : ℕ) (bytes mid rest : List ℕ) (old run new : RunState) (before between after : Option (List ℕ)) (held held' held'' : List ℕ)
    → n < feed_limit → DoesSoFar c d s n bytes mid old run before between held held' → DoesNext c d s (n + 1) mid rest run new between after held' held''
    → DoesSoFar c d s (n + 1) bytes rest old new before after held held''
so_far_more c d s n bytes mid rest old run new before between after held held' held'' few h k = (
  h.0 ++ k.0 ∷ [],
  h.1 ++ k.1,
  lines_read bytes mid rest k.0 h.0 h.2 k.2 (omega (arith, few, h.3)) k.3,
  omega (arith, length-append h.0 (k.0 ∷ []), h.3),
  does_more c d s 1 h.0 k.0 old run new h.1 k.1 h.4 (subst (λ (m : ℕ). DoesLine c d s m k.0 run new k.1) (omega (arith, h.3)) k.4),
  subst (λ (all : List ℕ). Leaves before after all held'') (append_assoc held h.1 k.1) (leaves_on before between after (held ++ h.1) held' k.1 held'' h.5 k.5),
)

pub so_far_last : (can_fail : Bool) (c : Config) (d : ℕ) (s : Setup) (n : ℕ) (bytes rest : List ℕ) (all : Bool) (old run new : RunState) (before between after : Option (List ℕ)) (held held' held'' : List ℕ)
    → n < feed_limit → DoesSoFar c d s n bytes rest old run before between held held' → DoesLast can_fail c d s (n + 1) rest all run new between after held' held''
    → WritesSteps can_fail c d s bytes all old new before after held held''
so_far_last can_fail c d s n bytes rest true old run new before between after held held' held'' few h k = (
  h.1 ++ k.0,
  (
    h.0,
    rest,
    h.2,
    k.1,
    omega (arith, few, h.3),
    k.2,
    does_end c d s 1 h.0 (last_line rest) old run new h.1 k.0 h.4
        (subst (λ (m : ℕ). DoesLines c d s m (last_line rest) run new k.0) (omega (arith, h.3)) k.3),
  ),
  subst (λ (text : List ℕ). Leaves before after text held'') (append_assoc held h.1 k.0) (leaves_on before between after (held ++ h.1) held' k.0 held'' h.5 k.4),
)
so_far_last can_fail c d s n bytes rest false old run new before between after held held' held'' few h k = (
  h.1,
  (h.0, rest, h.2, subst (λ (w : RunState). DoesLines c d s 1 h.0 old w h.1) (sym k.0) h.4, inl k.1),
  subst (λ (text : List ℕ). Leaves before after text held'') (append-nil (held ++ h.1)) (leaves_on before between after (held ++ h.1) held' [] held'' h.5
      (subst (λ (text : List ℕ). Leaves between after text held'') (sym (append-nil held')) k.2)),
)

pub so_far_short : (can_fail : Bool) (c : Config) (d : ℕ) (s : Setup) (n : ℕ) (bytes rest : List ℕ) (old new : RunState) (before after : Option (List ℕ)) (held held' : List ℕ)
    → n ≡ feed_limit → DoesSoFar c d s n bytes rest old new before after held held' → WritesSteps can_fail c d s bytes false old new before after held held'
so_far_short can_fail c d s n bytes rest old new before after held held' all h = (h.1, (h.0, rest, h.2, h.4, inr (h.3 ∙ all)), h.5)

-- ---- the end of the lines

pub ends_here : (can_fail : Bool) (c : Config) (d : ℕ) (s : Setup) (n : ℕ) (bytes : List ℕ) (old : RunState) (known : Option (List ℕ)) (held : List ℕ) → bytes ≡ []
    → DoesLast can_fail c d s n bytes true old old known known held held
ends_here can_fail c d s n bytes old known held none =
    subst (λ (b : List ℕ). DoesLast can_fail c d s n b true old old known known held held) (sym none) ([], All-nil (λ byte. eqb byte 10 ≡ false), omega arith, (refl, refl), leaves_nothing known held)

pub ends_cut : (can_fail : Bool) (c : Config) (d : ℕ) (s : Setup) (n : ℕ) (bytes : List ℕ) (old new : RunState) (before after : Option (List ℕ)) (held held' text : List ℕ) → IsUnbroken bytes → 0 < length bytes → length bytes ≤ byte_limit
    → DoesLine c d s n bytes old new text → Leaves before after (held ++ text) held' → DoesLast can_fail c d s n bytes true old new before after held held'
ends_cut can_fail c d s n bytes old new before after held held' text unbroken some short does leaves =
    (text, unbroken, short, subst (λ (lines : List (List ℕ)). DoesLines c d s n lines old new text) (sym (by_test bytes some)) (new, text, [], does, (refl, refl), sym (append-nil text)), leaves)
  where
    by_test : (bs : List ℕ) → 0 < length bs → last_line bs ≡ bs ∷ []
    by_test bs h = ap (λ (b : Bool). cond b [] (bs ∷ [])) (ne_eqb (length bs) 0 (λ e. absurd (omega (arith, h, e))))

-- ---- a front of what is written

pub so_far_front : (c : Config) (d : ℕ) (s : Setup) (n : ℕ) (bytes rest : List ℕ) (old run : RunState) (before between after : Option (List ℕ)) (held held' : List ℕ)
    → n < feed_limit → DoesSoFar c d s n bytes rest old run before between held held' → NextFront c d s (n + 1) rest run between after held'
    → StepsFront c d s bytes old before after held
so_far_front c d s n bytes rest old run before between after held held' few h (inl front) =
    (h.1, inl (h.0, rest, run, h.2, h.4), front_less before between after (held ++ h.1) held' h.5 front)
so_far_front c d s n bytes rest old run before between after held held' few h (inr (inl next)) =
    let on = so_far_more c d s n bytes rest next.0 old run next.1 before between after held held' next.2 few h next.3 in
    (on.1, inl (on.0, next.0, next.1, on.2, on.4), (next.2, on.5))
so_far_front c d s n bytes rest old run before between after held held' few h (inr (inr last)) =
    let all = so_far_last true c d s n bytes rest true old run last.0 before between after held held' last.1 few h last.2 in
    (all.0, inr (last.0, all.1), (last.1, all.2))

-- of a line, of one that is too long, and of one that the end of the input cut
pub line_front : (c : Config) (d : ℕ) (s : Setup) (n : ℕ) (bytes line rest : List ℕ) (old : RunState) (before after : Option (List ℕ)) (held : List ℕ) → BeginsWithLine bytes line rest → length line ≤ line_limit
    → SaidFront s n (λ said. Spells c d said line) old before after held → NextFront c d s n bytes old before after held
line_front c d s n bytes line rest old before after held begins short (inl front) = inl front
line_front c d s n bytes line rest old before after held begins short (inr said) =
    inr (inl (rest, said.0, said.3.0, (line, said.1, begins, omega (arith, short), does_short c d s n old said.0 said.1 line short said.2, said.3.1)))

pub long_front : (c : Config) (d : ℕ) (s : Setup) (n : ℕ) (bytes line rest : List ℕ) (old : RunState) (before after : Option (List ℕ)) (held : List ℕ) → BeginsWithLine bytes line rest → line_limit < length line
    → length line ≤ byte_limit → WritesFront before after (held ++ refused_step_line n BadStep) → NextFront c d s n bytes old before after held
long_front c d s n bytes line rest old before after held begins long fits front =
    inr (inl (rest, old, front.0, (line, refused_step_line n BadStep, begins, fits, does_long c d s n old line long, front.1)))

pub cut_front : (c : Config) (d : ℕ) (s : Setup) (n : ℕ) (bytes line : List ℕ) (old : RunState) (before after : Option (List ℕ)) (held : List ℕ) → IsUnbroken bytes → 0 < length bytes → length bytes ≤ byte_limit
    → line ≡ cut_text (length bytes) bytes → SaidFront s n (λ said. Spells c d said line) old before after held → NextFront c d s n bytes old before after held
cut_front c d s n bytes line old before after held unbroken some short is (inl front) = inl front
cut_front c d s n bytes line old before after held unbroken some short is (inr said) =
    inr (inr (said.0, said.3.0, ends_cut true c d s n bytes old said.0 before after held said.3.0 said.1 unbroken some short (does_cut c d s n old said.0 said.1 bytes line is said.2) said.3.1))

-- ---- the same in the words of another run of the same world

pub same_parts : (P : Config → ℕ → Setup → Type 0) (c c' : Config) (d d' : ℕ) (s s' : Setup) → c' ≡ c → d' ≡ d → s' ≡ s → P c' d' s' → P c d s
same_parts P c c' d d' s s' same as_many one h =
    subst (λ (x : Config). P x d s) same (subst (λ (x : ℕ). P c' x s) as_many (subst (λ (x : Setup). P c' d' x) one h))

-- ---- answers of a call

pub if_none_is : {A X : Type 0} (o : Option A) → o ≡ None → IfNone o X → X
if_none_is None e h = h
if_none_is (Some a) e h = absurd (cc)

pub if_some_is : {A : Type 0} (X : A → Type 0) (o : Option A) (a : A) → o ≡ Some a → IfSome o X → X a
if_some_is X None a e h = absurd (cc)
if_some_is X (Some b) a e h = subst X (same_Some b a e) h
