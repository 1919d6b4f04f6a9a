-- What a lane holds, joined, is the same where a notice goes from one part to the next.
use Rattle.std.proofs.Common.{◌≡◌, List, [], ◌∷◌, ◌++◌, take, drop, sym, ap, ◌∙◌, append_assoc}
use Rattle.std.proofs.lemmas.List.{append-nil, take-append-drop}
use Rattle.std.proofs.lemmas.List.Concat.{flat_map-append}
use Rattle.due_model.specs.declared.notice.Notice.{Notice}
use Rattle.steps.specs.claims.Lanes.{LaneState}
use Rattle.steps.specs.claims.Lanes.{all_taken, contents, join_records}
use Rattle.steps.specs.claims.Lanes.{CanPick, picked, settled, replaced, closed, drained, queued}

module _ {X : Type 0} where
  split_front : (xs ys : List X) → (xs ++ take 1 ys) ++ drop 1 ys ≡ xs ++ ys
  split_front xs ys = append_assoc xs (take 1 ys) (drop 1 ys) ∙ ap (λ (zs : List X). xs ++ zs) (take-append-drop 1 ys)

  picked_same : (t h u q : List X) → h ≡ [] → u ≡ [] → ((t ++ take 1 q) ++ u) ++ drop 1 q ≡ ((t ++ h) ++ u) ++ q
  picked_same t h u q no_hand nothing =
      ap (λ (v : List X). ((t ++ take 1 q) ++ v) ++ drop 1 q) nothing
      ∙ ap (λ (v : List X). v ++ drop 1 q) (append-nil (t ++ take 1 q))
      ∙ split_front t q
      ∙ sym (ap (λ (v : List X). (v ++ u) ++ q) (ap (λ (v : List X). t ++ v) no_hand ∙ append-nil t) ∙ ap (λ (v : List X). (t ++ v) ++ q) nothing ∙ ap (λ (v : List X). v ++ q) (append-nil t))

  closed_same : (t h u q : List X) → u ≡ [] → ((t ++ []) ++ (u ++ h)) ++ q ≡ ((t ++ h) ++ u) ++ q
  closed_same t h u q nothing =
      ap (λ (v : List X). (v ++ (u ++ h)) ++ q) (append-nil t)
      ∙ ap (λ (v : List X). (t ++ (v ++ h)) ++ q) nothing
      ∙ sym (ap (λ (v : List X). ((t ++ h) ++ v) ++ q) nothing ∙ ap (λ (v : List X). v ++ q) (append-nil (t ++ h)))

pub picked_law : (lane : LaneState) → CanPick lane → lane.undelivered ≡ [] → contents (picked lane) ≡ contents lane
picked_law lane can nothing = picked_same (all_taken lane) lane.hand lane.undelivered lane.queue can.hand nothing

pub settled_law : (lane : LaneState) → contents (settled lane) ≡ contents lane
settled_law lane =
    ap (λ (v : List Notice). (v ++ lane.undelivered) ++ lane.queue)
    (append-nil (join_records lane.ended ++ (lane.taken ++ lane.hand)) ∙ sym (append_assoc (join_records lane.ended) lane.taken lane.hand))

pub replaced_law : (lane : LaneState) → contents (replaced lane) ≡ contents lane
replaced_law lane =
    ap (λ (v : List Notice). ((v ++ lane.hand) ++ lane.undelivered) ++ lane.queue)
    (append-nil (join_records (lane.ended ++ lane.taken ∷ []))
    ∙ flat_map-append (λ (notices : List Notice). notices) lane.ended (lane.taken ∷ [])
    ∙ ap (λ (v : List Notice). join_records lane.ended ++ v) (append-nil lane.taken))

pub closed_law : (lane : LaneState) → lane.undelivered ≡ [] → contents (closed lane) ≡ contents lane
closed_law lane nothing = closed_same (all_taken lane) lane.hand lane.undelivered lane.queue nothing

pub drained_law : (lane : LaneState) → contents (drained lane) ≡ contents lane
drained_law lane =
    ap (λ (v : List Notice). v ++ drop 1 lane.queue) (sym (append_assoc (all_taken lane ++ lane.hand) lane.undelivered (take 1 lane.queue)))
    ∙ split_front (all_taken lane ++ lane.hand ++ lane.undelivered) lane.queue

pub queued_law : (notices : List Notice) (lane : LaneState) → contents (queued notices lane) ≡ contents lane ++ notices
queued_law notices lane = sym (append_assoc (all_taken lane ++ lane.hand ++ lane.undelivered) lane.queue notices)
