-- The passes of a queue.
use Rattle.std.proofs.Common.{◌≡◌, ℕ, false, List, [], ◌∷◌, ◌++◌, sym, ap, ◌∙◌, subst}
use Rattle.crossbeam_queue.specs.Passes.{Pass, view}
use Rattle.due_model.specs.declared.item.Item.{Item}
use Rattle.due_model.specs.Items.{decider_of, is_end}
use Rattle.channel_queue.specs.declared.LaneQueue.{LaneQueue}
use Rattle.channel_queue.specs.declared.Seen.{Seen}
use Rattle.channel_queue.specs.declared.Seen.TheVariants.{Decider}
use Rattle.channel_queue.specs.Passes.{IsDecider}
use Rattle.channel_queue.specs.Rule.{IsOpen, decider_seen, put_of, put_seen}
use Rattle.acceptance_lanes.specs.Deciders.{HavePut}

-- what a decider's pass says of what it has put
pub put_is : (q : LaneQueue) (d : ℕ) (put : List Item) (p : Pass Item Seen) → IsDecider q d put p → put_of p ≡ put
put_is q d put p own = ap put_seen own.1

-- so it is the pass of a decider that has put what it says
pub have_put : (q : LaneQueue) (d : ℕ) (put : List Item) (p : Pass Item Seen) → IsDecider q d put p → HavePut q p
have_put q d put p own = (own.0, own.1 ∙ sym (ap (λ (s : Seen). Decider (decider_seen s) (put_seen s)) own.1))

-- one more item that is no end
pub open_more : (xs : List Item) (x : Item) → is_end x ≡ false → IsOpen xs → IsOpen (xs ++ x ∷ [])
open_more [] x none clear = (none, tt)
open_more (y ∷ ys) x none clear = (clear.0, open_more ys x none clear.1)

-- after one more item that is no end, it is still that decider's, and an end may come
pub open_put : (q : LaneQueue) (d : ℕ) (x : Item) (put : List Item) (p : Pass Item Seen) → decider_of x ≡ d → is_end x ≡ false → IsOpen put
    → IsDecider q (decider_of x) (put ++ x ∷ []) p → IsDecider q d (put_of p) p × IsOpen (put_of p)
open_put q d x put p carries none clear own =
    let is = put_is q (decider_of x) (put ++ x ∷ []) p own in
    let said = have_put q (decider_of x) (put ++ x ∷ []) p own in (
      (own.0, own.1 ∙ ap (λ (e : ℕ). Decider e (put ++ x ∷ [])) carries ∙ ap (λ (ys : List Item). Decider d ys) (sym is)),
      subst IsOpen (sym is) (open_more put x none clear),
    )
