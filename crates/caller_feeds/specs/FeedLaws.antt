-- What stays the same as feeds go on, for who goes on with them step by step.
use Rattle.std.specs.Prelude.{List, [], ◌∷◌, refl}
use Rattle.std.specs.List.{AllZip}
use mathlib.Core.Path.{sym, ◌∙◌}
use Rattle.due_model.specs.declared.config.Config.{Config}
use Rattle.caller_feeds.specs.declared.handle.FeedHandle.{FeedHandle}
use Rattle.caller_feeds.specs.declared.end.FeedEnd.{FeedEnd}
use Rattle.caller_feeds.specs.Feeds.{ArePairs, IsPair, IsSameEnd, IsSameHandle}
use Rattle.caller_feeds.specs.Taken.{GoesOn, Taking}

-- an end is of its own feed, and what is of the same feed as another is of the same as a third
pub same_end : (e : FeedEnd) → IsSameEnd e e
same_end e = ((refl, refl, refl, refl), refl)

pub same_end_then : (a b c : FeedEnd) → IsSameEnd a b → IsSameEnd b c → IsSameEnd a c
same_end_then a b c one two = ((two.0.0 ∙ one.0.0, two.0.1 ∙ one.0.1, two.0.2 ∙ one.0.2, two.0.3 ∙ one.0.3), two.1 ∙ one.1)

pub same_ends : (ends : List FeedEnd) → AllZip IsSameEnd ends ends
same_ends [] = tt
same_ends (e ∷ ends) = (same_end e, same_ends ends)

pub same_ends_then : (xs ys zs : List FeedEnd) → AllZip IsSameEnd xs ys → AllZip IsSameEnd ys zs → AllZip IsSameEnd xs zs
same_ends_then [] [] [] one two = tt
same_ends_then [] [] (z ∷ zs) one two = absurd two
same_ends_then [] (y ∷ ys) zs one two = absurd one
same_ends_then (x ∷ xs) [] zs one two = absurd one
same_ends_then (x ∷ xs) (y ∷ ys) [] one two = absurd two
same_ends_then (x ∷ xs) (y ∷ ys) (z ∷ zs) one two =
    (same_end_then x y z one.0 two.0, same_ends_then xs ys zs one.1 two.1)

-- handles and ends that were those of the same feeds still are
pub pair_then : (h g : FeedHandle) (e d : FeedEnd) → IsPair h e → IsSameHandle h g → IsSameEnd e d → IsPair g d
pair_then h g e d pair one two = (
  two.0.0 ∙ pair.0 ∙ sym one.0.0,
  two.0.1 ∙ pair.1 ∙ sym one.0.1,
  two.0.2 ∙ pair.2 ∙ sym one.0.2,
  two.0.3 ∙ pair.3 ∙ sym one.0.3,
)

pub pairs_then : (hs gs : List FeedHandle) (es ds : List FeedEnd) → ArePairs hs es → AllZip IsSameHandle hs gs → AllZip IsSameEnd es ds → ArePairs gs ds
pairs_then [] [] [] [] pairs one two = tt
pairs_then [] [] [] (d ∷ ds) pairs one two = absurd two
pairs_then [] [] (e ∷ es) ds pairs one two = absurd pairs
pairs_then [] (g ∷ gs) es ds pairs one two = absurd one
pairs_then (h ∷ hs) gs [] ds pairs one two = absurd pairs
pairs_then (h ∷ hs) [] (e ∷ es) ds pairs one two = absurd one
pairs_then (h ∷ hs) (g ∷ gs) (e ∷ es) [] pairs one two = absurd two
pairs_then (h ∷ hs) (g ∷ gs) (e ∷ es) (d ∷ ds) pairs one two =
    (pair_then h g e d pairs.0 one.0 two.0, pairs_then hs gs es ds pairs.1 one.1 two.1)

-- an intake that does nothing goes on, and so does one that goes on twice
pub goes_on : (c : Config) (now : Taking) → GoesOn c now now
goes_on c now = record { ends = same_ends now.ends; most = refl; taken = λ taken. taken }

pub goes_on_then : (c : Config) (old mid new : Taking) → GoesOn c old mid → GoesOn c mid new → GoesOn c old new
goes_on_then c old mid new one two = record {
  ends = same_ends_then old.ends mid.ends new.ends one.ends two.ends;
  most = two.most ∙ one.most;
  taken = λ taken. two.taken (one.taken taken);
}
