-- What a channel of one of two kinds is to its callers: what the one that it holds is.
use Rattle.std.specs.Prelude.{ℕ, List, [], ◌++◌}
use Rattle.channel.specs.claims.Channels.{Account, Offer}
use Rattle.channel.specs.declared.Kind.{Kind}
use Rattle.channel.specs.declared.either.Either.{Either}
use Rattle.channel.specs.declared.either.Either.TheVariants.{Left, Right}

abbrev pub account_of : {A B : Type 0} → (A → Account) → (B → Account) → Either A B → Account
account_of one other (Left a) = one a
account_of one other (Right b) = other b

abbrev pub room_of : {A B : Type 0} → (A → ℕ) → (B → ℕ) → Either A B → ℕ
room_of one other (Left a) = one a
room_of one other (Right b) = other b

abbrev pub kind_of : {A B : Type 0} → (A → Kind) → (B → Kind) → Either A B → Kind
kind_of one other (Left a) = one a
kind_of one other (Right b) = other b

-- it stays of its kind, and the channel that it holds was offered these
abbrev pub offered_of : {A B : Type 0} → (A → List Offer → A → Type 0) → (B → List Offer → B → Type 0)
    → Either A B → List Offer → Either A B → Type 0
offered_of one other (Left a) offers (Left b) = one a offers b
offered_of one other (Left a) offers (Right b) = ⊥
offered_of one other (Right a) offers (Left b) = ⊥
offered_of one other (Right a) offers (Right b) = other a offers b

pub stays_of : {A B : Type 0} (one : A → List Offer → A → Type 0) (other : B → List Offer → B → Type 0)
    → ((a : A) → one a [] a) → ((b : B) → other b [] b) → (s : Either A B) → offered_of one other s [] s
stays_of one other left right (Left a) = left a
stays_of one other left right (Right b) = right b

pub follows_of : {A B : Type 0} (one : A → List Offer → A → Type 0) (other : B → List Offer → B → Type 0)
    → ((a b c : A) (xs ys : List Offer) → one a xs b → one b ys c → one a (xs ++ ys) c)
    → ((a b c : B) (xs ys : List Offer) → other a xs b → other b ys c → other a (xs ++ ys) c)
    → (a b c : Either A B) (xs ys : List Offer) → offered_of one other a xs b → offered_of one other b ys c
    → offered_of one other a (xs ++ ys) c
follows_of one other left right (Left a) (Left b) (Left c) xs ys first next = left a b c xs ys first next
follows_of one other left right (Left a) (Left b) (Right c) xs ys first next = absurd next
follows_of one other left right (Left a) (Right b) c xs ys first next = absurd first
follows_of one other left right (Right a) (Right b) (Right c) xs ys first next = right a b c xs ys first next
follows_of one other left right (Right a) (Right b) (Left c) xs ys first next = absurd next
follows_of one other left right (Right a) (Left b) c xs ys first next = absurd first
