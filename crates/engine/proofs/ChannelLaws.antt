-- The channels of a lane, as its end tells what they have taken.
use Rattle.std.proofs.Common.{◌≡◌, ◌≢◌, ◌+◌, ◌<◌, ◌⊎◌, ⊎_elim, ℕ, List, [], ◌∷◌, length, slice_get, None, Some, inl, inr, sym, ap, subst, ◌∙◌, arith}
use Rattle.std.proofs.lemmas.Bool.{cases_eq}
use Rattle.std.proofs.lemmas.List.{nil_from_length}
use Rattle.std.proofs.lemmas.Option.{none-some}
use Rattle.due_model.specs.declared.config.Config.{Config}
use Rattle.due_model.specs.declared.notice.Notice.{Notice}
use Rattle.delivery_worker.specs.declared.worker.Served.{Served}
use Rattle.channel.specs.claims.Channels.{Account, Offer}
use Rattle.delivery_worker.specs.claims.Channels.{HasBeenLeft, HasServed, HaveServed}
use Rattle.delivery_worker.specs.Channels.{records_in}
use Rattle.delivery_worker.specs.Picked.{joined as joined_of}
use Rattle.engine_threads.specs.Lanes.{HasCause, HaveTaken as HaveServedSo}
use Rattle.undelivered.specs.declared.Why.{Why}
use Rattle.undelivered.specs.declared.Why.TheVariants as why
use Rattle.engine.specs.claims.Lanes.{HaveTaken, LaneParts, joined}
use Rattle.engine.specs.Lanes.{IsEndOf}
use Rattle.engine.proofs.RecordLaws.{records_some}
use Rattle.engine.proofs.RunEndLaws.{joined_same}

relabel : (tries : ℕ) (c : Config) (records : List (List Notice)) (all : List Notice) (was is : Type 0) (i : ℕ) (went : List Offer → Type 0) (a b : Account) → (is → was)
    → HasServed tries c records all was i went a b → HasServed tries c records all is i went a b
relabel tries c records all was is i went a b back h = record {
  number = h.number;
  limit = h.limit;
  taken = h.taken;
  failed = λ place. h.failed (before place);
  untried = h.untried;
  closed = h.closed;
  letters = (
    h.letters.0,
    record {
      settled = h.letters.1.settled;
      last = h.letters.1.last;
      whole = h.letters.1.whole;
      taken_in = h.letters.1.taken_in;
      left = record {
        count = h.letters.1.left.count;
        whole = h.letters.1.left.whole;
        most = h.letters.1.left.most;
        all = λ place. h.letters.1.left.all (before place);
      };
    },
    h.letters.2,
  );
}
  where
    before : HasBeenLeft i records is → HasBeenLeft i records was
    before place = ⊎_elim (λ (less : i + 1 < length records). inl less) (λ (last : (i + 1 ≡ length records) × is). inr (last.0, back last.1)) place

pub channels_told : {C : Type 0} (account : C → Account) (offered : C → List Offer → C → Type 0) (tries : ℕ) (c : Config) (l given : ℕ) (s : Served) (lane : LaneParts) (old new : List C) → IsEndOf l given s lane → HasCause given s.held s.why → length old ≡ given
    → HaveServedSo account offered tries c s old new → HaveTaken account offered tries c lane old new
channels_told {C} account offered tries c l given s lane old new e cause size h = ⊎_elim
    (λ (none : given ≡ 0). record {
      count = h.count;
      each = λ i a b at_a at_b. absurd (none-some a (subst (λ (xs : List C). slice_get xs i ≡ Some a) (nil_from_length old (size ∙ none)) at_a));
    })
    (λ (some : given ≢ 0).
    let records : lane.records ≡ records_in s.held = e.records ∙ records_some given s.held some in
    let other : s.held.why ≢ Some why.NoChannel = λ closed. some (cause.no_channel.0 closed) in
    let told : lane.why ≡ s.why = e.why other in
    let failed : lane.why ≡ why.Failed → s.held.why ≡ Some why.Failed = λ w. cause.cause (λ m. cc (sym told ∙ w, m)) ∙ ap (λ (v : Why). Some v) (sym told ∙ w) in
    subst (λ (rs : List (List Notice)). HaveServed account offered tries c rs (joined lane) (lane.why ≡ why.Failed) old new) (sym records)
    (subst (λ (ns : List Notice). HaveServed account offered tries c (records_in s.held) ns (lane.why ≡ why.Failed) old new) (joined_same l given s lane e cause) (record {
      count = h.count;
      each = λ i a b at_a at_b. relabel tries c (records_in s.held) (joined_of s.held) (s.held.why ≡ Some why.Failed) (lane.why ≡ why.Failed) i (λ os. offered a os b) (account a) (account b) failed (h.each i a b at_a at_b);
    })))
    (cases_eq given 0)

pub no_channels : {X : Type 0} (lanes : List X) (l : ℕ) (lane : X) → lanes ≡ [] → slice_get lanes l ≡ Some lane → ⊥
no_channels {X} lanes l lane none at = none-some lane (subst (λ (xs : List X). slice_get xs l ≡ Some lane) none at)

pub none_told : {C V : Type 0} (account : C → Account) (offered : C → List Offer → C → Type 0) (tries : ℕ) (c : Config) (lanes : List LaneParts) (channels : List V) (items : V → List C) (given : ℕ → List C) → lanes ≡ []
    → (l : ℕ) (lane : LaneParts) (cs : V) → slice_get lanes l ≡ Some lane → slice_get channels l ≡ Some cs → HaveTaken account offered tries c lane (given l) (items cs)
none_told {C} {V} account offered tries c lanes channels items given none l lane cs at_lane at_cs = absurd (no_channels lanes l lane none at_lane)
