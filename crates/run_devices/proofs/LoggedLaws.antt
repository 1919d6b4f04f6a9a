-- A run with a log, by the lanes of its words.
use Rattle.std.proofs.Common.{◌≡◌, ◌%◌, ℕ, Bool, List, length, map, Option, Result, Ok, Err, IfOk, subst}
use Rattle.channel.specs.claims.Channels.{Account, Offer}
use Rattle.channel_words.specs.Lanes.{channels_for}
use Rattle.command_output.specs.declared.outcome.CommandFault.{CommandFault}
use Rattle.command_output.specs.declared.outcome.Ending.{Ending}
use Rattle.due_model.specs.declared.config.Config.{Config}
use Rattle.due_model.specs.declared.notice.Suppression.{Suppression}
use Rattle.due_model.specs.declared.zone.Zone.{Zone}
use Rattle.engine.specs.declared.post.Post.{Post}
use Rattle.engine.specs.claims.Lanes.{AreTold, IsCause, channels_on}
use Rattle.run_command.specs.Report.{WritesEnds}
use Rattle.run_devices.specs.Done.{WritesLogged}

module _ {C V L : Type 0} (account : C → Account) (offered : C → List Offer → C → Type 0) (items : V → List C) (tells : L → List Suppression → L → Type 0) (failed : L → Bool) (can_fail is_open : Bool) (c : Config) (zone : Zone) (tries : ℕ) where
  -- what is so of a run told of logs of any kind, with so many channels for each lane, is so with as many
  logged_as : (given : ℕ → ℕ) (posts : List (Post C)) (given_back : List V) (known before after : Option (List ℕ)) (logs back : List L) (ending : Ending)
      → ((l : ℕ) → given l ≡ channels_for (map (λ post. post.lane) posts) l)
      → WritesEnds tells failed can_fail is_open c zone given (AreTold account offered items tries c (λ l. channels_on (λ post. post.lane.0) (λ post. post.channel) l posts) given_back) known logs back ending before after
      → WritesLogged account offered items can_fail is_open c zone tries posts given_back known ending before after
  logged_as given posts given_back known before after logs back ending is (end, (run, read, near, tied), memory, ended, wrote) = (
    end,
    (λ o. run.0 (o % length logs)),
    record {
      due = run.2.due;
      log = run.2.log;
      due_front = run.2.due_front;
      log_front = run.2.log_front;
      others = run.2.others;
      whole = run.2.whole;
      causes = λ l lane at. subst (λ (n : ℕ). IsCause n end.memory lane) (is l) (run.2.causes l lane at);
    },
    read,
    near,
    tied,
    memory,
    ended,
    wrote,
  )

  -- and of the same configuration
  pub logged_posted : (config : Config) → c ≡ config → (given : ℕ → ℕ) (posts : List (Post C)) (given_back : List V) (known before after : Option (List ℕ)) (logs back : List L) (ending : Ending)
      → ((l : ℕ) → given l ≡ channels_for (map (λ post. post.lane) posts) l)
      → WritesEnds tells failed can_fail is_open c zone given (AreTold account offered items tries c (λ l. channels_on (λ post. post.lane.0) (λ post. post.channel) l posts) given_back) known logs back ending before after
      → WritesLogged account offered items can_fail is_open config zone tries posts given_back known ending before after
  logged_posted config same given posts given_back known before after logs back ending is wrote =
      subst (λ (x : Config). WritesLogged account offered items can_fail is_open x zone tries posts given_back known ending before after) same (logged_as given posts given_back known before after logs back ending is wrote)

-- what is so of a run by a configuration is so by the same
pub by_same : {C V : Type 0} (account : C → Account) (offered : C → List Offer → C → Type 0) (items : V → List C) (can_fail is_open : Bool) (zone : Zone) (tries : ℕ) (posts : List (Post C)) (given_back : List V)
    (known before after : Option (List ℕ)) (ending : Ending) (c config : Config) → c ≡ config
    → WritesLogged account offered items can_fail is_open c zone tries posts given_back known ending before after
    → WritesLogged account offered items can_fail is_open config zone tries posts given_back known ending before after
by_same account offered items can_fail is_open zone tries posts given_back known before after ending c config same wrote =
    subst (λ (x : Config). WritesLogged account offered items can_fail is_open x zone tries posts given_back known ending before after) same wrote

-- what is so where one has ended is so where it ended with the other's ending
pub ended_so : {F : Type 0} (result : Result Ending F) (outcome : Result Ending CommandFault) (P : Ending → Type 0) → IfOk result (λ ending. outcome ≡ Ok ending) → IfOk outcome P → IfOk result P
ended_so (Err fault) outcome P same is = tt
ended_so (Ok ending) outcome P same is = subst (λ o. IfOk o P) same is
