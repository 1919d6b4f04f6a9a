use Rattle.std.proofs.Common.{refl, sym, ap, ap₂, ◌≡◌, ◌∙◌, codes, Bool, true, false}
use Rattle.std.specs.Prelude.{not, ◌&&◌}
use Rattle.std.proofs.lemmas.Bool.{and_parts}
use Rattle.std.proofs.lemmas.Result.{IfOk-weaker}
use Rattle.clap.specs.Simple.{app_of_fields, on_top}
use Rattle.clap.specs.Words.{App, app_of, new_app, with_subcommand}
use Rattle.command_line.proofs.asked.command.Goals as goal

false_from_not : (t : Bool) → not t ≡ true → t ≡ false
false_from_not false e = refl
false_from_not true e = sym e

-- what a plain command says of its third setting: that it has no global argument
third_is_false : (a b c d : Bool) → (a && (b && (not c && d))) ≡ true → c ≡ false
third_is_false a b c d e =
    false_from_not c (and_parts (not c) d (and_parts b (not c && d) (and_parts a (b && (not c && d)) e).1).1).0

pub returns : goal.returns
returns c =
    let named : app_of c.in_ok-bin_name.field-0 ≡ new_app (codes "notify-run") = ap app_of_fields c.in_ok-bin_name.ensures.0 ∙ c.new.ensures.app in
    let versioned = ap app_of_fields c.version.ensures ∙ ap (on_top (λ s. record s { has_version = true })) (ap app_of_fields c.about.ensures ∙ named) in
    let helpless = ap app_of_fields c.disable_help_subcommand.ensures
    ∙ ap (on_top (λ s. record s { disable_help_subcommand = true })) (ap app_of_fields c.after_help.ensures ∙ versioned) in
    let required = ap app_of_fields c.subcommand_required.ensures
    ∙ ap (on_top (λ s. record s { subcommand_required = true })) helpless in
    let settings = ap app_of_fields c.arg_required_else_help.ensures
    ∙ ap (on_top (λ s. record s { arg_required_else_help = true })) required in
    let replay_is = c.in_ok-replay_command.ensures.words in
    let trace_is = c.in_ok-trace_command.ensures.words in
    let replay_added = c.in_ok-subcommand.ensures.shape (third_is_false _ _ _ _ (ap (λ (a : App). a.top.is_plain) replay_is))
    ∙ ap₂ with_subcommand settings (ap (λ (a : App). a.top) replay_is) in
    let run_is = c.in_ok-run_command.ensures.words in
    let trace_added = c.in_ok-subcommand-2.ensures.shape (third_is_false _ _ _ _ (ap (λ (a : App). a.top.is_plain) trace_is))
    ∙ ap₂ with_subcommand replay_added (ap (λ (a : App). a.top) trace_is) in
    let who_is = c.in_ok-who_command.ensures.words in
    let run_added = c.in_ok-subcommand-3.ensures.shape (third_is_false _ _ _ _ (ap (λ (a : App). a.top.is_plain) run_is))
    ∙ ap₂ with_subcommand trace_added (ap (λ (a : App). a.top) run_is) in
    let diff_is = c.in_ok-diff_command.ensures.words in
    let who_added = c.in_ok-subcommand-4.ensures.shape (third_is_false _ _ _ _ (ap (λ (a : App). a.top.is_plain) who_is))
    ∙ ap₂ with_subcommand run_added (ap (λ (a : App). a.top) who_is) in
    let why_is = c.in_ok-why_command.ensures.words in
    let diff_added = c.in_ok-subcommand-5.ensures.shape (third_is_false _ _ _ _ (ap (λ (a : App). a.top.is_plain) diff_is))
    ∙ ap₂ with_subcommand who_added (ap (λ (a : App). a.top) diff_is) in
    let check_is = c.in_ok-check_command.ensures.words in
    let why_added = c.in_ok-subcommand-6.ensures.shape (third_is_false _ _ _ _ (ap (λ (a : App). a.top.is_plain) why_is))
    ∙ ap₂ with_subcommand diff_added (ap (λ (a : App). a.top) why_is) in
    record {
      words = IfOk-weaker c.subcommand-7.result _ _ (λ r h. h.shape (third_is_false _ _ _ _ (ap (λ (a : App). a.top.is_plain) check_is))
          ∙ ap₂ with_subcommand why_added (ap (λ (a : App). a.top) check_is)) c.subcommand-7.ensures;
    }
