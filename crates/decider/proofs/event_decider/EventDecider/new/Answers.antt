use Rattle.std.proofs.Common.{[], length, refl, ap, sym, subst, ◌∙◌, arith}
use Rattle.std.proofs.lemmas.List.Elements.{All-nil}
use Rattle.due_model.specs.declared.zone.Zone.{Zone}
use Rattle.due_model.specs.claims.Proper.{IsProper}
use Rattle.decider.specs.claims.Statuses.{StatusLists, StatusesFit}
use Rattle.decider.specs.Statuses.{no_statuses}
use Rattle.decider.proofs.BookLaws.{new_fit}
use Rattle.decider.proofs.ReadyLaws.{new_index_fits}
use Rattle.decider.proofs.StatusLaws.{none_fit}
use Rattle.decider.proofs.event_decider.EventDecider.new.Goals as goal

pub returns-clause-decided : goal.returns-clause-decided
returns-clause-decided c =
    let config = c.args.config.now in
    record {
      fits = record {
        accepted = c.requires.accepted;
        share = c.requires.share;
        worked_out = record { compiled = c.in_ok-compile_all.ensures; searched = c.in_ok-new.ensures };
        proper = All-nil (IsProper config);
        short = omega arith;
        count = refl;
        moment = refl;
        program = refl;
        statuses = subst (λ (s : StatusLists). StatusesFit (length config.objects) [] s) (sym (c.in_ok-new-2.ensures ∙ ap no_statuses c.len-count.ensures)) (none_fit (length config.objects));
        index = new_index_fits config c.new.result c.args.share c.in_ok-new_index.field-0 c.len-count.result c.len-count.ensures c.in_ok-new_index.ensures.room c.in_ok-new_index.ensures.entries c.in_ok-new_index.ensures.examined;
        books = new_fit config c.new.result c.args.share c.in_ok-new_books.field-0.items c.len-count.result c.in_ok-new_books.ensures c.len-count.ensures;
      };
      settings = ap (λ (zone : Zone). (config, zone, c.args.share)) c.new.ensures;
      log = refl;
    }
