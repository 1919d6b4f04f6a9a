use Rattle.std.proofs.Common.{◌≡◌, ◌++◌, ◌∙◌, List, None, Option, Some, refl, subst, sym, take}
use Rattle.std.proofs.lemmas.List.{take_all}
use Rattle.due_model.specs.declared.config.ObjectId.{ObjectId}
use Rattle.due_model.specs.declared.notice.Notice.{Notice}
use Rattle.contact_tallies.specs.declared.tallies.Tallies.{Tallies}
use Rattle.contact_tallies.specs.Marks.{Mark, ends_of, marks_on, recovered}
use Rattle.contact_tallies.specs.Tallies.{AreTallies}
use Rattle.contact_tallies.proofs.TallyLaws.{marks_more, problem_ends}
use Rattle.contact_tallies.proofs.tallies.Tallies.count.Goals as goal

pub loop-notice-preserved : goal.loop-notice-preserved
loop-notice-preserved c = λ count past are.
    let notices : List Notice = c.args.notices.now in
    let i = c.loop-notice.notice-index in
    subst (λ (ms : List Mark). AreTallies c.args.clock.now count ms c.count_notice.new.self) (sym (marks_more past notices i _ c.loop-notice-test.true))
    (c.in_ok-count_notice.ensures count (marks_on past (take i notices)) (c.loop-notice.invariant count past are))

pub returns-in-Some : goal.returns-in-Some
returns-in-Some c = λ count past are.
    let notices : List Notice = c.args.notices.now in
    let all : take c.loop-notice.notice-index notices ≡ notices = take_all c.loop-notice.notice-index notices c.loop-notice-test.false in
    let given : AreTallies c.args.clock.now count (marks_on past notices) c.loop-notice.self =
    subst (λ (xs : List Notice). AreTallies c.args.clock.now count (marks_on past xs) c.loop-notice.self) all (c.loop-notice.invariant count past are) in
    let some : recovered c.args.event ≡ Some c.in-Some.object = sym c.recovered.ensures ∙ c.in-Some.is in
    let after : Tallies = record { contacts = c.loop-notice.self.contacts; problems = c.end.new.self } in
    subst (λ (o : Option ObjectId). AreTallies c.args.clock.now count (ends_of o ++ marks_on past notices) after) (sym some)
    (problem_ends c.args.clock.now count (marks_on past notices) c.in-Some.object.0 c.loop-notice.self after given c.end.ensures.within refl c.end.ensures.value)

pub returns-in-None : goal.returns-in-None
returns-in-None c = λ count past are.
    let notices : List Notice = c.args.notices.now in
    let all : take c.loop-notice.notice-index notices ≡ notices = take_all c.loop-notice.notice-index notices c.loop-notice-test.false in
    let given : AreTallies c.args.clock.now count (marks_on past notices) c.loop-notice.self =
    subst (λ (xs : List Notice). AreTallies c.args.clock.now count (marks_on past xs) c.loop-notice.self) all (c.loop-notice.invariant count past are) in
    let none : recovered c.args.event ≡ None = sym c.recovered.ensures ∙ c.in-None.is in
    subst (λ (o : Option ObjectId). AreTallies c.args.clock.now count (ends_of o ++ marks_on past notices) c.loop-notice.self) (sym none) given
