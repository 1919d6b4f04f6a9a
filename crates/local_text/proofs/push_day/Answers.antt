use Rattle.std.proofs.Common.{◌≡◌, ◌++◌, FitsSigned, List, ℕ, OnOk, subst, w32}
use Rattle.std.proofs.lemmas.Int.{to_z-of_z}
use Rattle.local_text.proofs.Dates.{date_of_date}
use Rattle.local_text.proofs.push_day.Goals as goal

pub returns : goal.returns
returns c =
    let fits : FitsSigned w32 c.args.day = c.ranges.day in
    let is = simp to_z-of_z at c.date_at.ensures in
    subst (λ (date : List ℕ). OnOk c.push_date.result (c.push_date.new.text.items ≡ c.args.text.now.items ++ date))
    (date_of_date c.date_at.result c.args.day is) c.push_date.ensures
