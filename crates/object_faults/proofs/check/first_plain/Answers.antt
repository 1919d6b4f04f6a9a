use Rattle.std.proofs.Common.{◌∙◌, ap, length, map}
use Rattle.object_faults.specs.Columns.{first_at, lacking_at, value_columns}
use Rattle.object_faults.specs.claims.Faults.{is_registered}
use Rattle.object_faults.proofs.FirstLemmas.{first-both}
use Rattle.object_faults.proofs.check.first_plain.Goals as goal

pub first_lacking-requires : goal.first_lacking-requires
first_lacking-requires c = c.as_slice-registered.ensures.value ∙ c.in_ok-marks.ensures ∙ ap (map is_registered) c.blocks-2.ensures.value

pub first_broken-requires : goal.first_broken-requires
first_broken-requires c = c.as_slice-registered.ensures.value ∙ c.in_ok-marks.ensures ∙ ap (map is_registered) c.blocks-2.ensures.value

pub returns : goal.returns
returns c =
    let blocks = c.args.templates.now in
    first-both (length blocks) (lacking_at blocks) (first_at blocks value_columns) c.in_ok-lacking.lacking c.in_ok-broken.broken _ c.earlier.ensures c.in_ok-lacking.ensures c.in_ok-broken.ensures
