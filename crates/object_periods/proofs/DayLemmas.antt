-- The days of a block, and the ranges of a line.
use Rattle.std.proofs.Common.{◌≡◌, ℕ, ◌+◌, ◌*◌, ◌<◌, ◌≤◌, Bool, true, false, cond, List, [], ◌∷◌, length, map, get_or, Option, Some, None, refl, sym, ap, ◌∙◌, arith, leb-true}
use Rattle.std.specs.Prelude.{All, filter_map, if◌then◌else◌, nat_le, unwrap_or, ◌&&◌, ◌==◌, nat_lt}
use Rattle.std.specs.List.{after_first, before_first, cons_option, slice_split}
use Rattle.std.specs.Option.{IfSome}
use Rattle.std.proofs.lemmas.List.{get_or-map, ext_get_or}
use Rattle.std.proofs.lemmas.List.Elements.{All-cons, All-nil}
use Rattle.due_model.specs.claims.Accepted.{RangeFits}
use Rattle.due_model.specs.declared.config.Range.{Range}
use Rattle.object_inheritance.specs.Columns.{Column}
use Rattle.object_periods.specs.claims.Periods.{line_ranges}
use Rattle.object_periods.specs.Periods.{AreDays, column_of}
use Rattle.object_reader.specs.declared.block.Block.{Block}
use Rattle.object_values.specs.claims.Ranges.{are_ranges, is_colon, is_dash, range_between, range_in, ranges_among, time_in, time_of, weekdays}
use Rattle.object_values.specs.claims.Values.{is_comma, number_in}

-- what is kept of a weekday
pub day-is : (blocks : List Block) (days : List Column) (weekday : ℕ) (x : Column) → AreDays blocks days → weekday < 7 → x ≡ get_or days weekday x
    → x ≡ column_of blocks (get_or weekdays weekday [])
day-is blocks days weekday x are low is =
    is ∙ ap (λ (ds : List Column). get_or ds weekday x) are ∙ get_or-map (column_of blocks) weekdays weekday [] x low

-- all days
pub days-are : (f : List ℕ → List Range) (days : List (List Range)) → length days ≡ 7 → ((k : ℕ) → k < 7 → get_or days k [] ≡ f (get_or weekdays k [])) → days ≡ map f weekdays
days-are f days long each =
    ext_get_or [] days (map f weekdays) long
    (λ k low. let within : k < 7 = omega (arith, low, long) in each k within ∙ sym (get_or-map f weekdays k [] [] within))

-- ---- the ranges of a line lie within a day

-- a time is at most the end of the day
time-of : (hours minutes : Option ℕ) → IfSome (time_of hours minutes) (λ t. t ≤ 86400)
time-of None minutes = tt
time-of (Some h) None = tt
time-of (Some h) (Some m) = by_test (nat_lt m 60) (nat_le (h * 60 + m) 1440) refl
  where
    by_test : (a b : Bool) → nat_le (h * 60 + m) 1440 ≡ b → IfSome (cond (a && b) (Some (h * 3600 + m * 60)) None) (λ t. t ≤ 86400)
    by_test false b is = tt
    by_test true false is = tt
    by_test true true is = let low : h * 60 + m ≤ 1440 = leb-true (h * 60 + m) 1440 is in omega (arith, low)

between-fits : (start end : Option ℕ) → IfSome end (λ t. t ≤ 86400) → IfSome (range_between start end) RangeFits
between-fits None end low = tt
between-fits (Some s) None low = tt
between-fits (Some s) (Some e) low = by_test (nat_le s e) refl
  where
    by_test : (b : Bool) → nat_le s e ≡ b → IfSome (cond b (Some (record { start = s; end = e })) None) RangeFits
    by_test false is = tt
    by_test true is = record { ordered = leb-true s e is; in_day = low }

time-in : (text : List ℕ) → IfSome (time_in text) (λ t. t ≤ 86400)
time-in text = time-of
    (if nat_le (length (before_first is_colon text)) 2 then number_in (before_first is_colon text) else None)
    (if length (after_first is_colon text) == 2 then number_in (after_first is_colon text) else None)

range-fits : (text : List ℕ) → IfSome (range_in text) RangeFits
range-fits text = between-fits (time_in (before_first is_dash text)) (time_in (after_first is_dash text)) (time-in (after_first is_dash text))

All-one : (found : Option Range) (others : List Range) → IfSome found RangeFits → All RangeFits others → All RangeFits (cons_option found others)
All-one None others here rest = rest
All-one (Some range) others here rest = All-cons RangeFits range others here rest

among-fit : (parts : List (List ℕ)) → All RangeFits (filter_map range_in parts)
among-fit [] = All-nil RangeFits
among-fit (part ∷ parts) = All-one (range_in part) (filter_map range_in parts) (range-fits part) (among-fit parts)

pub line-fits : (line : Option (List ℕ)) → All RangeFits (line_ranges line)
line-fits None = All-nil RangeFits
line-fits (Some text) = by_test (are_ranges text)
  where
    by_test : (b : Bool) → All RangeFits (unwrap_or (cond b (Some (ranges_among text)) None) [])
    by_test false = All-nil RangeFits
    by_test true = among-fit (slice_split is_comma text)
