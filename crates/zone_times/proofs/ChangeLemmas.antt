-- A zone's offset stays as it is up to its next change and the end of the year of UTC.
use Rattle.std.proofs.Common.{◌≡◌, ℕ, ◌-◌, ◌<◌, ◌≤◌, Bool, true, false, cond, not, ◌&&◌, ◌==◌, int_le, int_lt, ℤ, pos, negsuc, neg_ℤ, ◌<ℤ◌, ◌≤ℤ◌, ◌⊎◌, length, Option, None, Some, option_map, vec_len, IfSome, refl, sym, subst, ap, ap₂, ◌∙◌, ◌^◌, arith, rules, inl, inr}
use Rattle.std.specs.Prelude.{int_div}
use Rattle.jiff.specs.ZoneView.{plain_zone}
use Rattle.due_model.specs.declared.zone.Zone.{Zone}
use Rattle.due_model.specs.declared.zone.Zone.TheVariants.{Utc, Rules, File}
use Rattle.due_model.specs.claims.Local.{offset}
use Rattle.zone_times.specs.Changes.{SameYear, nanos, next_change}
use Rattle.std.proofs.lemmas.Bool.Decides.{nat_tests}
use Rattle.std.proofs.lemmas.List.Sums.{prefix_len_passes, prefix_len-le-length}
use borrow.Author.Differences.{lt-true, lt-false, le-true, le-false}
use Rattle.jiff_core.proofs.SignedLemmas.{signed_arith}
use Rattle.jiff_core.specs.declared.Offset.{Offset}
use Rattle.jiff_core.specs.Timestamp.{nanos_of_seconds}
use Rattle.jiff_tz.specs.declared.info.OffsetInfo.{OffsetInfo}
use Rattle.jiff_tz.specs.declared.posix.Dst.{Dst}
use Rattle.jiff_tz.specs.declared.posix.TimeZone.{TimeZone as PosixZone}
use Rattle.jiff_tz.specs.declared.timezone.TimeZone.{TimeZone}
use Rattle.jiff_tz.specs.declared.timezone.TimeZone.TheVariants.{UTC, Unknown, Fixed, Posix, Tzif as Table}
use Rattle.jiff_tz.specs.declared.tzif.Tzif.{Tzif}
use Rattle.jiff_tz.specs.PosixRule as rule
use Rattle.jiff_tz.specs.PosixRule.{in_window, match_some, ordered, utc_window, transition_of, next_by, next_year}
use Rattle.jiff_tz.specs.Tzif as table
use Rattle.jiff_tz.specs.Tzif.{count_at, floor_second, rule_after, transition_at, type_after, transition_view}
use Rattle.jiff_tz.specs.Year.{year_of_nanos}
use Rattle.jiff_tz.specs.Zone.{offset_at, next_at}
use Rattle.jiff_tz.proofs.ZoneTheorems.{count_is}

lt_tells : (a b : ℤ) → ((int_lt a b ≡ true) × (a <ℤ b)) ⊎ ((int_lt a b ≡ false) × (b ≤ℤ a))
lt_tells a b = elim (int_lt a b) as (λ x. int_lt a b ≡ x → ((x ≡ true) × (a <ℤ b)) ⊎ ((x ≡ false) × (b ≤ℤ a))) [
  | true ↦ λ e. let l = lt-true a b e in inl (refl, omega (arith, signed_arith))
  | false ↦ λ e. let l = lt-false a b e in inr (refl, omega (arith, signed_arith))
] refl

le_tells : (a b : ℤ) → ((int_le a b ≡ true) × (a ≤ℤ b)) ⊎ ((int_le a b ≡ false) × (b <ℤ a))
le_tells a b = elim (int_le a b) as (λ x. int_le a b ≡ x → ((x ≡ true) × (a ≤ℤ b)) ⊎ ((x ≡ false) × (b <ℤ a))) [
  | true ↦ λ e. let l = le-true a b e in inl (refl, omega (arith, signed_arith))
  | false ↦ λ e. let l = le-false a b e in inr (refl, omega (arith, signed_arith))
] refl

lt_yes : (a b : ℤ) → a <ℤ b → int_lt a b ≡ true
lt_yes a b h = elim (lt_tells a b) [ inl is ↦ is.0 | inr over ↦ let l = over.1 in absurd (omega (arith, signed_arith)) ]

lt_not : (a b : ℤ) → b ≤ℤ a → int_lt a b ≡ false
lt_not a b h = elim (lt_tells a b) [ inl is ↦ let l = is.1 in absurd (omega (arith, signed_arith)) | inr over ↦ over.0 ]

le_yes : (a b : ℤ) → a ≤ℤ b → int_le a b ≡ true
le_yes a b h = elim (le_tells a b) [ inl is ↦ is.0 | inr over ↦ let l = over.1 in absurd (omega (arith, signed_arith)) ]

le_not : (a b : ℤ) → b <ℤ a → int_le a b ≡ false
le_not a b h = elim (le_tells a b) [ inl is ↦ let l = is.1 in absurd (omega (arith, signed_arith)) | inr over ↦ over.0 ]

at_most : (a b c : ℤ) → a ≤ℤ b → b ≤ℤ c → a ≤ℤ c
at_most a b c h k = omega (arith, signed_arith)

less : (a b : ℤ) → a <ℤ b → a ≤ℤ b
less a b h = omega (arith, signed_arith)

yes_branch : {A : Type 0} (b : Bool) (x y : A) → b ≡ true → cond b x y ≡ x
yes_branch b x y e = ap (λ c. cond c x y) e

no_branch : {A : Type 0} (b : Bool) (x y : A) → b ≡ false → cond b x y ≡ y
no_branch b x y e = ap (λ c. cond c x y) e

differs : (a b : ℕ) → a < b → (a == b) ≡ false
differs a b h = grind (arith, nat_tests)

-- ---- a rule

module _ (n k : ℤ) (on : n ≤ℤ k) where
  span_stays : (a b : ℤ) → (n <ℤ a → k <ℤ a) → (a ≤ℤ n → n <ℤ b → k <ℤ b) → (int_le a k && int_lt k b) ≡ (int_le a n && int_lt n b)
  span_stays a b before inside = elim (lt_tells n a) [
    | inl early ↦ ap (λ x. x && int_lt k b) (le_not a k (before early.1)) ∙ sym (ap (λ x. x && int_lt n b) (le_not a n early.1))
    | inr begun ↦ ap₂ (λ x y. x && y) (le_yes a k (at_most a n k begun.1 on) ∙ sym (le_yes a n begun.1)) (elim (lt_tells n b) [
      | inl open_yet ↦ lt_yes k b (inside begun.1 open_yet.1) ∙ sym open_yet.0
      | inr over ↦ lt_not k b (at_most b n k over.1 on) ∙ sym over.0
    ])
  ]

  window_stays : (w : ℤ × ℤ) → (n <ℤ (ordered w).0 → k <ℤ (ordered w).0) → ((ordered w).0 ≤ℤ n → n <ℤ (ordered w).1 → k <ℤ (ordered w).1) → in_window w k ≡ in_window w n
  window_stays w = elim (int_le w.0 w.1) as (λ x. (n <ℤ (cond x w (w.1, w.0)).0 → k <ℤ (cond x w (w.1, w.0)).0)
      → ((cond x w (w.1, w.0)).0 ≤ℤ n → n <ℤ (cond x w (w.1, w.0)).1 → k <ℤ (cond x w (w.1, w.0)).1)
      → cond x (int_le w.0 k && int_lt k w.1) (not (int_le w.1 k && int_lt k w.0)) ≡ cond x (int_le w.0 n && int_lt n w.1) (not (int_le w.1 n && int_lt n w.0))) [
        | true ↦ λ before inside. span_stays w.0 w.1 before inside
        | false ↦ λ before inside. ap not (span_stays w.1 w.0 before inside)
      ]

  module _ (low : neg_ℤ (pos 377_705_023_201_000_000_000) ≤ℤ n) (high : k ≤ℤ pos 253_402_207_200_999_999_999) (tz : PosixZone) where
    -- a transition of the window that isn't told lies past the last instant
    told : (d : Dst) (w : ℤ × ℤ) (m : ℤ) → n ≤ℤ m → ((t : ℤ × OffsetInfo) → transition_of tz d w m ≡ Some t → k <ℤ t.0) → k <ℤ m
    told d w m up none = elim (le_tells m (pos 253_402_207_200_999_999_999)) [
      | inl inside ↦ none (m, cond (in_window w m) (rule.dst_info d) (rule.std_info tz))
          (ap (λ x. cond x (Some (m, cond (in_window w m) (rule.dst_info d) (rule.std_info tz))) None)
          (ap₂ (λ x y. x && y) (le_yes (neg_ℤ (pos 377_705_023_201_000_000_000)) m (at_most _ n m low up)) inside.0))
      | inr past ↦ let l = past.1 in omega (arith, signed_arith)
    ]

    module _ (d : Dst) (same : year_of_nanos k ≡ year_of_nanos n) (none : (t : ℤ × OffsetInfo) → next_by tz d (year_of_nanos n) n ≡ Some t → k <ℤ t.0) where
      the_window : ℤ × ℤ
      the_window = utc_window d (year_of_nanos n) tz.std_offset

      -- what is told where the first of the window's transitions has passed
      second_or_later : Option (ℤ × OffsetInfo)
      second_or_later = cond (int_lt n (ordered the_window).1) (transition_of tz d the_window (ordered the_window).1) (next_year tz d (year_of_nanos n))

      before_first : n <ℤ (ordered the_window).0 → k <ℤ (ordered the_window).0
      unfolding the_window second_or_later
      before_first h = told d the_window (ordered the_window).0 (less n (ordered the_window).0 h)
          (λ t e. none t (yes_branch (int_lt n (ordered the_window).0) (transition_of tz d the_window (ordered the_window).0) second_or_later (lt_yes n (ordered the_window).0 h) ∙ e))

      before_second : (ordered the_window).0 ≤ℤ n → n <ℤ (ordered the_window).1 → k <ℤ (ordered the_window).1
      unfolding the_window second_or_later
      before_second past h = told d the_window (ordered the_window).1 (less n (ordered the_window).1 h)
          (λ t e. none t (no_branch (int_lt n (ordered the_window).0) (transition_of tz d the_window (ordered the_window).0) second_or_later (lt_not n (ordered the_window).0 past)
          ∙ (yes_branch (int_lt n (ordered the_window).1) (transition_of tz d the_window (ordered the_window).1) (next_year tz d (year_of_nanos n)) (lt_yes n (ordered the_window).1 h) ∙ e)))

      dst_stays : rule.dst_at_by tz.std_offset (Some d) k ≡ rule.dst_at_by tz.std_offset (Some d) n
      unfolding the_window
      dst_stays =
          ap (λ y. cond (in_window (utc_window d y tz.std_offset) k) (Some d) None) same
          ∙ ap (λ x. cond x (Some d) None) (window_stays the_window before_first before_second)

    rule_by : (dst : Option Dst) → year_of_nanos k ≡ year_of_nanos n
        → ((t : ℤ × OffsetInfo) → match_some dst None (λ d. next_by tz d (year_of_nanos n) n) ≡ Some t → k <ℤ t.0)
        → rule.dst_at_by tz.std_offset dst k ≡ rule.dst_at_by tz.std_offset dst n
    rule_by None same none = refl
    rule_by (Some d) same none = dst_stays d same none

    pub rule_stays : year_of_nanos k ≡ year_of_nanos n → ((t : ℤ × OffsetInfo) → rule.next_at tz n ≡ Some t → k <ℤ t.0) → rule.offset_at tz k ≡ rule.offset_at tz n
    rule_stays same none = ap (λ (d : Option Dst). match_some d tz.std_offset (λ x. x.offset)) (rule_by tz.dst same none)

  -- ---- a table

  floors : floor_second n ≤ℤ floor_second k
  floors = omega (arith, signed_arith)

  module _ (z : Tzif) where
    reached : (j : ℕ) → j < count_at z (floor_second n) → (transition_at z j).second ≤ℤ floor_second n
    reached j h =
        let pass = prefix_len_passes (λ t. int_le t.second (floor_second n)) z.transitions.items j (table.no_transition z) h in
        let l = le-true (transition_at z j).second (floor_second n) pass in
        omega (arith, signed_arith)

    same_count : (count_at z (floor_second n) < length z.transitions.items → k <ℤ nanos_of_seconds (transition_at z (count_at z (floor_second n))).second)
        → count_at z (floor_second k) ≡ count_at z (floor_second n)
    same_count before =
        count_is z (floor_second k) (count_at z (floor_second n)) (prefix_len-le-length _ z.transitions.items)
        (λ some. at_most _ _ _ (reached (count_at z (floor_second n) - 1) (omega (arith, some))) floors)
        (λ less. under (transition_at z (count_at z (floor_second n))).second (before less))
      where
        under : (s : ℤ) → k <ℤ nanos_of_seconds s → floor_second k <ℤ s
        under s h = omega (arith, signed_arith)

    same_rule : (low : neg_ℤ (pos 377_705_023_201_000_000_000) ≤ℤ n) (high : k ≤ℤ pos 253_402_207_200_999_999_999) → year_of_nanos k ≡ year_of_nanos n
        → (b : Bool) (tz : Option PosixZone) (here : Offset) (row : ℤ × OffsetInfo)
        → ((t : ℤ × OffsetInfo) → cond b (match_some tz None (λ r. rule.next_at r n)) (Some row) ≡ Some t → k <ℤ t.0)
        → match_some (cond b tz None) here (λ r. rule.offset_at r k) ≡ match_some (cond b tz None) here (λ r. rule.offset_at r n)
    same_rule low high same false tz here row none = refl
    same_rule low high same true None here row none = refl
    same_rule low high same true (Some tz) here row none = rule_stays low high tz same none

    pub table_stays : neg_ℤ (pos 377_705_023_201_000_000_000) ≤ℤ n → k ≤ℤ pos 253_402_207_200_999_999_999 → year_of_nanos k ≡ year_of_nanos n
        → ((t : ℤ × OffsetInfo) → table.next_at z n ≡ Some t → k <ℤ t.0) → table.offset_at z k ≡ table.offset_at z n
    table_stays low high same none =
        let now = count_at z (floor_second n) in
        let row = transition_view (transition_at z now) in
        let whole : vec_len z.transitions ≡ length z.transitions.items = search rules in
        let count = same_count (λ before. none row (no_branch (now == vec_len z.transitions) (match_some z.posix_tz None (λ tz. rule.next_at tz n)) (Some row) (differs now (vec_len z.transitions) (omega (arith, before, whole))))) in
        ap (λ (m : ℕ). match_some (rule_after z m) (type_after z m).offset (λ tz. rule.offset_at tz k)) count
        ∙ same_rule low high same (now == vec_len z.transitions) z.posix_tz (type_after z now).offset row none

  -- ---- any zone of `jiff`

  pub zone_stays : (zone : TimeZone) → neg_ℤ (pos 377_705_023_201_000_000_000) ≤ℤ n → k ≤ℤ pos 253_402_207_200_999_999_999 → year_of_nanos k ≡ year_of_nanos n
      → ((t : ℤ × OffsetInfo) → next_at zone n ≡ Some t → k <ℤ t.0) → offset_at zone k ≡ offset_at zone n
  unfolding offset_at next_at
  zone_stays UTC low high same none = refl
  zone_stays Unknown low high same none = refl
  zone_stays (Fixed offset) low high same none = refl
  zone_stays (Posix tz) low high same none = ap (λ (o : Offset). o.seconds) (rule_stays low high tz same none)
  zone_stays (Table z) low high same none = ap (λ (o : Offset). o.seconds) (table_stays z.now low high same none)

-- ---- moments

after_first : (t : ℕ) → neg_ℤ (pos 377_705_023_201_000_000_000) ≤ℤ nanos t
after_first t = omega (arith, signed_arith)

before_last : (k : ℕ) → k < 2 ^ 36 → nanos k ≤ℤ pos 253_402_207_200_999_999_999
before_last k h = omega (arith, signed_arith)

goes_up : (t k : ℕ) → t ≤ k → nanos t ≤ℤ nanos k
goes_up t k h = omega (arith, signed_arith)

pub below_change : (k : ℕ) (change : ℤ) → pos k <ℤ int_div change (pos 1_000_000_000) → nanos k <ℤ change
below_change k (pos n) h = omega (arith, signed_arith)
below_change k (negsuc n) h = absurd (omega (arith, signed_arith))

offset_stays : (zone : Zone) (t k : ℕ) → t ≤ k → k < 2 ^ 36 → SameYear t k → ((s : ℤ) → next_change zone t ≡ Some s → nanos k <ℤ s) → offset zone k ≡ offset zone t
offset_stays Utc t k low high same none = refl
offset_stays (Rules zone) t k low high same none =
    zone_stays (nanos t) (nanos k) (goes_up t k low) (plain_zone zone) (after_first t) (before_last k high) same (λ x e. none x.0 (ap (option_map (λ (y : ℤ × OffsetInfo). y.0)) e))
offset_stays (File rules) t k low high same none = ap (λ (o : Offset). o.seconds)
    (table_stays (nanos t) (nanos k) (goes_up t k low) rules (after_first t) (before_last k high) same (λ x e. none x.0 (ap (option_map (λ (y : ℤ × OffsetInfo). y.0)) e)))

pub until_change : (zone : Zone) (t k : ℕ) (found : Option ℤ) → found ≡ next_change zone t → t ≤ k → k < 2 ^ 36 → SameYear t k → IfSome found (λ s. nanos k <ℤ s)
    → offset zone k ≡ offset zone t
until_change zone t k found e low high same before =
    offset_stays zone t k low high same (λ s is. subst (λ (o : Option ℤ). IfSome o (λ x. nanos k <ℤ x)) (e ∙ is) before)
