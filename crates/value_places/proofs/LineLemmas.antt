-- How the line of a directive is found.
use Rattle.std.proofs.Common.{◌≡◌, ℕ, ◌+◌, ◌<◌, ◌≤◌, inl, inr, true, false, List, length, refl, sym, ap, subst, ⊎_elim, ◌∙◌, arith}
use Rattle.std.proofs.lemmas.Bool.{false≢true, cases_lt}
use Rattle.value_places.specs.Lines.{begins_block, IsLineOf, IsSoFar, names}

pub lines-none : (lines : List (List ℕ)) (define : ℕ) (name : List ℕ) → IsSoFar lines define name define define
lines-none lines define name = record {
  one = inl refl;
  last = λ at behind before gives. absurd (omega (arith, behind, before));
  block = λ other behind before. absurd (omega (arith, behind, before));
  behind = omega arith;
}

-- one line more is in the block
more-block : (lines : List (List ℕ)) (define : ℕ) (name : List ℕ) (end number : ℕ) → IsSoFar lines define name end number
    → begins_block lines end ≡ false
    → (other : ℕ) → define ≤ other → other < end + 1 → begins_block lines other ≡ false
more-block lines define name end number far apart other behind before = ⊎_elim
    (λ (early : other < end). far.block other behind early)
    (λ (late : end ≤ other). let same : other ≡ end = omega (arith, before, late) in subst (λ (n : ℕ). begins_block lines n ≡ false) (sym same) apart)
    (cases_lt other end)

-- that gives the directive
pub lines-found : (lines : List (List ℕ)) (define : ℕ) (name : List ℕ) (end number found : ℕ) → end < length lines → IsSoFar lines define name end number
    → begins_block lines end ≡ false → names lines name end ≡ true → found ≡ end + 1 → IsSoFar lines define name (end + 1) found
lines-found lines define name end number found within far apart named is = record {
  one = inr (record {
    at = end;
    is = is;
    gives = record {
      behind = far.behind;
      within = within;
      names = named;
      block = λ other behind before. more-block lines define name end number far apart other behind (omega (arith, before));
    };
  });
  last = λ at later before gives. absurd (omega (arith, later, before, is));
  block = more-block lines define name end number far apart;
  behind = let low = far.behind in omega (arith, low);
}

-- that doesn't
pub lines-other : (lines : List (List ℕ)) (define : ℕ) (name : List ℕ) (end number found : ℕ) → IsSoFar lines define name end number
    → begins_block lines end ≡ false → names lines name end ≡ false → found ≡ number → IsSoFar lines define name (end + 1) found
lines-other lines define name end number found far apart unnamed is =
    subst (λ (n : ℕ). IsSoFar lines define name (end + 1) n) (sym is) (record {
      one = far.one;
      last = λ at later before gives. ⊎_elim
          (λ (early : at < end). far.last at later early gives)
          (λ (late : end ≤ at). let same : at ≡ end = omega (arith, before, late) in false≢true (sym unnamed ∙ ap (λ (n : ℕ). names lines name n) (sym same) ∙ gives.names))
          (cases_lt at end);
      block = more-block lines define name end number far apart;
      behind = let low = far.behind in omega (arith, low);
    })

-- the next block
pub lines-next : (lines : List (List ℕ)) (define : ℕ) (name : List ℕ) (end number : ℕ) → IsSoFar lines define name end number
    → begins_block lines end ≡ true → IsLineOf lines define name number
lines-next lines define name end number far next = record {
  one = far.one;
  last = λ at later gives. ⊎_elim
      (λ (early : at < end). far.last at later early gives)
      (λ (late : end ≤ at). false≢true (sym (gives.block end far.behind late) ∙ next))
      (cases_lt at end);
}

-- no line more
pub lines-end : (lines : List (List ℕ)) (define : ℕ) (name : List ℕ) (end number : ℕ) → length lines ≤ end → IsSoFar lines define name end number → IsLineOf lines define name number
lines-end lines define name end number all far = record {
  one = far.one;
  last = λ at later gives. let low = gives.within in far.last at later (omega (arith, low, all)) gives;
}
