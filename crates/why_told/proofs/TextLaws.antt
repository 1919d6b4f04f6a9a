-- Texts that are put together.
use Rattle.std.proofs.Common.{◌≡◌, ℕ, List, ◌++◌, ap, ◌∙◌, append_assoc}

-- a part that is the same as another
pub part : (t u x y : List ℕ) → u ≡ t ++ x → x ≡ y → u ≡ t ++ y
part t u x y h e = h ∙ ap (λ (s : List ℕ). t ++ s) e

-- one part more
more_text : (t0 x t u b : List ℕ) → t ≡ t0 ++ x → u ≡ t ++ b → u ≡ t0 ++ (x ++ b)
more_text t0 x t u b h k = k ∙ ap (λ (s : List ℕ). s ++ b) h ∙ append_assoc t0 x b

-- four parts, one after another
pub four_parts : (t0 t1 t2 t3 t4 a b c d : List ℕ) → t1 ≡ t0 ++ a → t2 ≡ t1 ++ b → t3 ≡ t2 ++ c → t4 ≡ t3 ++ d
    → t4 ≡ t0 ++ (((a ++ b) ++ c) ++ d)
four_parts t0 t1 t2 t3 t4 a b c d h1 h2 h3 h4 =
    more_text t0 ((a ++ b) ++ c) t3 t4 d (more_text t0 (a ++ b) t2 t3 c (more_text t0 a t1 t2 b h1 h2) h3) h4

-- five
pub five_parts : (t0 t1 t2 t3 t4 t5 a b c d e : List ℕ) → t1 ≡ t0 ++ a → t2 ≡ t1 ++ b → t3 ≡ t2 ++ c → t4 ≡ t3 ++ d → t5 ≡ t4 ++ e
    → t5 ≡ t0 ++ ((((a ++ b) ++ c) ++ d) ++ e)
five_parts t0 t1 t2 t3 t4 t5 a b c d e h1 h2 h3 h4 h5 =
    more_text t0 (((a ++ b) ++ c) ++ d) t4 t5 e
    (more_text t0 ((a ++ b) ++ c) t3 t4 d (more_text t0 (a ++ b) t2 t3 c (more_text t0 a t1 t2 b h1 h2) h3) h4) h5

-- seven
pub seven_parts : (t0 t1 t2 t3 t4 t5 t6 t7 a b c d e f g : List ℕ) → t1 ≡ t0 ++ a → t2 ≡ t1 ++ b → t3 ≡ t2 ++ c → t4 ≡ t3 ++ d → t5 ≡ t4 ++ e
    → t6 ≡ t5 ++ f → t7 ≡ t6 ++ g → t7 ≡ t0 ++ ((((((a ++ b) ++ c) ++ d) ++ e) ++ f) ++ g)
seven_parts t0 t1 t2 t3 t4 t5 t6 t7 a b c d e f g h1 h2 h3 h4 h5 h6 h7 =
    more_text t0 (((((a ++ b) ++ c) ++ d) ++ e) ++ f) t6 t7 g
    (more_text t0 ((((a ++ b) ++ c) ++ d) ++ e) t5 t6 f (five_parts t0 t1 t2 t3 t4 t5 a b c d e h1 h2 h3 h4 h5) h6) h7
