-- What stands in a list from a place on: cut in two, and how much of it there is.
use Rattle.std.specs.Prelude.{◌+◌, ◌-◌, ◌≡◌, ◌++◌}
use Rattle.integers.specs.Basics.{ℕ, ◌∙◌, sym, ap, List, length, take, drop}
use lib.ListN.{length-append, length-drop, take-append-drop}
use lib.Seq.{drop-drop, drop-append_seam}

module _ {A : Type 0} (s : List A) (p : ℕ) where
  -- the first k, and what stands behind them
  pub cut_at : (k : ℕ) → drop p s ≡ take k (drop p s) ++ drop (p + k) s
  cut_at k = sym (take-append-drop k (drop p s)) ∙ ap (λ l. take k (drop p s) ++ l) (drop-drop k p s)

  module _ (x y : List A) (e : drop p s ≡ x ++ y) where
    pub behind : drop (p + length x) s ≡ y
    behind = sym (drop-drop (length x) p s) ∙ ap (drop (length x)) e ∙ drop-append_seam x y

    pub room : length x + length y ≡ length s - p
    room = sym (length-append x y) ∙ ap length (sym e) ∙ length-drop p s
