-- Where the first record stands when an order joins or leaves: which side moves, and that it stays inside the region.
use Rattle.std.specs.Prelude.{◌+◌, ◌*◌, ◌-◌, ◌≤◌, ◌<◌, ◌≡◌, ◌⊎◌, ◌&&◌}
use Rattle.integers.specs.Basics.{ℕ, inl, inr, Bool, true, false, cond, List, ltb, eqb}
use Rattle.integers.specs.Basics.{arith, ltb-true, lt-ltb, le-ltb}
use Rattle.words.specs.Words.{word_at}
use Rattle.limits.proofs.Answers.{both_true}
use Rattle.memory_layout.specs.Layout.{count_word}
use Rattle.memory_layout.specs.View.{first_of}
use Rattle.memory_layout.specs.Stores.{joined_first, left_first}
use Rattle.memory_layout.proofs.RosterLaws.{by_test}

module _ (x y a n : ℕ) (t : Bool) where
  pub side_before : a < n → t ≡ true → cond (ltb a n && t) x y ≡ x
  side_before less on = rw (lt-ltb a n less, on)

  pub side_behind : ((a < n) × (t ≡ false)) ⊎ (n ≤ a) → cond (ltb a n && t) x y ≡ y
  side_behind (inl both) = rw (lt-ltb a n both.0, both.1)
  side_behind (inr most) = rw (le-ltb a n most)

  -- what holds of both, of the first where t holds
  side_small : (most : ℕ) → (t ≡ true → x ≤ most) → y ≤ most → cond (ltb a n && t) x y ≤ most
  side_small most hx hy = by_test (ltb a n && t) x y (λ z. z ≤ most) (λ e. hx (both_true (ltb a n) t e).1) (λ e. hy)

-- the first record stands inside the region wherever an order joins or leaves
module _ (m : List ℕ) (p : ℕ) (few : first_of m ≤ 256) where
  pub joined_small : joined_first m p ≤ 256
  unfolding joined_first
  joined_small =
      side_small (first_of m - 1) (cond (eqb (first_of m) 256) 0 (first_of m)) (p * 2) (word_at m count_word) (ltb 0 (first_of m)) 256
      (λ e. omega arith)
      (by_test (eqb (first_of m) 256) 0 (first_of m) (λ z. z ≤ 256) (λ e. omega arith) (λ e. few))

  pub left_small : left_first m p ≤ 256
  unfolding left_first
  left_small =
      side_small (first_of m + 1) (first_of m) (p * 2) (word_at m count_word) (ltb (first_of m) 256) 256
      (λ e. omega (arith, ltb-true (first_of m) 256 e)) few
