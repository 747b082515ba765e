-- A test of every number from 1 to n, number by number.
use Rattle.std.specs.Prelude.{◌≡◌}
use Rattle.integers.specs.Basics.{ℕ, zero, suc, refl, by_cases, Bool, true, ℕ_discrete, arith}
use Rattle.ledger.specs.Roster.{Numbered}
use Rattle.limits.proofs.Answers.{both_true, and_true}
use Rattle.memory_layout.specs.Rosters.{every}

module _ (test : ℕ → Bool) where
  pub every_out : (n : ℕ) → every n test ≡ true → (k : ℕ) → Numbered n k → test k ≡ true
  unfolding every
  every_out zero e k h = absurd (omega arith)
  every_out (suc n) e k h =
      let both = both_true (every n test) (test (suc n)) e in
      by_cases (ℕ_discrete k (suc n)) (λ same. rw same both.1) (λ apart. every_out n both.0 k (h.0, omega (arith, apart)))

  pub every_in : (n : ℕ) → ((k : ℕ) → Numbered n k → test k ≡ true) → every n test ≡ true
  unfolding every
  every_in zero h = refl
  every_in (suc n) h =
      and_true (every n test) (test (suc n)) (every_in n (λ k l. h k (l.0, omega arith))) (h (suc n) (omega arith, omega arith))

-- tests that agree on the numbers from 1 to n
pub every_same : (f g : ℕ → Bool) (n : ℕ) → ((k : ℕ) → Numbered n k → f k ≡ g k) → every n f ≡ every n g
unfolding every
every_same f g zero h = refl
every_same f g (suc n) h =
    rw (every_same f g n (λ k l. h k (l.0, omega arith)), h (suc n) (omega arith, omega arith))
