-- The roster of a memory is what its words say of the numbers on it; entries that are not on it do not count.
use Rattle.std.specs.Prelude.{◌+◌, ◌≤◌, ◌<◌, ◌≡◌}
use Rattle.integers.specs.Basics.{ℕ, refl, ◌∙◌, sym, ap, fun_ext, Bool, true, false, cond, List, ℤ, pos, leb, arith}
use Rattle.integers.specs.Basics.{le-leb}
use Rattle.words.specs.Words.{word_at, signed_at, part_of}
use Rattle.words.proofs.Parts.{word_part}
use Rattle.integers.specs.TwosComplement.{signed_of}
use Rattle.ledger.specs.Roster.{Roster, Numbered}
use Rattle.ledger.specs.Records.{roster_in}
use Rattle.limits.proofs.Answers.{and_true}
use Rattle.book.specs.Decoding.{between}
use Rattle.book.proofs.Tables.{between_numbered}
use Rattle.memory_layout.specs.Rosters.{listed}
use Rattle.memory_layout.specs.View.{roster_of}

-- what a test decides, by its two outcomes
pub by_test : {A : Type 0} (t : Bool) (x y : A) (P : A → Type 0) → (t ≡ true → P x) → (t ≡ false → P y) → P (cond t x y)
by_test true x y P taken left = taken refl
by_test false x y P taken left = left refl

pub same_where : {A : Type 0} (t : Bool) (x y otherwise : A) → (t ≡ true → x ≡ y) → cond t x otherwise ≡ cond t y otherwise
same_where true x y otherwise same = same refl
same_where false x y otherwise same = refl

pub numbered_between : (most n : ℕ) → Numbered most n → between 1 most n ≡ true
numbered_between most n on = and_true (leb 1 n) (leb n most) (le-leb 1 n on.0) (le-leb n most on.1)

-- a table that says nothing of what is not on the roster
abbrev guarded : {A : Type 0} → ℕ → (ℕ → A) → A → ℕ → A
guarded most f otherwise k = cond (between 1 most k) (f k) otherwise

pub guarded_same : {A : Type 0} (most : ℕ) (f g : ℕ → A) (otherwise : A) → ((k : ℕ) → 1 ≤ k → k ≤ most → f k ≡ g k)
    → guarded most f otherwise ≡ guarded most g otherwise
guarded_same most f g otherwise same =
    fun_ext
    (λ k. same_where (between 1 most k) _ _ _ (λ e. same k (between_numbered most k e).0 (between_numbered most k e).1))

pub listed_same : (a g c i : ℕ) (f f' h h' : ℕ → ℕ) (w w' : ℕ → ℤ) → ((k : ℕ) → 1 ≤ k → k ≤ c → f k ≡ f' k)
    → ((k : ℕ) → 1 ≤ k → k ≤ i → h k ≡ h' k) → ((k : ℕ) → 1 ≤ k → k ≤ i → w k ≡ w' k) → listed a g c i f h w ≡ listed a g c i f' h' w'
unfolding listed
listed_same a g c i f f' h h' w w' groups contracts weights =
    let roster : (ℕ → ℕ) → (ℕ → ℕ) → (ℕ → ℤ) → Roster =
    λ x y z. record { accounts = a; groups = g; contracts = c; instruments = i; group_of = x; contract_of = y; weight = z } in
    ap (λ x. roster x (guarded i h 0) (guarded i w (pos 0))) (guarded_same c f f' 0 groups)
    ∙ ap (λ y. roster (guarded c f' 0) y (guarded i w (pos 0))) (guarded_same i h h' 0 contracts)
    ∙ ap (λ z. roster (guarded c f' 0) (guarded i h' 0) z) (guarded_same i w w' (pos 0) weights)

-- a word of the roster's part
in_part : (m : List ℕ) (j k : ℕ) → j < 76 → 1 + j ≡ k → word_at (part_of m 1 76) j ≡ word_at m k
in_part m j k h e = word_part m 1 76 j h ∙ ap (word_at m) e

-- a memory's roster, from its words
module _ (m : List ℕ) (a g c i : ℕ) (f h : ℕ → ℕ) (w : ℕ → ℤ) (ea : word_at m 1 ≡ a) (eg : word_at m 2 ≡ g) (ec : word_at m 3 ≡ c)
    (ei : word_at m 4 ≡ i) (few : c ≤ 8) (less : i ≤ 32) where
  pub roster_of_words : ((k : ℕ) → 1 ≤ k → k ≤ c → word_at m (4 + k) ≡ f k) → ((k : ℕ) → 1 ≤ k → k ≤ i → word_at m (12 + k) ≡ h k)
      → ((k : ℕ) → 1 ≤ k → k ≤ i → signed_at m (44 + k) ≡ w k) → roster_of m ≡ listed a g c i f h w
  unfolding roster_of roster_in signed_at
  roster_of_words groups contracts weights =
      rw (
        in_part m 0 1 (omega arith) refl ∙ ea,
        in_part m 1 2 (omega arith) refl ∙ eg,
        in_part m 2 3 (omega arith) refl ∙ ec,
        in_part m 3 4 (omega arith) refl ∙ ei,
      )
      (listed_same a g c i (λ k. word_at (part_of m 1 76) (3 + k)) f (λ k. word_at (part_of m 1 76) (11 + k)) h
      (λ k. signed_of 64 (word_at (part_of m 1 76) (43 + k))) w
      (λ k low high. in_part m (3 + k) (4 + k) (omega arith) (omega arith) ∙ groups k low high)
      (λ k low high. in_part m (11 + k) (12 + k) (omega arith) (omega arith) ∙ contracts k low high)
      (λ k low high. ap (signed_of 64) (in_part m (43 + k) (44 + k) (omega arith) (omega arith)) ∙ weights k low high))

-- ---- the sizes are within their limits
pub record Sized (r : Roster) : Type 0 where
  pub accounts : r.accounts ≤ 16
  pub groups : r.groups ≤ 4
  pub contracts : r.contracts ≤ 8
  pub instruments : r.instruments ≤ 32

-- memories with the same words there have the same roster
module _ (l m : List ℕ) (sized : Sized (roster_of m)) where
  few_contracts : word_at m 3 ≤ 8
  unfolding roster_of roster_in listed
  few_contracts = omega (arith, sized.contracts, in_part m 2 3 (omega arith) refl)

  few_instruments : word_at m 4 ≤ 32
  unfolding roster_of roster_in listed
  few_instruments = omega (arith, sized.instruments, in_part m 3 4 (omega arith) refl)

  pub roster_same : ((k : ℕ) → 1 ≤ k → k < 77 → word_at l k ≡ word_at m k) → roster_of l ≡ roster_of m
  unfolding signed_at
  roster_same same =
      let read : List ℕ → ℕ → ℕ → ℕ = λ x b k. word_at x (b + k) in
      roster_of_words l (word_at m 1) (word_at m 2) (word_at m 3) (word_at m 4) (read m 4) (read m 12)
      (λ k. signed_of 64 (word_at m (44 + k)))
      (same 1 (omega arith) (omega arith)) (same 2 (omega arith) (omega arith)) (same 3 (omega arith) (omega arith))
      (same 4 (omega arith) (omega arith))
      few_contracts few_instruments
      (λ k low high. same (4 + k) (omega arith) (omega (arith, few_contracts)))
      (λ k low high. same (12 + k) (omega arith) (omega (arith, few_instruments)))
      (λ k low high. ap (signed_of 64) (same (44 + k) (omega arith) (omega (arith, few_instruments))))
      ∙ sym
      (roster_of_words m (word_at m 1) (word_at m 2) (word_at m 3) (word_at m 4) (read m 4) (read m 12)
      (λ k. signed_of 64 (word_at m (44 + k))) refl refl refl refl
      few_contracts few_instruments
      (λ k low high. refl) (λ k low high. refl) (λ k low high. refl))
