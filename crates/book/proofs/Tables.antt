-- Tables changed at one number, and tests turned into facts.
use Rattle.std.specs.Prelude.{◌≡◌, ◌≢◌, ◌≤ℤ◌}
use Rattle.integers.specs.Basics.{ℕ, true, cond, ℤ, pos, nat_abs, le_z, leb, leb-true, eq-eqb, ne_eqb, signed}
use Rattle.integers.specs.Basics.{magnitude_parts}
use Rattle.ledger.specs.Roster.{Numbered}
use Rattle.ledger.proofs.Ways.{by_number}
use Rattle.limits.proofs.Answers.{both_true}
use Rattle.book.specs.Decoding.{between}
use Rattle.book.specs.Books.{at}
use Rattle.book.specs.Table.{between_ℤ, is_quantity}

module _ {A : Type 0} (n : ℕ) (x : A) (f : ℕ → A) where
  pub at_here : (k : ℕ) → k ≡ n → at n x f k ≡ x
  at_here k e = rw (eq-eqb k n e)

  pub at_elsewhere : (k : ℕ) → k ≢ n → at n x f k ≡ f k
  at_elsewhere k h = rw (ne_eqb k n h)

  -- what holds of x at n and of the table elsewhere holds of the changed table
  pub at_each : (P : A → Type 0) (k : ℕ) → (k ≡ n → P x) → (k ≢ n → P (f k)) → P (at n x f k)
  at_each P k here elsewhere = by_number k n (λ t. P (cond t x (f k))) here elsewhere

pub between_numbered : (most n : ℕ) → between 1 most n ≡ true → Numbered most n
between_numbered most n e =
    let h = both_true (leb 1 n) (leb n most) e in
    (leb-true 1 n h.0, leb-true n most h.1)

pub between_ℤ_both : (low high z : ℤ) → between_ℤ low high z ≡ true → (low ≤ℤ z) × (z ≤ℤ high)
between_ℤ_both low high z e =
    let h = both_true (le_z low z) (le_z z high) e in
    omega signed

pub quantity_numbered : (n : ℤ) → is_quantity n ≡ true → Numbered 1000000 (nat_abs n)
quantity_numbered n e =
    let h = between_ℤ_both (pos 1) (pos 1000000) n e in
    omega (signed, magnitude_parts n)
