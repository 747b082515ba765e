-- The roster that bytes say, as tables, and the questions that it is asked; all that a day computes with from its bytes on, as one name.
use Rattle.std.specs.Prelude.{◌+◌, ◌*◌, ◌≡◌, ◌∷◌}
use Rattle.integers.specs.Basics.{ℕ, zero, suc, refl, ap, fun_ext, Bool, true, false, cond, List, [], ℤ, pos, ltb}
use Rattle.integers.specs.Basics.{length, get_or, arith, ltb-true, ltb-false, le-leb}
use Prim.Native.Nat.compare
use Rattle.words.specs.Fields.{u8_at, u16_at, i32_at}
use Rattle.ledger.specs.Roster.{Roster}
use Rattle.limits.specs.Questions.{Question}
use Rattle.book.specs.Decoding.{between}
use Rattle.book.specs.Table.{q}
use Rattle.book.specs.Rosters.{Tables, roster_of_tables, weight_bytes, roster_bytes}
use Rattle.book.proofs.Computed.{computes}
use Rattle.memory_layout.specs.Rosters.{listed, every, sizes_fit, names_fit, weights_fit}
use Rattle.memory_opening.specs.Questions.{roster_from, roster_length, lengths_fit}

module _ {A : Type 0} (none : A) where
  -- the values of f at 0 to n − 1
  abbrev values_of : ℕ → (ℕ → A) → List A
  values_of zero f = []
  values_of (suc n) f = f zero ∷ values_of n (λ k. f (suc k))

  values_length : (n : ℕ) (f : ℕ → A) → n ≡ length (values_of n f)
  values_length zero f = refl
  values_length (suc n) f = ap suc (values_length n (λ k. f (suc k)))

  value_at : (n : ℕ) (f : ℕ → A) (k : ℕ) (t : Bool) → ltb k n ≡ t → cond t (f k) none ≡ get_or (values_of n f) k none
  value_at zero f k true e = absurd (omega (arith, ltb-true k 0 e))
  value_at zero f k false e = refl
  value_at (suc n) f zero true e = refl
  value_at (suc n) f zero false e = absurd (omega (arith, ltb-false 0 (suc n) e))
  value_at (suc n) f (suc k) t e = value_at n (λ j. f (suc j)) k t (rw (← compare.suc-suc (suc k) n) e)

  -- a table that says nothing of what is not on the roster
  module _ (n : ℕ) (f : ℕ → A) where
    abbrev within : ℕ → A
    within k = cond (between 1 n k) (f k) none

    abbrev tabled : ℕ → A
    tabled k = get_or (none ∷ values_of n (λ j. f (suc j))) k none

    table_of : within ≡ tabled
    table_of = fun_ext at
      where
        at : (k : ℕ) → within k ≡ tabled k
        at zero = refl
        at (suc k) = rw (le-leb 1 (suc k) (omega arith)) (value_at n (λ j. f (suc j)) k (ltb k n) refl)

-- the tables that the bytes of a roster say
unfoldable pub tables_from : List ℕ → Tables
tables_from s =
    let contracts = u16_at s 4 in
    let instruments = u16_at s 6 in
    record {
      accounts = u16_at s 0;
      groups = u16_at s 2;
      group_of = values_of 0 contracts (λ k. u8_at s (7 + suc k));
      contract_of = values_of 0 instruments (λ k. u8_at s (7 + contracts + suc k));
      weights = values_of (pos 0) instruments (λ k. i32_at s (4 + contracts + instruments + 4 * suc k));
    }

module _ (a g : ℕ) where
  abbrev roster : ℕ → ℕ → (ℕ → ℕ) → (ℕ → ℕ) → (ℕ → ℤ) → Roster
  roster c i f h w =
      record { accounts = a; groups = g; contracts = c; instruments = i; group_of = f; contract_of = h; weight = w }

  same_roster : {c d i j : ℕ} {f g f' g' : ℕ → ℕ} {w w' : ℕ → ℤ} → c ≡ d → i ≡ j → f ≡ g → f' ≡ g' → w ≡ w'
      → roster c i f f' w ≡ roster d j g g' w'
  same_roster contracts instruments group_of contract_of weight = rw (contracts, instruments, group_of, contract_of, weight)

pub roster_read : (s : List ℕ) → roster_from s ≡ roster_of_tables (tables_from s)
unfolding roster_from listed roster_of_tables tables_from
roster_read s =
    let contracts = u16_at s 4 in
    let instruments = u16_at s 6 in
    same_roster (u16_at s 0) (u16_at s 2)
    (values_length 0 contracts (λ k. u8_at s (7 + suc k)))
    (values_length 0 instruments (λ k. u8_at s (7 + contracts + suc k)))
    (table_of 0 contracts (λ c. u8_at s (7 + c)))
    (table_of 0 instruments (λ i. u8_at s (7 + contracts + i)))
    (table_of (pos 0) instruments (λ i. i32_at s (4 + contracts + instruments + 4 * i)))

-- questions 2 to 4
abbrev pub roster_questions : List ℕ → List Question
roster_questions s = q 2 (lengths_fit s) ∷ q 3 (names_fit (roster_from s)) ∷ q 4 (weights_fit (roster_from s)) ∷ []

-- all that a roster and a day of bytes compute with
unfoldable pub reads : Unit {0}
unfolding computes roster_from tables_from listed lengths_fit roster_length sizes_fit names_fit weights_fit every roster_bytes weight_bytes
    i32_at
reads = tt
