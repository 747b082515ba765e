-- What is known of the markets of all kinds of desk.
use Rattle.std.specs.Prelude.{◌≢◌, ◌≤◌, ◌≡◌}
use Rattle.integers.specs.Basics.{ne_eqb, ℕ, refl, ap, Bool, true, false, cond, eqb, arith}
use Rattle.ledger.specs.Derivatives.{one}
use Rattle.book.specs.Market.{derivatives, largest_of, market_of_kind}

-- contracts are counted
pub unit_one : (kind : ℕ) → (market_of_kind kind).unit ≡ one
unfolding market_of_kind
unit_one kind = refl

-- no figure is above 1,000,000,000
pub largest_most : (kind : ℕ) → (market_of_kind kind).largest ≤ 1000000000
unfolding market_of_kind largest_of
largest_most kind = by (eqb kind 1)
  where
    by : (t : Bool) → cond t 1000000000 0 ≤ 1000000000
    by true = omega arith
    by false = omega arith

-- kind 1 is the derivatives desk
pub market_of_one : (kind : ℕ) → kind ≡ 1 → market_of_kind kind ≡ derivatives
unfolding derivatives
market_of_one kind same = ap market_of_kind same

pub largest_of_one : (kind : ℕ) → kind ≡ 1 → (market_of_kind kind).largest ≡ 1000000000
unfolding derivatives
largest_of_one kind same = ap (λ k. (market_of_kind k).largest) same

-- of a kind that is no desk's no figure fits but 0
pub largest_of_another : (kind : ℕ) → kind ≢ 1 → (market_of_kind kind).largest ≡ 0
unfolding market_of_kind largest_of
largest_of_another kind other = rw (ne_eqb kind 1 other)
