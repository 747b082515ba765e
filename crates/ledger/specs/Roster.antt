-- The roster: how many accounts, groups, contracts and instruments there are, each numbered from 1, and what hangs on what.
use Rattle.std.specs.Prelude.{◌≤◌}
use Rattle.integers.specs.Basics.{ℕ, ℤ}

pub record Roster : Type 0 where
  pub accounts : ℕ
  pub groups : ℕ
  pub contracts : ℕ
  pub instruments : ℕ
  pub group_of : ℕ → ℕ
  pub contract_of : ℕ → ℕ
  pub weight : ℕ → ℤ

-- the group ("equivalent instrument") of an instrument: that of its contract
unfoldable pub group_of_instrument : Roster → ℕ → ℕ
group_of_instrument r i = r.group_of (r.contract_of i)

-- a number from 1 to the most
abbrev pub Numbered : ℕ → ℕ → Type 0
Numbered most n = (1 ≤ n) × (n ≤ most)
