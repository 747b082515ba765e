-- When a roster is acceptable (questions 2 to 4, its length aside), and when a memory is long enough.
use Rattle.std.specs.Prelude.{◌&&◌}
use Rattle.integers.specs.Basics.{ℕ, zero, suc, Bool, true, cond, List, ℤ, pos, nat_abs, leb, length}
use Rattle.ledger.specs.Roster.{Roster}
use Rattle.book.specs.Decoding.{between}
use Rattle.memory_layout.specs.Layout.{memory_bytes}

-- a roster by its sizes and tables, which say nothing of what is not on it
unfoldable pub listed : ℕ → ℕ → ℕ → ℕ → (ℕ → ℕ) → (ℕ → ℕ) → (ℕ → ℤ) → Roster
listed accounts groups contracts instruments group_of contract_of weight =
    record {
      accounts = accounts;
      groups = groups;
      contracts = contracts;
      instruments = instruments;
      group_of = λ c. cond (between 1 contracts c) (group_of c) 0;
      contract_of = λ i. cond (between 1 instruments i) (contract_of i) 0;
      weight = λ i. cond (between 1 instruments i) (weight i) (pos 0);
    }

-- is it so of every number from 1 to n
unfoldable pub every : ℕ → (ℕ → Bool) → Bool
every zero test = true
every (suc n) test = every n test && test (suc n)

-- are the sizes within their limits?
unfoldable pub sizes_fit : Roster → Bool
sizes_fit r =
    between 1 16 r.accounts && between 1 4 r.groups && between 1 8 r.contracts && between 1 32 r.instruments

-- does every contract name a group of the roster, and every instrument a contract?
unfoldable pub names_fit : Roster → Bool
names_fit r =
    every r.contracts (λ c. between 1 r.groups (r.group_of c))
    && every r.instruments (λ i. between 1 r.contracts (r.contract_of i))

-- is every weight in range?
unfoldable pub weights_fit : Roster → Bool
weights_fit r = every r.instruments (λ i. leb (nat_abs (r.weight i)) 1000000)

-- 1: is the lent memory long enough?
unfoldable pub long_enough : List ℕ → Bool
long_enough m = leb memory_bytes (length m)
