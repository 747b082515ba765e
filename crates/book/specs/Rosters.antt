-- A roster written out as tables, and in bytes: document 01, "Roster".
use Rattle.std.specs.Prelude.{◌∷◌, ◌++◌}
use Rattle.integers.specs.Basics.{ℕ, List, [], ℤ, pos, length, get_or}
use Rattle.integers.specs.TwosComplement.{bits_of}
use Rattle.ledger.specs.Roster.{Roster}
use Rattle.book.specs.EventBytes.{bytes_of}

-- the group of each contract, the contract and the weight of each instrument, in the order of their numbers
pub record Tables : Type 0 where
  pub accounts : ℕ
  pub groups : ℕ
  pub group_of : List ℕ
  pub contract_of : List ℕ
  pub weights : List ℤ

-- 0 of what is not on it
unfoldable pub roster_of_tables : Tables → Roster
roster_of_tables t =
    record {
      accounts = t.accounts;
      groups = t.groups;
      contracts = length t.group_of;
      instruments = length t.contract_of;
      group_of = λ c. get_or (0 ∷ t.group_of) c 0;
      contract_of = λ i. get_or (0 ∷ t.contract_of) i 0;
      weight = λ i. get_or (pos 0 ∷ t.weights) i (pos 0);
    }

unfoldable pub weight_bytes : List ℤ → List ℕ
weight_bytes [] = []
weight_bytes (w ∷ ws) = bytes_of 4 (bits_of 32 w) ++ weight_bytes ws

-- sizes first, then a byte for each contract, its group, then a byte for each instrument, its contract, and the weights
unfoldable pub roster_bytes : Tables → List ℕ
roster_bytes t =
    bytes_of 2 t.accounts
    ++ (bytes_of 2 t.groups
    ++ (bytes_of 2 (length t.group_of)
    ++ (bytes_of 2 (length t.contract_of) ++ (t.group_of ++ (t.contract_of ++ weight_bytes t.weights)))))
