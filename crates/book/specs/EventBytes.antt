-- Events written out in their 48 bytes: document 01, "Events".
use Rattle.std.specs.Prelude.{◌/◌, ◌%◌, ◌∷◌, ◌++◌}
use Rattle.integers.specs.Basics.{ℕ, zero, suc, List, [], ℤ, pos}
use Rattle.integers.specs.TwosComplement.{bits_of}

-- the n bytes of a number, least significant first
unfoldable pub bytes_of : ℕ → ℕ → List ℕ
bytes_of zero v = []
bytes_of (suc n) v = v % 256 ∷ bytes_of n (v / 256)

unfoldable pub figure_bytes : ℤ → List ℕ
figure_bytes z = bytes_of 8 (bits_of 64 z)

-- kind, side, account, item, level, zero, order id, four figures
unfoldable pub event_bytes : (kind side account item level id : ℕ) → ℤ → ℤ → ℤ → ℤ → List ℕ
event_bytes kind side account item level id w x y z =
    kind
    ∷ side
    ∷ (bytes_of 2 account
    ++ (bytes_of 2 item ++ (level ∷ 0 ∷ (bytes_of 8 id ++ (figure_bytes w ++ (figure_bytes x ++ (figure_bytes y ++ figure_bytes z)))))))

-- ---- each kind, with the fields that it names
abbrev pub limit_bytes : (level account item : ℕ) → ℤ → ℤ → ℤ → ℤ → List ℕ
limit_bytes level account item w x y z = event_bytes 1 0 account item level 0 w x y z

abbrev pub balance_bytes : (account item : ℕ) → ℤ → List ℕ
balance_bytes account item s = event_bytes 2 0 account item 0 0 s (pos 0) (pos 0) (pos 0)

abbrev pub block_bytes : (level account item on : ℕ) → List ℕ
block_bytes level account item on = event_bytes 3 0 account item level 0 (pos on) (pos 0) (pos 0) (pos 0)

abbrev pub new_bytes : (side account item id quantity : ℕ) → List ℕ
new_bytes side account item id quantity = event_bytes 4 side account item 0 id (pos quantity) (pos 0) (pos 0) (pos 0)

abbrev pub replace_bytes : (id total : ℕ) → List ℕ
replace_bytes id total = event_bytes 5 0 0 0 0 id (pos total) (pos 0) (pos 0) (pos 0)

abbrev pub cancel_bytes : ℕ → List ℕ
cancel_bytes id = event_bytes 6 0 0 0 0 id (pos 0) (pos 0) (pos 0) (pos 0)

abbrev pub fill_bytes : (id quantity : ℕ) → List ℕ
fill_bytes id quantity = event_bytes 7 0 0 0 0 id (pos quantity) (pos 0) (pos 0) (pos 0)

-- ---- account 1's: the default line of contract 1 and the line of group 1, the balance of instrument 1, orders
abbrev pub line : (tci tvi lci lvi : ℕ) → List ℕ
line tci tvi lci lvi = limit_bytes 2 1 1 (pos tci) (pos tvi) (pos lci) (pos lvi)

abbrev pub group_line : (lcc lvc : ℕ) → List ℕ
group_line lcc lvc = limit_bytes 3 1 1 (pos lcc) (pos lvc) (pos 0) (pos 0)

abbrev pub balance : ℤ → List ℕ
balance s = balance_bytes 1 1 s

abbrev pub buy : (item id quantity : ℕ) → List ℕ
buy item id quantity = new_bytes 1 1 item id quantity

abbrev pub sell : (item id quantity : ℕ) → List ℕ
sell item id quantity = new_bytes 2 1 item id quantity
