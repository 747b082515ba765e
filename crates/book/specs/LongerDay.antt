-- A day with puts, in bytes, longer than document 01's listing: each way of refusing an order for a position limit, an order that is
-- accepted at its limit, and what may come after it.
use Rattle.std.specs.Prelude.{◌∷◌, ◌++◌}
use Rattle.integers.specs.Basics.{ℕ, List, [], pos, negsuc, neg_ℤ, take}
use Rattle.book.specs.EventBytes.{limit_bytes, line, group_line, balance_bytes, balance, block_bytes, buy, sell, replace_bytes}
use Rattle.book.specs.EventBytes.{cancel_bytes, fill_bytes}
use Rattle.book.specs.Rosters.{Tables}

-- two accounts, groups and contracts; contract 1, of group 1, has instruments 1, of weight 10000, and 2, a put of weight −5000; contract
-- 2, of group 2, has instrument 3, of weight 10000
unfoldable pub longer_tables : Tables
longer_tables =
    record {
      accounts = 2;
      groups = 2;
      group_of = 1 ∷ 2 ∷ [];
      contract_of = 1 ∷ 1 ∷ 2 ∷ [];
      weights = pos 10000 ∷ negsuc 4999 ∷ pos 10000 ∷ [];
    }

-- account 1's lines of contract 1 and group 1; two contracts of instrument 1 short; buy 50 of it, id 7, so that PCI is 48 and PCC 48
-- contracts
unfoldable pub morning : List (List ℕ)
morning =
    line 100 100 100 100
    ∷ group_line 60 40
    ∷ balance (neg_ℤ (pos 2))
    ∷ buy 1 7 50
    ∷ []

-- ---- orders that some filling puts past a limit, each with its answer, after the morning
-- 21: PCI would be 101
abbrev pub too_long_event : List ℕ
too_long_event = buy 1 8 53

-- 22: PVI would be 101
abbrev pub too_short_event : List ℕ
too_short_event = sell 1 8 99

-- 23: a put sold pushes the group up: PCC would be 60 contracts and a half
abbrev pub put_sold : List ℕ
put_sold = sell 2 8 25

-- 24: a put bought pushes it down: PVC would be 40 contracts and a half
abbrev pub put_bought : List ℕ
put_bought = buy 2 8 77

-- 23: order 7 raised, and counted once: PCC would be 61
abbrev pub raised_too_far : List ℕ
raised_too_far = replace_bytes 7 63

-- ---- orders that reach a limit and are accepted
-- PCC is 60
abbrev pub put_sold_to_the_limit : List ℕ
put_sold_to_the_limit = sell 2 8 24

-- PVC is 40
abbrev pub put_bought_to_the_limit : List ℕ
put_bought_to_the_limit = buy 2 8 76

-- PCC is 60
abbrev pub raised_to_the_limit : List ℕ
raised_to_the_limit = replace_bytes 7 62

-- ---- what may follow an accepted N, of id 8 or a raised order 7, and sets no limit of group 1 or of instruments 1 and 2 again
-- part fills, a refused and an accepted REPLACE, a block, a refused balance, a refused LIMIT on the group's very line and one on the
-- default line in force, LIMITs elsewhere (group 2, contract 2, instrument 3, and the same lines of account 2), junk, a fill of all that
-- remains, a cancel
unfoldable pub afternoon : List (List ℕ)
afternoon =
    fill_bytes 7 12
    ∷ fill_bytes 8 10
    ∷ replace_bytes 7 90
    ∷ replace_bytes 7 40
    ∷ block_bytes 1 1 0 1
    ∷ balance (pos 5)
    ∷ group_line 1000000001 0
    ∷ limit_bytes 2 1 1 (pos 5) (pos 5) (pos 5) (negsuc 0)
    ∷ limit_bytes 3 1 2 (pos 0) (pos 0) (pos 0) (pos 0)
    ∷ limit_bytes 2 1 2 (pos 0) (pos 0) (pos 0) (pos 0)
    ∷ limit_bytes 1 1 3 (pos 0) (pos 0) (pos 0) (pos 0)
    ∷ limit_bytes 3 2 1 (pos 0) (pos 0) (pos 0) (pos 0)
    ∷ limit_bytes 2 2 1 (pos 0) (pos 0) (pos 0) (pos 0)
    ∷ balance_bytes 2 1 (pos 1000)
    ∷ (255 ∷ [])
    ∷ fill_bytes 8 14
    ∷ cancel_bytes 7
    ∷ []

-- ---- a LIMIT that sets the group's limit again, and what it lets through: buy 70 of instrument 1
unfoldable pub evening : List (List ℕ)
evening = block_bytes 1 1 0 0 ∷ group_line 100 100 ∷ buy 1 9 70 ∷ []

-- ---- N after other lists
-- order 7 filled in part, junk, and a FILL of an order that is not open
abbrev pub noon : List (List ℕ)
noon = morning ++ (fill_bytes 7 12 ∷ (255 ∷ []) ∷ fill_bytes 99 1 ∷ [])

-- all of the day but its last order
abbrev pub late : List (List ℕ)
late = morning ++ (put_sold_to_the_limit ∷ (afternoon ++ take 2 evening))

-- instrument 1 has a line of its own; and LIMITs on the own line of instrument 2, on the default line under it, and on the own line of
-- instrument 1 for account 2
abbrev pub own_line_set : List (List ℕ)
own_line_set = limit_bytes 1 1 1 (pos 100) (pos 100) (pos 100) (pos 100) ∷ group_line 60 40 ∷ []

abbrev pub elsewhere : List (List ℕ)
elsewhere =
    limit_bytes 1 1 2 (pos 0) (pos 0) (pos 0) (pos 0)
    ∷ limit_bytes 2 1 1 (pos 0) (pos 0) (pos 0) (pos 0)
    ∷ limit_bytes 1 2 1 (pos 0) (pos 0) (pos 0) (pos 0)
    ∷ []

-- account 2's lines of contract 2 and group 2
abbrev pub second_account : List (List ℕ)
second_account =
    limit_bytes 2 2 2 (pos 30) (pos 30) (pos 30) (pos 30) ∷ limit_bytes 3 2 2 (pos 25) (pos 25) (pos 0) (pos 0) ∷ []
