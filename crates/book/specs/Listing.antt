-- Document 01's listing: its roster, and its events in bytes.
use Rattle.std.specs.Prelude.{◌∷◌}
use Rattle.integers.specs.Basics.{ℕ, List, [], pos, negsuc, neg_ℤ}
use Rattle.book.specs.EventBytes.{line, group_line, balance, buy, sell, fill_bytes, cancel_bytes}
use Rattle.book.specs.Rosters.{Tables}

-- one account, group and contract, two instruments of weight 10000 and −5000
unfoldable pub listing_tables : Tables
listing_tables =
    record { accounts = 1; groups = 1; group_of = 1 ∷ []; contract_of = 1 ∷ 1 ∷ []; weights = pos 10000 ∷ negsuc 4999 ∷ [] }

-- default line 100 100 100 100; group line 60 60; balance of instrument 1 is −2; buy 62 of 1, id 7; sell 1 of 2, id 8;
-- fill 12 of 7; buy 4 of 2, id 9; cancel 7
unfoldable pub listing_events : List (List ℕ)
listing_events =
    line 100 100 100 100
    ∷ group_line 60 60
    ∷ balance (neg_ℤ (pos 2))
    ∷ buy 1 7 62
    ∷ sell 2 8 1
    ∷ fill_bytes 7 12
    ∷ buy 2 9 4
    ∷ cancel_bytes 7
    ∷ []
