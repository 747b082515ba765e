-- Orders as flat records in lent bytes, two words each; balances; and a roster of 76 words.
use Rattle.std.specs.Prelude.{◌+◌, ◌*◌, ◌-◌, ◌/◌, ◌%◌, ◌≤◌, ◌<◌, ◌∷◌}
use Rattle.integers.specs.Basics.{ℕ, zero, suc, cond, List, [], ℤ, eqb, map}
use Rattle.words.specs.Words.{word_at, signed_at, part_of}
use Rattle.ledger.specs.declared.order.Order.{Order}
use Rattle.ledger.specs.declared.order.Side.{Side}
use Rattle.ledger.specs.declared.order.Side.TheVariants.{Buy, Sell}
use Rattle.ledger.specs.Orders.{remaining}
use Rattle.ledger.specs.Roster.{Roster, Numbered}

-- the side that a number stands for: 1 buy, 2 sell
unfoldable pub side_of : ℕ → Side
side_of n = cond (eqb n 1) Buy Sell

-- side, account and instrument as one number: 64 for each account before this one, 32 for a sell, 1 for each instrument before
-- this one
unfoldable pub packed : Side → ℕ → ℕ → ℕ
packed Buy a i = (a - 1) * 64 + (i - 1)
packed Sell a i = (a - 1) * 64 + 32 + (i - 1)

-- those that make a number of 10 bits
abbrev pub Packable : ℕ → ℕ → Type 0
Packable a i = Numbered 16 a × Numbered 32 i

-- what the low 10 bits of a number say
unfoldable pub packed_side : ℕ → Side
packed_side w = cond (eqb (w / 32 % 2) 0) Buy Sell

abbrev pub packed_account : ℕ → ℕ
packed_account w = w / 64 % 16 + 1

abbrev pub packed_instrument : ℕ → ℕ
packed_instrument w = w % 32 + 1

-- the detail of an order, all but its id as one number: 10 bits of side, account and instrument packed, 27 bits of what is
-- filled, then what remains
unfoldable pub detail : Order → ℕ
detail o = packed o.side o.account o.instrument + o.filled * 1024 + remaining o * 137438953472

-- what a detail says, beside the side, the account and the instrument that are read above: those three as one number, what is
-- filled and what remains
abbrev pub detail_packed : ℕ → ℕ
detail_packed w = w % 1024

abbrev pub detail_filled : ℕ → ℕ
detail_filled w = w / 1024 % 134217728

abbrev pub detail_remaining : ℕ → ℕ
detail_remaining w = w / 137438953472

-- an order that a record can hold: its detail is a word that says it
pub record Storable (o : Order) : Type 0 where
  pub packable : Packable o.account o.instrument
  pub part : o.filled ≤ o.total
  pub filled : o.filled < 134217728
  pub remaining : remaining o < 134217728

-- the order of an id and a detail: every word is the detail of one
unfoldable pub order_of : ℕ → ℕ → Order
order_of id w =
    record {
      id = id;
      account = packed_account w;
      instrument = packed_instrument w;
      side = packed_side w;
      total = detail_filled w + detail_remaining w;
      filled = detail_filled w;
    }

-- the account and the instrument of an order, what is filled of it and what remains are at most those that a detail says
pub record Within (w : ℕ) (o : Order) : Type 0 where
  pub account : o.account ≤ packed_account w
  pub instrument : o.instrument ≤ packed_instrument w
  pub filled : o.filled ≤ detail_filled w
  pub remaining : remaining o ≤ detail_remaining w

-- the words of record p: the id, then the detail
abbrev pub id_at : List ℕ → ℕ → ℕ
id_at m p = word_at m (p * 2)

abbrev pub detail_at : List ℕ → ℕ → ℕ
detail_at m p = word_at m (p * 2 + 1)

-- the order in record p
unfoldable pub order_at : List ℕ → ℕ → Order
order_at m p = order_of (id_at m p) (detail_at m p)

-- the orders in the n records from record p on
unfoldable pub orders_from : List ℕ → ℕ → ℕ → List Order
orders_from m p zero = []
orders_from m p (suc n) = order_at m p ∷ orders_from m (p + 1) n

-- the orders in records of 16 bytes, one after the other
unfoldable pub orders_of : List (List ℕ) → List Order
orders_of records = map (λ r. order_at r 0) records

-- the balances: word i is that of instrument i, signed
abbrev pub balances_in : List ℕ → ℕ → ℤ
balances_in m i = signed_at m i

-- the bytes of a roster
abbrev pub roster_bytes : ℕ
roster_bytes = 608

-- its tables, as parts: word n of each is that of number n
abbrev pub group_table : List ℕ → List ℕ
group_table m = part_of m 3 9

abbrev pub contract_table : List ℕ → List ℕ
contract_table m = part_of m 11 33

abbrev pub weight_table : List ℕ → List ℕ
weight_table m = part_of m 43 33

-- the roster: words 0 to 3 are its sizes, then come the groups of 8 contracts, the contracts of 32 instruments and their weights
unfoldable pub roster_in : List ℕ → Roster
roster_in m =
    record {
      accounts = word_at m 0;
      groups = word_at m 1;
      contracts = word_at m 2;
      instruments = word_at m 3;
      group_of = λ c. word_at m (3 + c);
      contract_of = λ i. word_at m (11 + i);
      weight = λ i. signed_at m (43 + i);
    }
