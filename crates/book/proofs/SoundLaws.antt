-- "A desk is sound if ..": each condition of document 01's sentence, and no other.
use Rattle.std.specs.Prelude.{◌≤◌, ◌<◌, ◌≡◌, ◌↔◌, ◌∷◌, ◌≤ℤ◌}
use Rattle.integers.specs.Basics.{ℕ, true, List, [], ListMemᴰ, Some, pos, nat_abs, length}
use Rattle.ledger.specs.declared.order.Order.{Order}
use Rattle.ledger.specs.Orders.{remaining}
use Rattle.ledger.specs.Roster.{Roster, Numbered}
use Rattle.ledger.specs.Positions.{Way, of_instrument}
use Rattle.limits.specs.declared.lines.Line.{Line}
use Rattle.limits.specs.declared.lines.GroupLine.{GroupLine}
use Rattle.limits.specs.Lines.{Lines}
use Rattle.book.specs.States.{State}
use Rattle.book.specs.Sound.{RosterFits, LineFits, LinesFit, OrderFits, Ascending, nothing, next, Sound}

-- "its roster would be accepted": questions 2, 3 and 4
pub roster_fits_iff : (r : Roster) → RosterFits r ↔ (Numbered 16 r.accounts
    × Numbered 4 r.groups
    × Numbered 8 r.contracts
    × Numbered 32 r.instruments
    × ((c : ℕ) → Numbered r.contracts c → Numbered r.groups (r.group_of c))
    × ((i : ℕ) → Numbered r.instruments i → Numbered r.contracts (r.contract_of i))
    × ((i : ℕ) → Numbered r.instruments i → nat_abs (r.weight i) ≤ 1000000))
roster_fits_iff r = (
  λ h. (h.accounts, h.groups, h.contracts, h.instruments, h.group_of, h.contract_of, h.weight),
  λ h. record { accounts = h.0; groups = h.1; contracts = h.2; instruments = h.3; group_of = h.4; contract_of = h.5; weight = h.6 },
)

-- "its lines .. are in range": "figures run from 0 to 1,000,000,000"
pub lines_fit_iff : (largest : ℕ) (ls : Lines) → LinesFit largest ls
    ↔ (((i : ℕ) (l : Line) → ls.own_of i ≡ Some l → (l.tci ≤ largest) × (l.tvi ≤ largest) × (l.lci ≤ largest) × (l.lvi ≤ largest))
    × ((c : ℕ) (l : Line) → ls.default_of c ≡ Some l → (l.tci ≤ largest) × (l.tvi ≤ largest) × (l.lci ≤ largest) × (l.lvi ≤ largest))
    × ((g : ℕ) (l : GroupLine) → ls.line_of_group g ≡ Some l → (l.lcc ≤ largest) × (l.lvc ≤ largest)))
lines_fit_iff largest ls = (
  λ h. (λ i l e. all_four (h.own i l e), λ c l e. all_four (h.default c l e), λ g l e. ((h.of_group g l e).lcc, (h.of_group g l e).lvc)),
  λ h. record {
    own = λ i l e. of_four (h.0 i l e);
    default = λ c l e. of_four (h.1 c l e);
    of_group =
        λ g l e. record { lcc = (h.2 g l e).0; lvc = (h.2 g l e).1 };
  },
)
  where
    all_four : {l : Line} → LineFits largest l → (l.tci ≤ largest) × (l.tvi ≤ largest) × (l.lci ≤ largest) × (l.lvi ≤ largest)
    all_four h = (h.tci, h.tvi, h.lci, h.lvi)

    of_four : {l : Line} → (l.tci ≤ largest) × (l.tvi ≤ largest) × (l.lci ≤ largest) × (l.lvi ≤ largest) → LineFits largest l
    of_four h = record { tci = h.0; tvi = h.1; lci = h.2; lvi = h.3 }

-- "and orders are in range", "every remaining is at least 1"
pub order_fits_iff : (r : Roster) (o : Order) → OrderFits r o ↔ (Numbered r.accounts o.account
    × Numbered r.instruments o.instrument
    × Numbered 1000000 o.total
    × (1 ≤ remaining o))
order_fits_iff r o = (
  λ h. (h.account, h.instrument, h.total, h.remains),
  λ h. record { account = h.0; instrument = h.1; total = h.2; remains = h.3 },
)

pub sound_iff : (k : State) → Sound k ↔ (RosterFits k.roster
    × ((a : ℕ) → LinesFit k.market.largest (k.book.lines_of a))
    × (length k.book.orders ≤ 256)
    × ((o : Order) → ListMemᴰ o k.book.orders → OrderFits k.roster o)
    × Ascending 0 k.book.orders
    × ((a i : ℕ) (w : Way) → of_instrument k.market.unit k.book.orders a (k.book.balance_of a) i w ≤ℤ pos k.market.largest)
    × ((o : Order) → ListMemᴰ o k.book.orders → k.beside.trading o.account ≡ true))
sound_iff k = (
  λ h. (h.roster, h.lines, h.count, h.fits, h.ids, h.bounded, h.marked),
  λ h. record { roster = h.0; lines = h.1; count = h.2; fits = h.3; ids = h.4; bounded = h.5; marked = h.6 },
)

-- ids from 1 on, and no two the same: "open ids are non-zero and differ"
pub ids_of_none : (least : ℕ) → Ascending least []
ids_of_none least = nothing

pub ids_of_one_more : (least : ℕ) (o : Order) (os : List Order) → Ascending least (o ∷ os) ↔ ((least < o.id) × Ascending o.id os)
ids_of_one_more least o os = (there, λ h. next h.0 h.1)
  where
    there : Ascending least (o ∷ os) → (least < o.id) × Ascending o.id os
    there (next above rest) = (above, rest)
