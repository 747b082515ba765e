-- The positions that a state gives: those of its plain book, counted as its market counts.
use Rattle.std.specs.Prelude.{◌∷◌}
use Rattle.integers.specs.Basics.{ℕ, List, [], ℤ}
use Rattle.ledger.specs.Positions.{Scope, Way, long, short, instrument, group, potential}
use Rattle.book.specs.States.{State}

-- PCI, PVI, PCC and PVC of account a
abbrev pub potential_of : State → ℕ → Scope → Way → ℤ
potential_of k a p w = potential k.market.unit k.roster k.book.orders a (k.book.balance_of a) p w

-- S, PCI and PVI of an account and instrument
unfoldable pub instrument_in : State → ℕ → ℕ → List ℤ
instrument_in k a i = k.book.balance_of a i ∷ potential_of k a (instrument i) long ∷ potential_of k a (instrument i) short ∷ []

-- PCC and PVC of an account and group
unfoldable pub group_in : State → ℕ → ℕ → List ℤ
group_in k a g = potential_of k a (group g) long ∷ potential_of k a (group g) short ∷ []
