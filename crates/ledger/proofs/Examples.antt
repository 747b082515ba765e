-- The source documents' examples, computed by the definitions with unit 1, groups in ten-thousandths; and the laws at work on them.
use Rattle.std.specs.Prelude.{◌-◌, ◌≡◌, ◌∷◌, ◌<ℤ◌}
use Rattle.integers.specs.Basics.{ℕ, refl, List, [], ℤ, pos, neg_ℤ, get_or, arith}
use lib.Signed.{lt_z_yes}
use Rattle.integers.specs.Sum.{sum_over, below}
use Rattle.ledger.specs.declared.order.Order.{Order}
use Rattle.ledger.specs.declared.order.Side.{Side}
use Rattle.ledger.specs.declared.order.Side.TheVariants.{Buy, Sell}
use Rattle.ledger.specs.Orders.{remaining}
use Rattle.ledger.specs.Roster.{Roster, group_of_instrument}
use Rattle.ledger.specs.Positions.{long, short, instrument, group, stands_in, open_on, of_instrument, group_part, sum_group, potential}
use Rattle.ledger.specs.Positions.{position}
use Rattle.ledger.specs.Fillings.{Filling, balance_after}
use Rattle.ledger.specs.Moves.{Moves}
use Rattle.ledger.proofs.Reached.{past_iff}
use Rattle.ledger.proofs.Movement.{after_fill, moves_raises, raises_moves}
use Rattle.ledger.proofs.Changes.{entered, shift_unmoved}
use Rattle.ledger.proofs.Sums.{joined_between}

-- one account, and one group of the instruments with these weights
abbrev of_weights : ℕ → List ℤ → Roster
of_weights n weights =
    record {
      accounts = 1;
      groups = 1;
      contracts = 1;
      instruments = n;
      group_of = λ _. 1;
      contract_of = λ _. 1;
      weight = λ i. get_or weights (i - 1) (pos 0);
    }

abbrev balances : List ℤ → ℕ → ℤ
balances figures i = get_or figures (i - 1) (pos 0)

abbrev minus : ℕ → ℤ
minus n = neg_ℤ (pos n)

abbrev order : ℕ → Side → ℕ → Order
order i s n = record { id = 1; account = 1; instrument = i; side = s; total = n; filled = 0 }

abbrev one : Order → ℕ
one o = 1

-- PCI, PVI, PCC and PVC with an order on instrument i
abbrev Figures : Roster → List Order → (ℕ → ℤ) → ℕ → ℤ → ℤ → ℤ → ℤ → Type 0
Figures r orders S i pci pvi pcc pvc =
    (potential one r orders 1 S (instrument i) long ≡ pci) × (potential one r orders 1 S (instrument i) short ≡ pvi)
    × (potential one r orders 1 S (group 1) long ≡ pcc) × (potential one r orders 1 S (group 1) short ≡ pvc)

-- all that a table computes with, as one name
unfoldable computes : Unit {0}
unfolding potential of_instrument open_on stands_in group_part sum_group group_of_instrument remaining sum_over below
computes = tt

-- ---- example A: instruments H08, N10 and F18
abbrev r_a : Roster
r_a = of_weights 3 (pos 400 ∷ (pos 23800 ∷ (pos 98800 ∷ [])))

abbrev SA : ℕ → ℤ
SA = balances (pos 100000 ∷ (minus 10000 ∷ (minus 5000 ∷ [])))

abbrev start_a : List Order
start_a = order 1 Buy 50000 ∷ (order 2 Buy 5000 ∷ (order 2 Sell 5000 ∷ []))

-- tables 4 to 7: as it stands; with a sell of N10, with a sell of H08, with a buy of F18
tables_A : Figures r_a start_a SA 1 (pos 150000) (minus 100000) (minus 553000000) (pos 811000000)
    × Figures r_a (order 2 Sell 10000 ∷ start_a) SA 2 (minus 5000) (pos 25000) (minus 553000000) (pos 1049000000)
    × Figures r_a (order 1 Sell 200000 ∷ start_a) SA 1 (pos 150000) (pos 100000) (minus 553000000) (pos 891000000)
    × Figures r_a (order 3 Buy 1000 ∷ start_a) SA 3 (minus 4000) (pos 5000) (minus 454200000) (pos 811000000)
unfolding computes
tables_A = ((refl, refl, refl, refl), (refl, refl, refl, refl), (refl, refl, refl, refl), (refl, refl, refl, refl))

-- ---- example B: the puts K8DB, K8D0, K8D5, K8D8 and K8D9, of weight below 0, and the calls K885 and K888
abbrev r_b : Roster
r_b = of_weights 7 (minus 2200 ∷ (minus 9500 ∷ (minus 7600 ∷ (minus 4000 ∷ (minus 5900 ∷ (pos 2400 ∷ (pos 6000 ∷ [])))))))

abbrev SB : ℕ → ℤ
SB = balances (pos 2000 ∷ (pos 2000 ∷ (pos 0 ∷ (pos 2000 ∷ (pos 2000 ∷ [])))))

abbrev start_b : List Order
start_b = order 4 Sell 2000 ∷ (order 2 Sell 2000 ∷ [])

abbrev put : Order
put = order 3 Buy 1000

-- tables 11 to 14: as it stands; with a buy of the put K8D5, with a sell of the call K888, with a buy of the call K885
tables_B : Figures r_b start_b SB 4 (pos 2000) (pos 0) (minus 16200000) (pos 43200000)
    × Figures r_b (put ∷ start_b) SB 3 (pos 1000) (pos 0) (minus 16200000) (pos 50800000)
    × Figures r_b (order 7 Sell 1000 ∷ start_b) SB 7 (pos 0) (pos 1000) (minus 16200000) (pos 49200000)
    × Figures r_b (order 6 Buy 1000 ∷ start_b) SB 6 (pos 1000) (pos 0) (minus 13800000) (pos 43200000)
unfolding computes
tables_B = ((refl, refl, refl, refl), (refl, refl, refl, refl), (refl, refl, refl, refl), (refl, refl, refl, refl))

-- ---- the laws at work on table 12: the buy of a put moves its instrument long and its group short, and nothing else
moves_short : Moves r_b put (group 1) short
unfolding group_of_instrument
moves_short = (refl, (λ e. let z : ◌≡◌ {A = ℕ} 0 1 = cc in omega arith), refl)

moves_not_long : ¬ Moves r_b put (group 1) long
unfolding group_of_instrument
moves_not_long m = let e = m.2 in let z : ◌≡◌ {A = ℕ} 0 1 = cc in omega arith

-- the group's long side stays, by the law; its short side rises, and some filling takes it past 5,000 contracts
stays : potential one r_b (put ∷ start_b) 1 SB (group 1) long ≡ potential one r_b start_b 1 SB (group 1) long
stays = shift_unmoved (entered one put start_b (put ∷ start_b) (joined_between put [] start_b)) 1 SB r_b (group 1) long moves_not_long

past : (f : Filling (put ∷ start_b)) × (pos 50000000 <ℤ position r_b (balance_after one 1 SB f) (group 1) short)
past = (past_iff one r_b (put ∷ start_b) 1 SB (group 1) short (pos 50000000)).0 (rw tables_B.1.3 (lt_z_yes tt))

-- a fill of one contract raises the short side, and the long side does not rise
rises : position r_b SB (group 1) short <ℤ position r_b (after_fill one 1 SB put 1) (group 1) short
rises = moves_raises one r_b put SB 1 (group 1) short (omega arith) (omega arith) (omega arith) moves_short

not_raised : ¬ (position r_b SB (group 1) long <ℤ position r_b (after_fill one 1 SB put 1) (group 1) long)
not_raised raised = moves_not_long (raises_moves one r_b put SB 1 (group 1) long raised)
