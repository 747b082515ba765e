-- Positions ask a roster and balances only about the instruments on the roster.
use Rattle.std.specs.Prelude.{◌<◌, ◌≡◌}
use Rattle.integers.specs.Basics.{ℕ, suc, ◌∙◌, ap, List, ℤ, arith}
use Rattle.integers.specs.Sum.{sum_to, sum_to_same}
use Rattle.ledger.specs.declared.order.Order.{Order}
use Rattle.ledger.specs.Roster.{Roster, Numbered, group_of_instrument}
use Rattle.ledger.specs.Positions.{Way, Scope, instrument, group, of_instrument, group_part, sum_group, potential}
use Rattle.ledger.proofs.Groups.{group_term}
use Rattle.ledger.proofs.Scopes.{part_same}

-- two rosters, each with balances, that say the same of each instrument on them
pub record Agree (r r' : Roster) (S S' : ℕ → ℤ) : Type 0 where
  pub instruments : r.instruments ≡ r'.instruments
  pub of_group : (i : ℕ) → Numbered r.instruments i → group_of_instrument r i ≡ group_of_instrument r' i
  pub weight : (i : ℕ) → Numbered r.instruments i → r.weight i ≡ r'.weight i
  pub balance : (i : ℕ) → Numbered r.instruments i → S i ≡ S' i

-- an instrument on the roster, or any group: one that is not on it has no instruments
abbrev pub Asked : Roster → Scope → Type 0
Asked r (instrument i) = Numbered r.instruments i
Asked r (group g) = Unit

module _ (unit : Order → ℕ) (orders : List Order) (a : ℕ) (r r' : Roster) (S S' : ℕ → ℤ) (same : Agree r r' S S') where
  of_instrument_lem : (i : ℕ) → Numbered r.instruments i → (w : Way)
      → of_instrument unit orders a S i w ≡ of_instrument unit orders a S' i w
  unfolding of_instrument
  of_instrument_lem i on w = rw (same.balance i on)

  of_group_lem : (g : ℕ) (w : Way) (j : ℕ) → j < r.instruments
      → group_term r g (λ i. group_part w (r.weight i) (of_instrument unit orders a S i)) j ≡ group_term r' g
      (λ i. group_part w (r'.weight i) (of_instrument unit orders a S' i)) j
  of_group_lem g w j l =
      rw (
        same.of_group (suc j) (omega arith),
        same.weight (suc j) (omega arith),
        part_same w (r'.weight (suc j)) (of_instrument unit orders a S (suc j)) (of_instrument unit orders a S' (suc j))
            (of_instrument_lem (suc j) (omega arith)),
      )

  pub same_potential : (p : Scope) → Asked r p → (w : Way) → potential unit r orders a S p w ≡ potential unit r' orders a S' p w
  unfolding potential sum_group
  same_potential (instrument i) on w = of_instrument_lem i on w
  same_potential (group g) on w =
      let term = group_term r' g (λ i. group_part w (r'.weight i) (of_instrument unit orders a S' i)) in
      sum_to_same _ term r.instruments (of_group_lem g w) ∙ ap (sum_to term) same.instruments
