-- Every potential position is reached by a filling: the one that fills wholly the orders that move their instrument the
-- way that the scope wants, and no other. So a potential position is past a bound exactly where some filling is.
use Rattle.std.specs.Prelude.{◌≤◌, ◌≡◌, ◌↔◌, ◌≢◌, ◌∷◌, ◌<ℤ◌}
use Rattle.integers.specs.Basics.{ℕ, refl, ◌∙◌, sym, ap, by_cases, cond, List, [], ℤ, pos, arith, signed}
use Rattle.ledger.specs.declared.order.Order.{Order}
use Rattle.ledger.specs.Orders.{remaining}
use Rattle.ledger.specs.Roster.{Roster}
use Rattle.ledger.specs.Positions.{Way, Scope, opposite, toward, side_to, same_side, of_instrument, potential, position}
use Rattle.ledger.specs.Fillings.{Filling, none, fill, fill_moves, balance_after}
use Rattle.ledger.proofs.Ways.{by_side, other_side, toward_sum}
use Rattle.ledger.proofs.Amounts.{amount, stands?, amount_apart, amount_none, fill_amounts}
use Rattle.ledger.proofs.Sums.{open_none, open_cons}
use Rattle.ledger.proofs.Scopes.{way_to, potential_weighted, position_weighted, weighted_same}
use Rattle.ledger.proofs.Upper.{upper}
use Rattle.ledger.proofs.Linear.{linear}

-- for each instrument a wanted way, d: the whole order where its side moves its instrument that way, else nothing
unfoldable pub wholly : (ℕ → Way) → Order → ℕ
wholly d o = cond (same_side o.side (side_to (d o.instrument))) (remaining o) 0

wholly_all : (d : ℕ → Way) (o : Order) → o.side ≡ side_to (d o.instrument) → wholly d o ≡ remaining o
unfolding wholly
wholly_all d o e =
    by_side o.side (side_to (d o.instrument)) (λ t. cond t (remaining o) 0 ≡ remaining o) (λ _. refl) (λ n. absurd (n e))

wholly_nothing : (d : ℕ → Way) (o : Order) → o.side ≢ side_to (d o.instrument) → wholly d o ≡ 0
unfolding wholly
wholly_nothing d o n = by_side o.side (side_to (d o.instrument)) (λ t. cond t (remaining o) 0 ≡ 0) (λ e. absurd (n e)) (λ _. refl)

pub wholly_most : (d : ℕ → Way) (o : Order) → wholly d o ≤ remaining o
unfolding wholly
wholly_most d o =
    by_side o.side (side_to (d o.instrument)) (λ t. cond t (remaining o) 0 ≤ remaining o) (λ _. omega arith) (λ _. omega arith)

unfoldable pub filling_to : (ℕ → Way) → (orders : List Order) → Filling orders
filling_to d [] = none
filling_to d (o ∷ orders) = fill (wholly d o) (wholly_most d o) (filling_to d orders)

module _ (unit : Order → ℕ) (a : ℕ) (d : ℕ → Way) where
  -- on the wanted way it moves the balance by all that remains there, and never the other way
  wholly_moves : (o : Order) (i : ℕ) → toward (d i) (fill_moves unit a i o (wholly d o)) ≡ amount unit (side_to (d i)) a i o (remaining o)
  wholly_moves o i = omega (linear, fill_amounts unit a i o n (d i), all, nothing)
    where
      n : ℕ
      n = wholly d o

      all : amount unit (side_to (d i)) a i o n ≡ amount unit (side_to (d i)) a i o (remaining o)
      all =
          by_cases (stands? (side_to (d i)) a i o) (λ h. ap (amount unit (side_to (d i)) a i o) (wholly_all d o (rw h.2 h.0)))
          (λ h. cc (amount_apart unit (side_to (d i)) a i o n h, amount_apart unit (side_to (d i)) a i o (remaining o) h))

      nothing : amount unit (side_to (opposite (d i))) a i o n ≡ pos 0
      nothing =
          by_cases (stands? (side_to (opposite (d i))) a i o)
          (λ h. cc (
            wholly_nothing d o (λ e. other_side (d i) (sym h.0 ∙ (rw h.2 at e))),
            amount_none unit (side_to (opposite (d i))) a i o,
          )) (amount_apart unit (side_to (opposite (d i))) a i o n)

  pub reached_instrument : (S : ℕ → ℤ) (orders : List Order) (i : ℕ)
      → toward (d i) (balance_after unit a S (filling_to d orders) i) ≡ of_instrument unit orders a S i (d i)
  unfolding balance_after of_instrument filling_to
  reached_instrument S [] i =
      omega (linear, open_none unit (side_to (d i)) a i)
  reached_instrument S (o ∷ orders) i =
      omega (
        linear,
        reached_instrument S orders i,
        toward_sum (d i) (balance_after unit a S (filling_to d orders) i) (fill_moves unit a i o (wholly d o)),
        wholly_moves o i,
        open_cons unit (side_to (d i)) a i o orders,
      )

module _ (unit : Order → ℕ) (r : Roster) (orders : List Order) (a : ℕ) (S : ℕ → ℤ) (p : Scope) (w : Way) where
  pub reached : (f : Filling orders) × (position r (balance_after unit a S f) p w ≡ potential unit r orders a S p w)
  reached =
      let d = way_to r p w in
      let f = filling_to d orders in (
        f,
        rw (position_weighted r (balance_after unit a S f) p w, potential_weighted unit r orders a S p w)
            (weighted_same r (λ i. toward (d i) (balance_after unit a S f i)) (λ i. of_instrument unit orders a S i (d i)) p
            (λ i _. reached_instrument unit a d S orders i)),
      )

  pub past_iff : (bound : ℤ) → (bound <ℤ potential unit r orders a S p w)
      ↔ ((f : Filling orders) × (bound <ℤ position r (balance_after unit a S f) p w))
  past_iff bound = (
    λ past. (reached.0, (let e = reached.1 in omega signed)),
    λ some. let u = upper unit a S some.0 r p w in
        omega (signed, some.1),
  )
