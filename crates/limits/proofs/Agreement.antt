-- The questions of an order ask a roster and balances only about the instruments on the roster.
use Rattle.std.specs.Prelude.{◌≡◌}
use Rattle.integers.specs.Basics.{ℕ, refl, List, ℤ}
use Rattle.ledger.specs.declared.order.Order.{Order}
use Rattle.ledger.specs.Roster.{Roster, Numbered, group_of_instrument}
use Rattle.ledger.specs.Positions.{Way, long, short, Scope, instrument, group}
use Rattle.ledger.proofs.Agreement.{Agree, Asked, same_potential}
use Rattle.limits.specs.Lines.{Lines, line_in_force, limit}
use Rattle.limits.specs.Asked.{moves_group, within, position_questions}

module _ (ls : Lines) (o : Order) (r r' : Roster) (contract : r.contract_of o.instrument ≡ r'.contract_of o.instrument) where
  pub same_in_force : line_in_force r ls o.instrument ≡ line_in_force r' ls o.instrument
  unfolding line_in_force
  same_in_force = rw contract

  module _ (unit : Order → ℕ) (orders : List Order) (S S' : ℕ → ℤ) (same : Agree r r' S S')
      (on : Numbered r.instruments o.instrument) where
    same_within : (p : Scope) → Asked r p → ((w : Way) → limit r ls p w ≡ limit r' ls p w) → (w : Way)
        → within unit r ls orders S o p w ≡ within unit r' ls orders S' o p w
    unfolding within
    same_within p asked limits w = rw (same_potential unit orders o.account r r' S S' same p asked w, limits w)

    of_instrument_lem : (w : Way) → within unit r ls orders S o (instrument o.instrument) w ≡ within unit r' ls orders S' o
        (instrument o.instrument) w
    unfolding limit
    of_instrument_lem = same_within (instrument o.instrument) on (λ w. rw same_in_force)

    of_group_lem : (g : ℕ) (w : Way) → within unit r ls orders S o (group g) w ≡ within unit r' ls orders S' o (group g) w
    unfolding limit
    of_group_lem g = same_within (group g) tt (λ w. refl)

    pub same_questions : position_questions unit r ls orders S o ≡ position_questions unit r' ls orders S' o
    unfolding position_questions moves_group
    same_questions =
        rw (
          of_instrument_lem long,
          of_instrument_lem short,
          of_group_lem (group_of_instrument r o.instrument) long,
          of_group_lem (group_of_instrument r o.instrument) short,
          same.weight o.instrument on,
          same.of_group o.instrument on,
        )
