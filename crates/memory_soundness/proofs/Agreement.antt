-- At a sound desk the roster and an account's balances, as the view shows them and as their words say them, agree on the
-- instruments of the roster, and so positions by them do.
use Rattle.std.specs.Prelude.{◌≡◌}
use Rattle.integers.specs.Basics.{ℕ, ◌∙◌, sym, ap, List}
use Rattle.ledger.specs.declared.order.Order.{Order}
use Rattle.ledger.specs.Roster.{Numbered, group_of_instrument}
use Rattle.ledger.specs.Positions.{Way, Scope, potential}
use Rattle.ledger.specs.Records.{balances_in, roster_in}
use Rattle.ledger.proofs.Agreement.{Agree, Asked, same_potential}
use Rattle.memory_layout.specs.View.{roster_part, roster_of, balances_part, balances_of}
use Rattle.memory_layout.proofs.RosterRead.{instruments_same, contract_same, weight_same, group_same as contract-group}
use Rattle.memory_layout.proofs.FieldsRead.{balance_in}
use Rattle.memory_soundness.specs.SoundMemory.{SoundMemory}
use Rattle.memory_soundness.proofs.Bounded.{sound_readable}

module _ (m : List ℕ) (held : SoundMemory m) where
  pub group_same : (i : ℕ) → Numbered (roster_of m).instruments i
      → group_of_instrument (roster_of m) i ≡ group_of_instrument (roster_in (roster_part m)) i
  unfolding group_of_instrument
  group_same i on =
      let r = roster_of m in
      contract-group m (r.contract_of i) (held.book.roster.contract_of i on)
      ∙ ap (roster_in (roster_part m)).group_of (contract_same m i on)

  module _ (a : ℕ) (on : Numbered (roster_of m).accounts a) where
    pub words_agree : Agree (roster_of m) (roster_in (roster_part m)) (balances_of m a) (balances_in (balances_part m a))
    words_agree =
        record {
          instruments = sym (instruments_same m);
          of_group = group_same;
          weight = weight_same m;
          balance = λ i l. sym (balance_in m a on (sound_readable m held) i l);
        }

    pub words_potential : (unit : Order → ℕ) (orders : List Order) (p : Scope) → Asked (roster_of m) p → (w : Way)
        → potential unit (roster_in (roster_part m)) orders a (balances_in (balances_part m a)) p w ≡ potential unit
        (roster_of m) orders a (balances_of m a) p w
    words_potential unit orders p asked w =
        sym (same_potential unit orders a (roster_of m) (roster_in (roster_part m)) (balances_of m a)
        (balances_in (balances_part m a)) words_agree p asked w)
