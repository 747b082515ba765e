-- What is asked of an order, as facts.
use Rattle.std.specs.Prelude.{◌≤◌, ◌≡◌, ◌&&◌}
use Rattle.integers.specs.Basics.{ℕ, Bool, true, leb, arith, leb-true, le-leb}
use Rattle.ledger.specs.declared.order.Order.{Order}
use Rattle.ledger.specs.Orders.{remaining}
use Rattle.ledger.specs.Roster.{Roster, Numbered}
use Rattle.limits.proofs.Answers.{both_true}
use Rattle.book.specs.Decoding.{between}
use Rattle.book.proofs.Tables.{between_numbered}
use Rattle.memory_soundness.specs.Soundness.{order_sound}
use Rattle.memory_layout.proofs.RosterLaws.{numbered_between}

pub record Fit (r : Roster) (trading : ℕ → Bool) (o : Order) : Type 0 where
  pub account : Numbered r.accounts o.account
  pub instrument : Numbered r.instruments o.instrument
  pub total : Numbered 1000000 o.total
  pub remains : 1 ≤ remaining o
  pub marked : trading o.account ≡ true

module _ (r : Roster) (trading : ℕ → Bool) (o : Order) where
  pub order_out : order_sound r trading o ≡ true → Fit r trading o
  unfolding order_sound
  order_out e =
      let a = between 1 r.accounts o.account in
      let i = between 1 r.instruments o.instrument in
      let t = between 1 1000000 o.total in
      let h4 = both_true (a && i && t && leb 1 (remaining o)) (trading o.account) e in
      let h3 = both_true (a && i && t) (leb 1 (remaining o)) h4.0 in
      let h2 = both_true (a && i) t h3.0 in
      let h1 = both_true a i h2.0 in
      record {
        account = between_numbered r.accounts o.account h1.0;
        instrument = between_numbered r.instruments o.instrument h1.1;
        total = between_numbered 1000000 o.total h2.1;
        remains = leb-true 1 (remaining o) h3.1;
        marked = h4.1;
      }

  pub order_in_lem : Fit r trading o → order_sound r trading o ≡ true
  unfolding order_sound
  order_in_lem f =
      rw (
        numbered_between r.accounts o.account f.account,
        numbered_between r.instruments o.instrument f.instrument,
        numbered_between 1000000 o.total f.total,
        le-leb 1 (remaining o) f.remains,
      ) f.marked

  pub remaining_small : Fit r trading o → remaining o ≤ 1000000
  unfolding remaining
  remaining_small f = omega (arith, f.total.1)
