-- The order that an id names: where the search finds it in the memory, and how the book finds it.
use Rattle.std.specs.Prelude.{◌+◌, ◌-◌, ◌≤◌, ◌<◌, ◌≡◌, ◌∷◌}
use Rattle.std.proofs.lemmas.Option.{none-some}
use Rattle.integers.specs.Basics.{ℕ, refl, sym, by_cases, false, List, [], None, Some, eqb, ℕ_discrete, arith, eq-eqb, ne_eqb}
use Rattle.ledger.specs.declared.order.Order.{Order}
use Rattle.ledger.specs.Orders.{place_from}
use Rattle.ledger.proofs.Ways.{by_test}
use Rattle.limits.specs.Lines.{is_set}
use Rattle.book.specs.OpenOrders.{find}
use Rattle.memory_layout.specs.View.{open_orders}
use Rattle.memory_layout.specs.Stores.{order_in, rank}
use Rattle.memory_layout.proofs.Lengths.{rank_open}
use Rattle.memory_layout.proofs.ViewOrders.{found_order, found_below, found_id}
use Rattle.memory_layout.proofs.Ranking.{found_before, found_none}
use Rattle.memory_soundness.specs.SoundMemory.{SoundMemory}
use Rattle.memory_soundness.proofs.SoundDesk.{sound_records, sound_count, sound_ids}

from_nowhere : (id q : ℕ) (os : List Order) → place_from q id os ≡ None → find id os ≡ None
unfolding place_from find
from_nowhere id q [] e = refl
from_nowhere id q (o ∷ os) e =
    by_test (eqb o.id id) (λ t. absurd (none-some _ (rw t at (sym e)))) (λ t. rw t (from_nowhere id (q + 1) os (rw t at e)))

-- ---- at a sound desk
module _ (m : List ℕ) (held : SoundMemory m) where
  -- the place of the first larger id
  pub rank_small : (id p : ℕ) → p ≡ rank id (open_orders m) → p ≤ 256
  rank_small id p is = omega (arith, rank_open m id, sound_count m held)

module _ (m : List ℕ) (id : ℕ) where
  pub place_small : SoundMemory m → (p : ℕ) → place_from 0 id (open_orders m) ≡ Some p → p < 256
  place_small h p e = omega (arith, found_below m id p e, sound_count m h)

  pub no_order_lem : place_from 0 id (open_orders m) ≡ None → find id (open_orders m) ≡ None
  no_order_lem e = from_nowhere id 0 (open_orders m) e

-- ---- at the place p of the first larger id
module _ (m : List ℕ) (held : SoundMemory m) (id p : ℕ) (is : p ≡ rank id (open_orders m)) where
  -- the id x just before it says whether an order is open
  pub open_before : (x : ℕ) → x ≡ (order_in m (p - 1)).id → 1 ≤ p → eqb x id ≡ is_set (find id (open_orders m))
  open_before x read h =
      by_cases (ℕ_discrete x id)
      (λ same. rw (eq-eqb x id same, found_order m id (p - 1) (found_before m id (sound_ids m held) p x is read h same)))
      (λ other. rw (ne_eqb x id other, no_order_lem m id (found_none m id (sound_ids m held) p x is read (λ k. other))))

  -- and where nothing is before it, none is
  pub none_before : p ≡ 0 → is_set (find id (open_orders m)) ≡ false
  none_before h =
      rw (no_order_lem m id (found_none m id (sound_ids m held) p _ is refl (λ k. absurd (omega arith))))

-- where a new id's place is, and whether an order is open just before it
pub ruleset placing = (sound_records, rank_small, open_before, none_before)

-- where an open order is found
pub ruleset finding = (sound_records, place_small, found_order, found_id, no_order_lem)
