-- Document 01's formulas as it writes them: S is the balance, B (`buys`) and V (`sells`) the sums of open orders, K the weight.
use Rattle.std.specs.Prelude.{◌≡◌, ◌+ℤ◌, ◌-ℤ◌, ◌*ℤ◌}
use Rattle.integers.specs.Basics.{ℕ, suc, refl, ap, cond, List, ℤ, pos, negsuc, neg_ℤ, non_neg}
use lib.IntN.{+ℤ_comm}
use Rattle.ledger.specs.declared.order.Order.{Order}
use Rattle.ledger.specs.declared.order.Side.TheVariants.{Buy, Sell}
use Rattle.ledger.specs.Roster.{Roster}
use Rattle.ledger.specs.Positions.{long, short, instrument, group, open_on, of_instrument, group_part, sum_group, potential}
use Rattle.ledger.proofs.Groups.{group_same}

module _ (unit : Order → ℕ) (r : Roster) (orders : List Order) (a : ℕ) (S : ℕ → ℤ) where
  abbrev buys : ℕ → ℤ
  buys i = open_on unit orders Buy a i

  abbrev sells : ℕ → ℤ
  sells i = open_on unit orders Sell a i

  abbrev K : ℕ → ℤ
  K i = r.weight i

  pub PCI : (i : ℕ) → potential unit r orders a S (instrument i) long ≡ S i +ℤ buys i
  unfolding potential of_instrument
  PCI i = refl

  pub PVI : (i : ℕ) → potential unit r orders a S (instrument i) short ≡ neg_ℤ (S i) +ℤ sells i
  unfolding potential of_instrument
  PVI i = refl

  -- an instrument's part of PCC and of PVC, in the four cases of side and sign
  pub PCC_positive : (i k : ℕ) → group_part long (pos k) (of_instrument unit orders a S i) ≡ pos k *ℤ (S i +ℤ buys i)
  unfolding group_part of_instrument
  PCC_positive i k = refl

  pub PCC_negative : (i k : ℕ) → group_part long (negsuc k) (of_instrument unit orders a S i) ≡ neg_ℤ (negsuc k) *ℤ (sells i -ℤ S i)
  unfolding group_part of_instrument
  PCC_negative i k = ap (λ x. pos (suc k) *ℤ x) (+ℤ_comm (neg_ℤ (S i)) (sells i))

  pub PVC_positive : (i k : ℕ) → group_part short (pos k) (of_instrument unit orders a S i) ≡ pos k *ℤ (sells i -ℤ S i)
  unfolding group_part of_instrument
  PVC_positive i k = ap (λ x. pos k *ℤ x) (+ℤ_comm (neg_ℤ (S i)) (sells i))

  pub PVC_negative : (i k : ℕ) → group_part short (negsuc k) (of_instrument unit orders a S i) ≡ neg_ℤ (negsuc k) *ℤ (S i +ℤ buys i)
  unfolding group_part of_instrument
  PVC_negative i k = refl

  pub PCC : (g : ℕ) → potential unit r orders a S (group g) long ≡ sum_group r g
      (λ i. cond (non_neg (K i)) (K i *ℤ (S i +ℤ buys i)) (neg_ℤ (K i) *ℤ (sells i -ℤ S i)))
  unfolding potential
  PCC g = group_same r g _ _ (λ i _. part i (K i))
    where
      part : (i : ℕ) (k : ℤ) → group_part long k (of_instrument unit orders a S i) ≡ cond (non_neg k) (k *ℤ (S i +ℤ buys i))
          (neg_ℤ k *ℤ (sells i -ℤ S i))
      part i (pos k) = PCC_positive i k
      part i (negsuc k) = PCC_negative i k

  pub PVC : (g : ℕ) → potential unit r orders a S (group g) short ≡ sum_group r g
      (λ i. cond (non_neg (K i)) (K i *ℤ (sells i -ℤ S i)) (neg_ℤ (K i) *ℤ (S i +ℤ buys i)))
  unfolding potential
  PVC g = group_same r g _ _ (λ i _. part i (K i))
    where
      part : (i : ℕ) (k : ℤ) → group_part short k (of_instrument unit orders a S i) ≡ cond (non_neg k) (k *ℤ (sells i -ℤ S i))
          (neg_ℤ k *ℤ (S i +ℤ buys i))
      part i (pos k) = PVC_positive i k
      part i (negsuc k) = PVC_negative i k
