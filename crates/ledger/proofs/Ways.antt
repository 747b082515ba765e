-- Ways and sides: each tells the other, two of them are the same or opposite, and how a test between two is decided.
use Rattle.std.specs.Prelude.{◌≡◌, ◌≢◌, ◌+ℤ◌}
use Rattle.integers.specs.Basics.{ℕ, refl, Bool, true, false, ℤ, pos, eqb, arith, eqb-true, eqb-false}
use lib.IntN.{neg_ℤ-+ℤ}
use Rattle.ledger.specs.declared.order.Side.{Side}
use Rattle.ledger.specs.declared.order.Side.TheVariants.{Buy, Sell}
use Rattle.ledger.specs.Positions.{Way, long, short, opposite, toward, way_of, side_to, same_side}

pub side_there : (w : Way) → way_of (side_to w) ≡ w
side_there long = refl
side_there short = refl

pub side_back : (s : Side) → side_to (way_of s) ≡ s
side_back Buy = refl
side_back Sell = refl

pub opposite_apart : (w : Way) → opposite w ≢ w
opposite_apart long e = let z : ◌≡◌ {A = ℕ} 0 1 = cc in omega arith
opposite_apart short e = let z : ◌≡◌ {A = ℕ} 0 1 = cc in omega arith

pub other_side : (w : Way) → side_to (opposite w) ≢ side_to w
other_side w e = opposite_apart w (cc (side_there w, side_there (opposite w)))

pub Way_discrete : (v w : Way) → Dec (v ≡ w)
Way_discrete long long = yes refl
Way_discrete long short = no (opposite_apart short)
Way_discrete short long = no (opposite_apart long)
Way_discrete short short = yes refl

-- ---- by a test
pub by_test : {P : Type 0} (t : Bool) → (t ≡ true → P) → (t ≡ false → P) → P
by_test true holds fails = holds refl
by_test false holds fails = fails refl

pub by_side : (s t : Side) (P : Bool → Type 0) → (s ≡ t → P true) → (s ≢ t → P false) → P (same_side s t)
by_side Buy Buy P same apart = same refl
by_side Buy Sell P same apart = apart (other_side short)
by_side Sell Buy P same apart = apart (other_side long)
by_side Sell Sell P same apart = same refl

pub by_number : (m n : ℕ) (P : Bool → Type 0) → (m ≡ n → P true) → (m ≢ n → P false) → P (eqb m n)
by_number m n P same apart =
    by_test (eqb m n) (λ e. rw e (same (eqb-true m n e))) (λ e. rw e (apart (eqb-false m n e)))

-- ---- a number on a side
pub zero_toward : (w : Way) → toward w (pos 0) ≡ pos 0
zero_toward long = refl
zero_toward short = refl

pub toward_sum : (w : Way) (x y : ℤ) → toward w (x +ℤ y) ≡ toward w x +ℤ toward w y
toward_sum long x y = refl
toward_sum short x y = neg_ℤ-+ℤ x y
