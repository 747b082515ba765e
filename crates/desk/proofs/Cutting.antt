-- Bytes cut into events.
use Rattle.std.specs.Prelude.{◌≤◌, ◌<◌, ◌≡◌, ◌∷◌, ◌++◌, min}
use Rattle.integers.specs.Basics.{ℕ, zero, suc, refl, ◌∙◌, ap, List, [], length, take, drop, arith}
use lib.ListN.{length-drop}
use Rattle.desk.specs.Run.{cut_in, cut}

-- any number that is large enough
cut_enough : (n k : ℕ) (s : List ℕ) → length s ≤ n → length s ≤ k → cut_in n s ≡ cut_in k s
unfolding cut_in
cut_enough zero zero s h g = refl
cut_enough zero (suc k) [] h g = refl
cut_enough zero (suc k) (b ∷ s) h g = absurd (omega arith)
cut_enough (suc n) zero [] h g = refl
cut_enough (suc n) zero (b ∷ s) h g = absurd (omega arith)
cut_enough (suc n) (suc k) [] h g = refl
cut_enough (suc n) (suc k) (b ∷ s) h g =
    ap (λ l. take 48 (b ∷ s) ∷ l)
    (cut_enough n k (drop 48 (b ∷ s)) (omega (arith, length-drop 48 (b ∷ s))) (omega (arith, length-drop 48 (b ∷ s))))

pub cut_none : cut [] ≡ []
unfolding cut cut_in
cut_none = refl

pub cut_more : (s : List ℕ) → 1 ≤ length s → cut s ≡ take 48 s ∷ cut (drop 48 s)
unfolding cut cut_in
cut_more [] h = absurd (omega arith)
cut_more (b ∷ s) h =
    ap (λ l. take 48 (b ∷ s) ∷ l)
    (cut_enough (length s) (length (drop 48 (b ∷ s))) (drop 48 (b ∷ s)) (omega (arith, length-drop 48 (b ∷ s))) (omega arith))

-- n elements off the front, or all where there are fewer
front : {A : Type 0} (n : ℕ) (e behind : List A) → length e ≡ min n (length (e ++ behind))
    → (take n (e ++ behind) ≡ e) × (drop n (e ++ behind) ≡ behind)
front zero [] behind size = (refl, refl)
front zero (x ∷ e) behind size = absurd (omega arith)
front (suc n) [] [] size = (refl, refl)
front (suc n) [] (y ∷ behind) size = absurd (omega arith)
front (suc n) (x ∷ e) behind size = let rest = front n e behind (omega arith) in (ap (λ l. x ∷ l) rest.0, rest.1)

-- a chunk of 48 bytes, or of what there is, is the first event
pub cut_chunk : (s e behind : List ℕ) → 0 < length s → s ≡ e ++ behind → length e ≡ min 48 (length s) → cut s ≡ e ∷ cut behind
cut_chunk s e behind more parts size =
    let f = front 48 e behind (rw parts at size) in
    let taken : take 48 s ≡ e = rw parts f.0 in
    let dropped : drop 48 s ≡ behind = rw parts f.1 in
    cut_more s (omega arith) ∙ rw (taken, dropped)
