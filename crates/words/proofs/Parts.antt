-- Laws of parts of a memory: a number in a part is a number of the whole.
use Rattle.std.specs.Prelude.{◌+◌, ◌*◌, ◌≤◌, ◌<◌, ◌≡◌}
use Rattle.integers.specs.Basics.{ℕ, zero, suc, refl, List, length}
use Rattle.integers.specs.Basics.{take, drop, arith}
use native.Mathlib.Nat.{add_assoc}
use lib.ListN.{length-take, length-drop}
use lib.Seq.{get_or-take, get_or-drop}
use Rattle.words.specs.Bytes.{number}
use Rattle.words.specs.Words.{word_at, part_of}

pub number_part : (k : ℕ) (m : List ℕ) (a n b : ℕ) → b + k ≤ n → number k (take n (drop a m)) b ≡ number k m (a + b)
unfolding number
number_part zero m a n b h = refl
number_part (suc k) m a n b h =
    let inside : b < n = omega arith in
    rw (get_or-take n (drop a m) b 0 inside, get_or-drop a m b 0, number_part k m a n (b + 1) (omega arith), add_assoc a b 1)

pub length_part : (m : List ℕ) (k n : ℕ) → (k + n) * 8 ≤ length m → length (part_of m k n) ≡ n * 8
unfolding part_of
length_part m k n fits = simp (length-take, length-drop) (omega arith)

pub word_part : (m : List ℕ) (k n j : ℕ) → j < n → word_at (part_of m k n) j ≡ word_at m (k + j)
unfolding word_at part_of
word_part m k n j h =
    let e : (k + j) * 8 ≡ k * 8 + j * 8 = omega arith in
    rw e (number_part 8 m (k * 8) (n * 8) (j * 8) (omega arith))
