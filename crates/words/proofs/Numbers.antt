-- Laws of little-endian numbers in bytes, for every width n in bytes.
use Rattle.std.specs.Prelude.{◌+◌, ◌*◌, ◌/◌, ◌%◌, ◌^◌, ◌≤◌, ◌<◌, ◌≡◌, ◌≢◌}
use Rattle.integers.specs.Basics.{ℕ, zero, suc, refl, ◌∙◌, List, length, get_or, set, length-set}
use Rattle.integers.specs.Basics.{ℕ_discrete, arith}
use native.Mathlib.Nat.{pow-suc}
use native.Mathlib.Decide.{dec_lt}
use lib.Seq.{get_or-set_same, get_or-set_other, set-get_or, set_out}
use Rattle.words.specs.Bytes.{Bytes, number, store}

pub length_store : (n : ℕ) (m : List ℕ) (a v : ℕ) → length (store n m a v) ≡ length m
unfolding store
length_store zero m a v = refl
length_store (suc n) m a v =
    length_store n (set m a (v % 256)) (a + 1) (v / 256) ∙ length-set m a (v % 256)

-- a byte that is none of the n stored ones is as it was
pub byte_store_other : (n : ℕ) (m : List ℕ) (a v i : ℕ) → ((j : ℕ) → j < n → i ≢ a + j) → get_or (store n m a v) i 0 ≡ get_or m i 0
unfolding store
byte_store_other zero m a v i apart = refl
byte_store_other (suc n) m a v i apart =
    byte_store_other n (set m a (v % 256)) (a + 1) (v / 256) i (λ j h e. apart (j + 1) (omega arith) (omega arith))
    ∙ get_or-set_other m a i (v % 256) 0 (λ e. apart 0 (omega arith) (omega arith))

-- a number of k bytes that shares none with the n stored ones is as it was
pub number_store_other : (k n : ℕ) (m : List ℕ) (a v b : ℕ) → ((i j : ℕ) → i < k → j < n → b + i ≢ a + j)
    → number k (store n m a v) b ≡ number k m b
unfolding number
number_store_other zero n m a v b apart = refl
number_store_other (suc k) n m a v b apart =
    rw (
      byte_store_other n m a v b (λ j h e. apart 0 j (omega arith) h (omega arith)),
      number_store_other k n m a v (b + 1)
          (λ i j g h e. apart (i + 1) j (omega arith) h (omega arith)),
    )

-- the stored number is read back
pub number_store_same : (n : ℕ) (m : List ℕ) (a v : ℕ) → a + n ≤ length m → v < 256 ^ n → number n (store n m a v) a ≡ v
unfolding number store
number_store_same zero m a v fits below = omega arith
number_store_same (suc n) m a v fits below =
    let rest : v / 256 < 256 ^ n = omega (arith, pow-suc 256 n) in
    let inside : a < length m = omega arith in
    let long : a + 1 + n ≤ length (set m a (v % 256)) = simp length-set (omega arith) in
    let first : get_or (store n (set m a (v % 256)) (a + 1) (v / 256)) a 0 ≡ v % 256 = byte_store_other n (set m a (v % 256)) (a + 1)
    (v / 256) a (λ j h e. omega arith) ∙ get_or-set_same m a (v % 256) 0 inside in
    let others : number n (store n (set m a (v % 256)) (a + 1) (v / 256)) (a + 1) ≡ v / 256 = number_store_same n (set m a (v % 256))
    (a + 1) (v / 256) long rest in
    rw (first, others) (omega arith)

pub number_below : (n : ℕ) (m : List ℕ) (a : ℕ) → Bytes m → number n m a < 256 ^ n
unfolding number
number_below zero m a bytes = omega arith
number_below (suc n) m a bytes =
    omega (arith, bytes a, number_below n m (a + 1) bytes, pow-suc 256 n)

-- a number stored where it stands changes nothing
pub store_back : (n : ℕ) (m : List ℕ) (a : ℕ) → Bytes m → store n m a (number n m a) ≡ m
unfolding number store
store_back zero m a bytes = refl
store_back (suc n) m a bytes =
    let first : (get_or m a 0 + 256 * number n m (a + 1)) % 256 ≡ get_or m a 0 = omega (arith, bytes a) in
    let others : (get_or m a 0 + 256 * number n m (a + 1)) / 256 ≡ number n m (a + 1) = omega (arith, bytes a) in
    rw (first, others, set-get_or) (store_back n m (a + 1) bytes)

set_bytes : (m : List ℕ) (a b i : ℕ) → Bytes m → b < 256 → Dec (i ≡ a) → Dec (a < length m) → get_or (set m a b) i 0 < 256
set_bytes m a b i bytes small (yes e) (yes inside) = rw (e, get_or-set_same m a b 0 inside) small
set_bytes m a b i bytes small (yes e) (no outside) = rw (set_out m a b (omega (arith, outside))) (bytes i)
set_bytes m a b i bytes small (no ne) d = rw (get_or-set_other m a i b 0 ne) (bytes i)

pub store_bytes : (n : ℕ) (m : List ℕ) (a v : ℕ) → Bytes m → Bytes (store n m a v)
unfolding store
store_bytes zero m a v bytes = bytes
store_bytes (suc n) m a v bytes =
    store_bytes n (set m a (v % 256)) (a + 1) (v / 256)
    (λ i. set_bytes m a (v % 256) i bytes (omega arith) (ℕ_discrete i a) (dec_lt a (length m)))
