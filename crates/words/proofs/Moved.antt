-- Words moved: their bytes copied.
use Rattle.std.specs.Prelude.{◌+◌, ◌-◌, ◌*◌, ◌/◌, ◌%◌, ◌≤◌, ◌<◌, ◌≡◌}
use Rattle.std.specs.List.{copy_within}
use Rattle.integers.specs.Basics.{ℕ, zero, suc, refl, ◌∙◌, sym, List, length, get_or, set, take, drop, arith}
use lib.ListN.{length-take, length-drop}
use lib.Seq.{sets, sets-eq, drop-cons}
use native.Mathlib.Numerals.{add-one}
use Rattle.words.specs.Bytes.{Bytes, number, store}
use Rattle.words.specs.Words.{word_at, put_word, words_at, put_words}

-- n bytes stored as a number, and r more behind them
store_more : (n r : ℕ) (m l : List ℕ) (a b : ℕ) → Bytes l → b + n ≤ length l
    → sets (store n m a (number n l b)) (a + n) (take r (drop (b + n) l)) ≡ sets m a (take (n + r) (drop b l))
unfolding number store
store_more zero r m l a b bytes fits =
    let e : a + 0 ≡ a = omega arith in
    let f : b + 0 ≡ b = omega arith in
    let g : 0 + r ≡ r = omega arith in
    rw (e, f, g)
store_more (suc n) r m l a b bytes fits =
    let x : ℕ = get_or l b 0 in
    let y : ℕ = number n l (b + 1) in
    let small : x < 256 = bytes b in
    let low : (x + 256 * y) % 256 ≡ x = omega arith in
    let high : (x + 256 * y) / 256 ≡ y = omega arith in
    let inside : b < length l = omega arith in
    let e : a + suc n ≡ suc a + n = omega arith in
    let f : b + suc n ≡ suc b + n = omega arith in
    let g : suc n + r ≡ suc (n + r) = omega arith in
    rw (low, high, e, f, g, drop-cons l b 0 inside, add-one a, add-one b)
    (store_more n r (set m a x) l (suc a) (suc b) bytes (omega arith))

puts_sets : (n : ℕ) (m l : List ℕ) (j k : ℕ) → Bytes l → (k + n) * 8 ≤ length l
    → put_words m j (words_at l k n) ≡ sets m (j * 8) (take (n * 8) (drop (k * 8) l))
unfolding put_words words_at put_word word_at
puts_sets zero m l j k bytes fits = refl
puts_sets (suc n) m l j k bytes fits =
    let e : (j + 1) * 8 ≡ j * 8 + 8 = omega arith in
    let f : (k + 1) * 8 ≡ k * 8 + 8 = omega arith in
    let g : suc n * 8 ≡ 8 + n * 8 = omega arith in
    puts_sets n (put_word m j (word_at l k)) l (j + 1) (k + 1) bytes (omega arith)
    ∙ rw (e, f, g) (store_more 8 (n * 8) m l (j * 8) (k * 8) bytes (omega arith))

-- the bytes of n words that are copied are the words stored
pub copied_words : (n : ℕ) (m : List ℕ) (from to : ℕ) → Bytes m → (from + n) * 8 ≤ length m → (to + n) * 8 ≤ length m
    → copy_within m (from * 8) ((from + n) * 8) (to * 8) ≡ put_words m to (words_at m from n)
copied_words n m from to bytes fits room =
    let ys : List ℕ = take (n * 8) (drop (from * 8) m) in
    let long : length ys ≡ n * 8 = simp (length-take, length-drop) (omega arith) in
    let count : (from + n) * 8 - from * 8 ≡ n * 8 = omega arith in
    rw count (sym (puts_sets n m m to from bytes fits ∙ rw long at (sets-eq ys m (to * 8) (omega arith))))
