-- What the stores of single fields change: one word, or a line's figures and the word that says that it is set.
use Rattle.std.specs.Prelude.{◌+◌, ◌*◌, ◌^◌, ◌≤◌, ◌<◌, ◌≡◌, ◌≢◌, ◌∷◌}
use Rattle.integers.specs.Basics.{ℕ, zero, suc, ◌∙◌, ap, Bool, true, false, cond, List, [], Option}
use Rattle.integers.specs.Basics.{None, Some, ℤ, length, get_or, arith}
use Rattle.integers.specs.TwosComplement.{bits_of}
use Rattle.words.specs.Words.{AreWords, word_at, put_word, put_signed, put_words}
use Rattle.words.proofs.Memory.{word_put_same, word_put_other}
use Rattle.words.proofs.HalfWords.{lower_halves, upper_halves, halves_below}
use Rattle.words.proofs.Runs.{length_puts, word_puts_same, word_puts_other}
use Rattle.limits.specs.declared.lines.Line.{Line}
use Rattle.limits.specs.declared.lines.GroupLine.{GroupLine}
use Rattle.limits.specs.InBytes.{line_at, group_line_at}
use Rattle.memory_layout.specs.View.{flag}
use Rattle.memory_layout.specs.FieldStores.{bit, line_words, group_line_words, store_line, store_group_line}
use Rattle.memory_layout.proofs.SameFields.{Same}

-- every word but word j is the same
abbrev pub Except : ℕ → List ℕ → List ℕ → Type 0
Except j l m = (k : ℕ) → k ≢ j → word_at l k ≡ word_at m k

pub except_put : (m : List ℕ) (j v : ℕ) → Except j (put_word m j v) m
except_put m j v k other = word_put_other m j v k other

pub except_signed : (m : List ℕ) (j : ℕ) (z : ℤ) → Except j (put_signed m j z) m
unfolding put_signed
except_signed m j z = except_put m j (bits_of 64 z)

pub except_same : (l m : List ℕ) (j low high : ℕ) → Except j l m → (low ≤ j → j < high → ⊥) → Same low high l m
except_same l m j low high others outside k from below = others k (λ e. outside (omega arith) (omega arith))

-- ---- a yes or no
pub flag_bit : (m : List ℕ) (j : ℕ) (on : Bool) → j * 8 + 8 ≤ length m → flag (put_word m j (bit on)) j ≡ on
flag_bit m j true fits = rw (word_put_same m j 1 fits (omega arith))
flag_bit m j false fits = rw (word_put_same m j 0 fits (omega arith))

-- ---- a line
-- its figures fit halves of words
unfoldable pub SmallLine : Option Line → Type 0
SmallLine None = Unit
SmallLine (Some l) = (l.tci < 2 ^ 32) × (l.tvi < 2 ^ 32) × (l.lci < 2 ^ 32) × (l.lvi < 2 ^ 32)

unfoldable pub SmallGroupLine : Option GroupLine → Type 0
SmallGroupLine None = Unit
SmallGroupLine (Some l) = (l.lcc < 2 ^ 32) × (l.lvc < 2 ^ 32)

two_words : (a b : ℕ) → a < 2 ^ 64 → b < 2 ^ 64 → AreWords (a ∷ b ∷ [])
two_words a b ha hb zero = ha
two_words a b ha hb (suc zero) = hb
two_words a b ha hb (suc (suc i)) = omega arith

one_word : (a : ℕ) → a < 2 ^ 64 → AreWords (a ∷ [])
one_word a ha zero = ha
one_word a ha (suc i) = omega arith

module _ (m : List ℕ) (s k : ℕ) where
  -- a word of neither is as it was
  elsewhere : (vs : List ℕ) (j : ℕ) → j ≢ s → (k ≤ j → j < k + length vs → ⊥) → word_at (put_word (put_words m k vs) s 1) j ≡ word_at m j
  elsewhere vs j other outside =
      word_put_other (put_words m k vs) s 1 j other
      ∙ word_puts_other m k vs j (λ i h e. outside (omega arith) (omega arith))

  pub line_elsewhere : (x : Option Line) (j : ℕ) → j ≢ s → (k ≤ j → j < k + 2 → ⊥) → word_at (store_line m s k x) j ≡ word_at m j
  line_elsewhere None j other outside = word_put_other m s 0 j other
  line_elsewhere (Some l) j other outside = elsewhere (line_words l) j other outside

  pub group_line_elsewhere : (x : Option GroupLine) (j : ℕ) → j ≢ s → (k ≤ j → j < k + 1 → ⊥)
      → word_at (store_group_line m s k x) j ≡ word_at m j
  group_line_elsewhere None j other outside = word_put_other m s 0 j other
  group_line_elsewhere (Some l) j other outside = elsewhere (group_line_words l) j other outside

  -- what was stored is read back
  module _ (vs : List ℕ) (words : AreWords vs) (fits : s * 8 + 8 ≤ length m) (room : (k + length vs) * 8 ≤ length m)
      (apart : k ≤ s → s < k + length vs → ⊥) where
    set_back : flag (put_word (put_words m k vs) s 1) s ≡ true
    set_back = flag_bit (put_words m k vs) s true (omega (arith, length_puts m k vs))

    word_back : (j : ℕ) → j < length vs → word_at (put_word (put_words m k vs) s 1) (k + j) ≡ get_or vs j 0
    word_back j h =
        word_put_other (put_words m k vs) s 1 (k + j) (λ e. apart (omega arith) (omega arith))
        ∙ word_puts_same m k vs j room words h

    first_back : 0 < length vs → word_at (put_word (put_words m k vs) s 1) k ≡ get_or vs 0 0
    first_back h = ap (word_at (put_word (put_words m k vs) s 1)) (omega arith) ∙ word_back 0 h

  -- the line is read back
  pub line_back : (x : Option Line) → SmallLine x → s * 8 + 8 ≤ length m → (k + 2) * 8 ≤ length m → (k ≤ s → s < k + 2 → ⊥)
      → ◌≡◌ {A = Option Line} (cond (flag (store_line m s k x) s) (Some (line_at (store_line m s k x) k)) None) x
  unfolding SmallLine line_at
  line_back None small fits room apart =
      ap (λ t. cond t (Some (line_at (put_word m s 0) k)) None) (flag_bit m s false fits)
  line_back (Some l) small fits room apart =
      let words : AreWords (line_words l) = two_words _ _ (halves_below l.tci l.tvi small.0 small.1)
      (halves_below l.lci l.lvi small.2 small.3) in
      rw (
        set_back (line_words l) words fits room apart,
        first_back (line_words l) words fits room apart (omega arith),
        word_back (line_words l) words fits room apart 1 (omega arith),
        lower_halves l.tci l.tvi small.0,
        upper_halves l.tci l.tvi small.0,
        lower_halves l.lci l.lvi small.2,
        upper_halves l.lci l.lvi small.2,
      )

  pub group_line_back : (x : Option GroupLine) → SmallGroupLine x → s * 8 + 8 ≤ length m → (k + 1) * 8 ≤ length m → (k ≤ s → s < k + 1 → ⊥)
      → ◌≡◌ {A = Option GroupLine} (cond (flag (store_group_line m s k x) s) (Some (group_line_at (store_group_line m s k x) k)) None) x
  unfolding SmallGroupLine group_line_at
  group_line_back None small fits room apart =
      ap (λ t. cond t (Some (group_line_at (put_word m s 0) k)) None) (flag_bit m s false fits)
  group_line_back (Some l) small fits room apart =
      let words : AreWords (group_line_words l) = one_word _ (halves_below l.lcc l.lvc small.0 small.1) in
      rw (
        set_back (group_line_words l) words fits room apart,
        first_back (group_line_words l) words fits room apart (omega arith),
        lower_halves l.lcc l.lvc small.0,
        upper_halves l.lcc l.lvc small.0,
      )
