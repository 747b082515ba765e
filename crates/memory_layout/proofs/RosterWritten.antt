-- The words of a written roster, and what a written roster leaves alone.
use Rattle.std.specs.Prelude.{◌+◌, ◌^◌, ◌≤◌, ◌<◌, ◌≡◌, ◌≢◌, ◌∷◌}
use Rattle.integers.specs.Basics.{ℕ, zero, suc, ◌∙◌, List, [], ℤ, length, get_or}
use Rattle.integers.specs.Basics.{w64, SFits, arith}
use Rattle.integers.specs.TwosComplement.{bits_of}
use Rattle.words.specs.Words.{word_at, signed_at, put_word, put_signed, put_words}
use Rattle.words.proofs.Memory.{length_put, word_put_same, word_put_other}
use Rattle.words.proofs.Runs.{word_puts_same}
use Rattle.words.proofs.TwosComplement.{signed_put_same, signed_put_other}
use Rattle.ledger.specs.Roster.{Roster}
use Rattle.memory_layout.specs.Opening.{groups_written, contracts_written, weights_written, with_sizes, with_roster}
use Rattle.memory_layout.proofs.RosterLaws.{Sized}
use Rattle.memory_layout.proofs.Written.{written_keeps, written_there}

word_signed_other : (m : List ℕ) (k : ℕ) (z : ℤ) (j : ℕ) → j ≢ k → word_at (put_signed m k z) j ≡ word_at m j
unfolding put_signed
word_signed_other m k z j other = word_put_other m k (bits_of 64 z) j other

-- ---- what a store outside the roster's words would show is as it was
module _ {A : Type 0} (of : List ℕ → A) (keeps : (l : List ℕ) (k v : ℕ) → 1 ≤ k → k ≤ 76 → of (put_word l k v) ≡ of l) where
  sizes_keep : (l : List ℕ) (a g c i : ℕ) → of (with_sizes l a g c i) ≡ of l
  unfolding with_sizes put_words
  sizes_keep l a g c i =
      keeps _ 4 i (omega arith) (omega arith)
      ∙ keeps _ 3 c (omega arith) (omega arith)
      ∙ keeps _ 2 g (omega arith) (omega arith)
      ∙ keeps l 1 a (omega arith) (omega arith)

  groups_keep : (f : ℕ → ℕ) (l : List ℕ) (n : ℕ) → n ≤ 8 → of (groups_written f l n) ≡ of l
  groups_keep f l n few =
      written_keeps (λ x k. put_word x (4 + k) (f k)) of l n (λ x k low high. keeps x (4 + k) (f k) (omega arith) (omega arith))

  contracts_keep : (f : ℕ → ℕ) (l : List ℕ) (n : ℕ) → n ≤ 32 → of (contracts_written f l n) ≡ of l
  contracts_keep f l n few =
      written_keeps (λ x k. put_word x (12 + k) (f k)) of l n (λ x k low high. keeps x (12 + k) (f k) (omega arith) (omega arith))

  weights_keep : (w : ℕ → ℤ) (l : List ℕ) (n : ℕ) → n ≤ 32 → of (weights_written w l n) ≡ of l
  unfolding put_signed
  weights_keep w l n few =
      written_keeps (λ x k. put_signed x (44 + k) (w k)) of l n
      (λ x k low high. keeps x (44 + k) (bits_of 64 (w k)) (omega arith) (omega arith))

  pub roster_keeps : (l : List ℕ) (r : Roster) → Sized r → of (with_roster l r) ≡ of l
  unfolding with_roster
  roster_keeps l r sized =
      weights_keep r.weight _ r.instruments sized.instruments
      ∙ contracts_keep r.contract_of _ r.instruments sized.instruments
      ∙ groups_keep r.group_of _ r.contracts sized.contracts
      ∙ sizes_keep l r.accounts r.groups r.contracts r.instruments

pub length_kept : (l : List ℕ) (k v : ℕ) → 1 ≤ k → k ≤ 76 → length (put_word l k v) ≡ length l
length_kept l k v low high = length_put l k v

length_signed : (m : List ℕ) (k : ℕ) (z : ℤ) → length (put_signed m k z) ≡ length m
unfolding put_signed
length_signed m k z = length_put m k (bits_of 64 z)

-- ---- what the written words say
four_small : (a b c d : ℕ) → a < 2 ^ 64 → b < 2 ^ 64 → c < 2 ^ 64 → d < 2 ^ 64 → (i : ℕ) → get_or (a ∷ b ∷ c ∷ d ∷ []) i 0 < 2 ^ 64
four_small a b c d ha hb hc hd zero = ha
four_small a b c d ha hb hc hd (suc zero) = hb
four_small a b c d ha hb hc hd (suc (suc zero)) = hc
four_small a b c d ha hb hc hd (suc (suc (suc zero))) = hd
four_small a b c d ha hb hc hd (suc (suc (suc (suc i)))) = omega arith

module _ (l : List ℕ) (r : Roster) (long : 65536 ≤ length l) (fit : Sized r) where
  abbrev sized : List ℕ
  sized = with_sizes l r.accounts r.groups r.contracts r.instruments

  abbrev grouped : List ℕ
  grouped = groups_written r.group_of sized r.contracts

  abbrev named : List ℕ
  named = contracts_written r.contract_of grouped r.instruments

  sized_length : length sized ≡ length l
  sized_length = sizes_keep length length_kept l r.accounts r.groups r.contracts r.instruments

  grouped_length : length grouped ≡ length l
  grouped_length = groups_keep length length_kept r.group_of sized r.contracts fit.contracts ∙ sized_length

  named_length : length named ≡ length l
  named_length = contracts_keep length length_kept r.contract_of grouped r.instruments fit.instruments ∙ grouped_length

  -- words before a table are as they were
  before_weights : (j : ℕ) → j ≤ 44 → word_at (with_roster l r) j ≡ word_at named j
  unfolding with_roster
  before_weights j h =
      written_keeps (λ x k. put_signed x (44 + k) (r.weight k)) (λ x. word_at x j) named r.instruments
      (λ x k low high. word_signed_other x (44 + k) (r.weight k) j (λ e. omega arith))

  before_contracts : (j : ℕ) → j ≤ 12 → word_at named j ≡ word_at grouped j
  before_contracts j h =
      written_keeps (λ x k. put_word x (12 + k) (r.contract_of k)) (λ x. word_at x j) grouped r.instruments
      (λ x k low high. word_put_other x (12 + k) (r.contract_of k) j (λ e. omega arith))

  -- words 1 to 4: the sizes
  pub size_word : (j : ℕ) → j < 4 → word_at (with_roster l r) (1 + j)
      ≡ get_or (r.accounts ∷ r.groups ∷ r.contracts ∷ r.instruments ∷ []) j 0
  unfolding with_sizes
  size_word j h =
      before_weights (1 + j) (omega arith)
      ∙ before_contracts (1 + j) (omega arith)
      ∙ written_keeps (λ x k. put_word x (4 + k) (r.group_of k)) (λ x. word_at x (1 + j)) sized r.contracts
      (λ x k low high. word_put_other x (4 + k) (r.group_of k) (1 + j) (λ e. omega arith))
      ∙ word_puts_same l 1 (r.accounts ∷ r.groups ∷ r.contracts ∷ r.instruments ∷ []) j (omega arith)
      (four_small r.accounts r.groups r.contracts r.instruments (omega (arith, fit.accounts)) (omega (arith, fit.groups))
      (omega (arith, fit.contracts)) (omega (arith, fit.instruments))) h

  -- words 5 to 12: the groups of the contracts
  pub group_word : (k : ℕ) → 1 ≤ k → k ≤ r.contracts → r.group_of k < 2 ^ 64 → word_at (with_roster l r) (4 + k) ≡ r.group_of k
  group_word k low high small =
      before_weights (4 + k) (omega (arith, fit.contracts))
      ∙ before_contracts (4 + k) (omega (arith, fit.contracts))
      ∙ written_there (λ x j. put_word x (4 + j) (r.group_of j)) (λ x. word_at x (4 + k)) (r.group_of k) sized k
      (λ x e. word_put_same x (4 + k) (r.group_of k) (omega (arith, sized_length, fit.contracts)) small)
      (λ x j other. word_put_other x (4 + j) (r.group_of j) (4 + k) (λ e. other (omega arith)))
      (λ x j. length_put x (4 + j) (r.group_of j))
      r.contracts low high

  -- words 13 to 44: the contracts of the instruments
  pub contract_word : (k : ℕ) → 1 ≤ k → k ≤ r.instruments → r.contract_of k < 2 ^ 64 → word_at (with_roster l r) (12 + k) ≡ r.contract_of k
  contract_word k low high small =
      before_weights (12 + k) (omega (arith, fit.instruments))
      ∙ written_there (λ x j. put_word x (12 + j) (r.contract_of j)) (λ x. word_at x (12 + k)) (r.contract_of k) grouped k
      (λ x e. word_put_same x (12 + k) (r.contract_of k) (omega (arith, grouped_length, fit.instruments)) small)
      (λ x j other. word_put_other x (12 + j) (r.contract_of j) (12 + k) (λ e. other (omega arith)))
      (λ x j. length_put x (12 + j) (r.contract_of j))
      r.instruments low high

  -- words 45 to 76: the weights
  pub weight_word : (k : ℕ) → 1 ≤ k → k ≤ r.instruments → SFits w64 (r.weight k) → signed_at (with_roster l r) (44 + k) ≡ r.weight k
  unfolding with_roster
  weight_word k low high small =
      written_there (λ x j. put_signed x (44 + j) (r.weight j)) (λ x. signed_at x (44 + k)) (r.weight k) named k
      (λ x e. signed_put_same x (44 + k) (r.weight k) (omega (arith, named_length, fit.instruments)) small)
      (λ x j other. signed_put_other x (44 + j) (r.weight j) (44 + k) (λ e. other (omega arith)))
      (λ x j. length_signed x (44 + j) (r.weight j))
      r.instruments low high
