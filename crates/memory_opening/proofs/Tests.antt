-- What the tests of a roster say.
use Rattle.std.specs.Prelude.{◌+◌, ◌*◌, ◌≤◌, ◌≡◌, ◌&&◌}
use Rattle.integers.specs.Basics.{ℕ, Bool, true, cond, List, pos}
use Rattle.integers.specs.Basics.{nat_abs, leb, eqb, length, eqb-true}
use Rattle.words.specs.Fields.{u8_at, u16_at, i32_at}
use Rattle.ledger.specs.Roster.{Numbered}
use Rattle.limits.proofs.Answers.{both_true}
use Rattle.book.specs.Decoding.{between}
use Rattle.book.proofs.Tables.{between_numbered}
use Rattle.memory_layout.specs.Rosters.{listed, every, sizes_fit, names_fit, weights_fit}
use Rattle.memory_layout.proofs.RosterLaws.{numbered_between}
use Rattle.memory_layout.proofs.Every.{every_same}
use Rattle.memory_opening.specs.Questions.{roster_from, roster_length, lengths_fit}

-- ---- the questions
-- what question 2 says
pub record Lengths (s : List ℕ) : Type 0 where
  pub accounts : Numbered 16 (u16_at s 0)
  pub groups : Numbered 4 (u16_at s 2)
  pub contracts : Numbered 8 (u16_at s 4)
  pub instruments : Numbered 32 (u16_at s 6)
  pub exact : length s ≡ 8 + u16_at s 4 + 5 * u16_at s 6

module _ (s : List ℕ) where
  pub lengths_out : lengths_fit s ≡ true → Lengths s
  unfolding lengths_fit sizes_fit roster_length roster_from listed
  lengths_out e =
      let a : Bool = between 1 16 (u16_at s 0) in
      let g : Bool = between 1 4 (u16_at s 2) in
      let c : Bool = between 1 8 (u16_at s 4) in
      let i : Bool = between 1 32 (u16_at s 6) in
      let l : Bool = eqb (length s) (8 + u16_at s 4 + 5 * u16_at s 6) in
      let sizes = both_true (a && g && c && i) l e in
      let h3 = both_true (a && g && c) i sizes.0 in
      let h2 = both_true (a && g) c h3.0 in
      let h = both_true a g h2.0 in
      record {
        accounts = between_numbered 16 (u16_at s 0) h.0;
        groups = between_numbered 4 (u16_at s 2) h.1;
        contracts = between_numbered 8 (u16_at s 4) h2.1;
        instruments = between_numbered 32 (u16_at s 6) h3.1;
        exact = eqb-true (length s) (8 + u16_at s 4 + 5 * u16_at s 6) sizes.1;
      }

  -- the length is exact, and the memory has a place for each contract and instrument
  pub sizes : lengths_fit s ≡ true → (length s ≡ 8 + u16_at s 4 + 5 * u16_at s 6) × (u16_at s 4 ≤ 8) × (u16_at s 6 ≤ 32)
  sizes e = let l = lengths_out e in (l.exact, l.contracts.1, l.instruments.1)

  pub names_by : names_fit (roster_from s)
      ≡ (every (u16_at s 4) (λ c. between 1 (u16_at s 2) (u8_at s (7 + c)))
      && every (u16_at s 6) (λ i. between 1 (u16_at s 4) (u8_at s (7 + u16_at s 4 + i))))
  unfolding names_fit roster_from listed
  names_by =
      rw (
        every_same (λ c. between 1 (u16_at s 2) (cond (between 1 (u16_at s 4) c) (u8_at s (7 + c)) 0))
            (λ c. between 1 (u16_at s 2) (u8_at s (7 + c)))
            (u16_at s 4) (λ k h. rw (numbered_between (u16_at s 4) k h)),
        every_same (λ i. between 1 (u16_at s 4) (cond (between 1 (u16_at s 6) i) (u8_at s (7 + u16_at s 4 + i)) 0))
            (λ i. between 1 (u16_at s 4) (u8_at s (7 + u16_at s 4 + i)))
            (u16_at s 6) (λ k h. rw (numbered_between (u16_at s 6) k h)),
      )

  pub weights_by : weights_fit (roster_from s)
      ≡ every (u16_at s 6) (λ i. leb (nat_abs (i32_at s (4 + u16_at s 4 + u16_at s 6 + 4 * i))) 1000000)
  unfolding weights_fit roster_from listed
  weights_by =
      every_same (λ i. leb (nat_abs (cond (between 1 (u16_at s 6) i) (i32_at s (4 + u16_at s 4 + u16_at s 6 + 4 * i)) (pos 0))) 1000000)
      (λ i. leb (nat_abs (i32_at s (4 + u16_at s 4 + u16_at s 6 + 4 * i))) 1000000)
      (u16_at s 6) (λ k h. rw (numbered_between (u16_at s 6) k h))
