-- The events of bytes from a byte on, as many as there is room for answers: the next one, and those behind it.
use Rattle.std.specs.Prelude.{◌+◌, ◌-◌, ◌<◌, ◌≡◌, ◌∷◌}
use Rattle.integers.specs.Basics.{ℕ, zero, suc, refl, ◌∙◌, sym, List, [], length, take, drop, arith}
use lib.ListN.{length-drop}
use lib.Seq.{drop-drop}
use Rattle.desk.specs.Run.{cut}
use Rattle.desk.proofs.Cutting.{cut_more}

-- past the bytes that were taken
drop_taken : (n : ℕ) (s : List ℕ) → drop (length (take n s)) s ≡ drop n s
drop_taken zero s = refl
drop_taken (suc n) [] = refl
drop_taken (suc n) (b ∷ s) = drop_taken n s

pub past : (n at : ℕ) (s : List ℕ) → drop (at + length (take n (drop at s))) s ≡ drop n (drop at s)
past n at s = sym (drop-drop (length (take n (drop at s))) at s) ∙ drop_taken n (drop at s)

module _ (events room : List ℕ) where
  -- the events from byte `at` on, as many as there is room for behind the first `count` answers
  abbrev pub left : (at count : ℕ) → List (List ℕ)
  left at count = take (length room - count) (cut (drop at events))

  -- the event at byte `at`, and those behind it
  pub next_left : (at count : ℕ) → at < length events → count < length room
      → left at count ≡ take 48 (drop at events) ∷ left (at + length (take 48 (drop at events))) (count + 1)
  next_left at count more space =
      let one : length room - count ≡ suc (length room - (count + 1)) = omega arith in
      rw (cut_more (drop at events) (omega (arith, length-drop at events)), one, past 48 at events)
