-- An opened desk is sound, and shows the beginning of the plain book.
use Rattle.std.specs.Prelude.{◌+◌, ◌*◌, ◌≤◌, ◌<◌, ◌≡◌, ◌&&◌}
use Rattle.integers.specs.Basics.{ℕ, List, eqb, length, arith, eq-eqb}
use Rattle.limits.specs.InBytes.{line_at, group_line_at}
use Rattle.limits.proofs.Answers.{both_true, and_true, passed, zero_pass}
use Rattle.book.specs.Market.{derivatives}
use Rattle.book.specs.Sound.{RosterFits, LineFits, GroupLineFits}
use Rattle.book.specs.States.{begun}
use Rattle.book.proofs.SoundSteps.{sound_empty}
use Rattle.memory_layout.specs.Layout.{own_row, default_row, group_row}
use Rattle.memory_layout.specs.Rosters.{sizes_fit, names_fit, weights_fit}
use Rattle.memory_layout.specs.View.{view}
use Rattle.memory_opening.specs.Questions.{roster_from, roster_length, lengths_fit, opening_questions, opening_answer}
use Rattle.memory_opening.specs.Opening.{opened, after_opening}
use Rattle.memory_opening.proofs.Opened.{Accepted, accepted_out, kind_opened, blank_opened, roster_opened, sized_opened, view_opened}
use Rattle.memory_opening.proofs.Opened.{length_opened}
use Rattle.memory_soundness.specs.Soundness.{roster_sound}
use Rattle.memory_soundness.specs.SoundMemory.{Figures, SoundMemory}
use Rattle.memory_soundness.proofs.RosterFacts.{roster_out}

module _ (m s : List ℕ) (zero : opening_answer m s ≡ 0) where
  ok : Accepted m s
  ok = accepted_out m s zero

  is_opened : after_opening m s ≡ opened m s
  unfolding after_opening
  is_opened = rw (eq-eqb (opening_answer m s) 0 zero)

  fits : RosterFits (roster_from s)
  unfolding opening_answer opening_questions lengths_fit roster_sound
  fits =
      let r = roster_from s in
      let yes = passed (opening_questions m s) (zero_pass (opening_questions m s) (omega arith) zero) in
      let sizes = (both_true (sizes_fit r) (eqb (length s) (roster_length r)) (yes 2)).0 in
      rw (roster_opened m s ok) at (roster_out (opened m s)
      (rw (roster_opened m s ok) (and_true (sizes_fit r && names_fit r) (weights_fit r)
      (and_true (sizes_fit r) (names_fit r) sizes (yes 3)) (yes 4))))

  -- the figures of every line are 0
  line_blank : (k : ℕ) → 77 ≤ k → k + 1 < 8192 → {largest : ℕ} → LineFits largest (line_at (opened m s) k)
  unfolding line_at
  line_blank k low high =
      let z = blank_opened m s ok in
      let first = z k (omega arith) (omega arith) in
      let second = z (k + 1) (omega arith) (omega arith) in
      record { tci = omega arith; tvi = omega arith; lci = omega arith; lvi = omega arith }

  group_line_blank : (k : ℕ) → 77 ≤ k → k < 8192 → {largest : ℕ} → GroupLineFits largest (group_line_at (opened m s) k)
  unfolding group_line_at
  group_line_blank k low high =
      let word = blank_opened m s ok k (omega arith) (omega arith) in
      record { lcc = omega arith; lvc = omega arith }

  figures : Figures (opened m s)
  figures =
      let sized = sized_opened m s ok in
      record {
        own = λ a i on_a on_i. line_blank (own_row a + i * 2) (omega arith) (omega arith);
        default = λ a c on_a on_c. line_blank (default_row a + c * 2) (omega arith) (omega arith);
        of_group = λ a g on_a on_g. group_line_blank (group_row a + g) (omega arith) (omega arith);
      }

  pub sound_opened : SoundMemory (after_opening m s)
  sound_opened =
      rw is_opened
      (record {
        long = omega (arith, length_opened m s ok, ok.long);
        kind = kind_opened m s ok;
        first = omega (arith, blank_opened m s ok 113 (omega arith) (omega arith));
        figures = figures;
        book = rw (view_opened m s ok) (sound_empty derivatives (roster_from s) fits);
      })

  pub view_after : view (after_opening m s) ≡ begun derivatives (roster_from s)
  view_after = rw is_opened (view_opened m s ok)
