-- A memory that holds a sound desk holds one after an accepted event: the book's is sound, and the figures of every line stay in
-- range.
use Rattle.std.specs.Prelude.{◌+◌, ◌*◌, ◌^◌, ◌≤◌, ◌<◌, ◌≡◌}
use Rattle.integers.specs.Basics.{ℕ, ◌∙◌, sym, by_cases, List, length, ℕ_discrete, arith}
use Rattle.words.specs.Bytes.{Bytes}
use Rattle.words.specs.Words.{word_at, put_word}
use Rattle.words.proofs.Memory.{length_put, word_put_same, word_put_other}
use Rattle.limits.specs.InBytes.{line_at, group_line_at}
use Rattle.book.specs.declared.Event.{Event}
use Rattle.book.specs.Sound.{LineFits, GroupLineFits}
use Rattle.book.proofs.Decoded.{HasId}
use Rattle.book.proofs.SoundSteps.{sound_step}
use Rattle.memory_layout.proofs.MarketRead.{market_most}
use Rattle.memory_layout.specs.Layout.{own_row, default_row, group_row}
use Rattle.memory_layout.specs.View.{market_of, first_of, view}
use Rattle.memory_layout.specs.Judged.{judged}
use Rattle.memory_soundness.specs.SoundMemory.{Figures, SoundMemory}
use Rattle.memory_working.specs.Working.{worked}
use Rattle.memory_working.proofs.AcceptedFacts.{sound, laid}
use Rattle.memory_working.proofs.StoreRuns.{FiguresFit, Stores}
use Rattle.memory_working.proofs.Writes.{worked_keeps, length_worked, word_worked, roster_worked, market_worked}
use Rattle.memory_working.proofs.Small.{Sized}
use Rattle.memory_working.proofs.ViewWorked.{view_worked}

-- a store keeps what holds of word j, where it holds of what is stored there
put_keeps : (Q : ℕ → Type 0) (l : List ℕ) (k v j : ℕ) → 65536 ≤ length l → k < 8192 → (k ≡ j → (v < 2 ^ 64) × Q v) → Q (word_at l j)
    → Q (word_at (put_word l k v) j)
put_keeps Q l k v j long inside stored was =
    by_cases (ℕ_discrete j k)
    (λ same. let fits = stored (sym same) in rw (same, word_put_same l k v (omega arith) fits.0) fits.1)
    (λ other. rw (word_put_other l k v j other) was)

module _ (m : List ℕ) (held : SoundMemory m) (e : Event) (passes : judged m e ≡ 0) where
  word_keeps : (Q : ℕ → Type 0) (j : ℕ) → ((k v : ℕ) → Stores m k v → k ≡ j → (v < 2 ^ 64) × Q v) → Q (word_at m j)
      → Q (word_at (worked m e) j)
  word_keeps Q j stored was =
      (worked_keeps m e (λ l. (65536 ≤ length l) × Q (word_at l j))
      (λ l k v s p. (omega (arith, length_put l k v), put_keeps Q l k v j p.0 s.high (stored k v s) p.1))
      held passes (held.long, was)).1

  first_worked : first_of (worked m e) ≤ 256
  first_worked =
      word_keeps (λ v. v ≤ 256) 113 (λ k v s same. let small = s.first same in (omega arith, small)) held.first

  word_fits : (j : ℕ) → 1536 ≤ j → j < 2880 → FiguresFit (market_of m).largest (word_at m j)
      → FiguresFit (market_of m).largest (word_at (worked m e) j)
  word_fits j low high =
      word_keeps (FiguresFit (market_of m).largest) j
      (λ k v s same. let small = s.figures (omega arith) (omega arith) in (omega (arith, market_most m), small))

  line_worked : (k : ℕ) → 1536 ≤ k → k + 2 ≤ 2880 → LineFits (market_of m).largest (line_at m k)
      → LineFits (market_of m).largest (line_at (worked m e) k)
  unfolding line_at
  line_worked k low high f =
      let x = word_fits k low (omega arith) (f.tci, f.tvi) in
      let y = word_fits (k + 1) (omega arith) (omega arith) (f.lci, f.lvi) in
      record { tci = x.0; tvi = x.1; lci = y.0; lvi = y.1 }

  group_line_worked : (k : ℕ) → 1536 ≤ k → k < 2880 → GroupLineFits (market_of m).largest (group_line_at m k)
      → GroupLineFits (market_of m).largest (group_line_at (worked m e) k)
  unfolding group_line_at
  group_line_worked k low high f =
      let x = word_fits k low high (f.lcc, f.lvc) in
      record { lcc = x.0; lvc = x.1 }

  figures_worked : Figures (worked m e)
  figures_worked =
      let sized = (laid m held).sized in
      let same = roster_worked m held e passes in
      let market = market_worked m held e passes in
      record {
        own =
            λ a i on_a on_i. let x = rw same at on_a in let y = rw same at on_i in
            rw market (line_worked (own_row a + i * 2) (omega arith) (omega arith) (held.figures.own a i x y));
        default =
            λ a c on_a on_c. let x = rw same at on_a in let y = rw same at on_c in
            rw market (line_worked (default_row a + c * 2) (omega arith) (omega arith) (held.figures.default a c x y));
        of_group =
            λ a g on_a on_g. let x = rw same at on_a in let y = rw same at on_g in
            rw market (group_line_worked (group_row a + g) (omega arith) (omega arith) (held.figures.of_group a g x y));
      }

-- ---- the whole desk
pub sound_worked : (m : List ℕ) → Bytes m → SoundMemory m → (e : Event) → Sized e → HasId e → judged m e ≡ 0 → SoundMemory (worked m e)
unfolding judged
sound_worked m bytes held e id-word id-0 passes =
    record {
      long = omega (arith, length_worked m held e passes, held.long);
      kind = word_worked m held e passes 0 (omega arith) ∙ held.kind;
      first = first_worked m held e passes;
      figures = figures_worked m held e passes;
      book =
          rw (view_worked m bytes held e id-word passes) (sound_step (view m) (sound m held) e id-0 passes);
    }
