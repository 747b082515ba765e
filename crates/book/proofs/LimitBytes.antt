-- The bytes of a LIMIT are bytes, and they decode to the account and the line that they were written from.
use Rattle.std.specs.Prelude.{◌/◌, ◌≤◌, ◌<◌, ◌≡◌, ◌&&◌, ◌∷◌, ◌++◌}
use Rattle.integers.specs.Basics.{ℕ, zero, suc, refl, ◌∙◌, Bool, true, false≢true, List, [], ℤ, pos}
use Rattle.integers.specs.Basics.{negsuc, arith, signed, magnitude_parts, eqb-true}
use Rattle.integers.specs.TwosComplement.{signed_of, bits_of}
use Rattle.words.specs.Bytes.{Bytes, number}
use Rattle.words.specs.Fields.{u8_at, u16_at, u64_at, i64_at}
use Rattle.ledger.proofs.Ways.{by_test}
use Rattle.limits.proofs.Answers.{both_true}
use Rattle.book.specs.declared.Figures.{Figures}
use Rattle.book.specs.declared.LimitLine.{LimitLine}
use Rattle.book.specs.declared.LimitLine.TheVariants.{Own, Default, OfGroup}
use Rattle.book.specs.declared.Setting.TheVariants.{Limit}
use Rattle.book.specs.declared.Event.TheVariants.{Set}
use Rattle.book.specs.Decoding.{named, fields_fit, well_formed, event_of, decode}
use Rattle.book.specs.Books.{is_minus_one, unsets}
use Rattle.book.specs.Table.{is_limit, figures_of_line_fit, line_fits}
use Rattle.book.specs.EventBytes.{bytes_of, figure_bytes, event_bytes}
use Rattle.book.specs.LimitBytes.{limit_bytes, number_in, Small, FourSmall, FiguresSmall}
use Rattle.book.proofs.Written.{number_written, figure_written}
use Rattle.book.proofs.SoundLines.{figure_fits, four_true}

-- ---- they are bytes: fields one behind another, each a number of so many bytes
in_bytes_of : List (ℕ × ℕ) → List ℕ
in_bytes_of [] = []
in_bytes_of (p ∷ ps) = bytes_of p.0 p.1 ++ in_bytes_of ps

number_before : (n v : ℕ) (s : List ℕ) → Bytes s → Bytes (bytes_of n v ++ s)
unfolding bytes_of
number_before zero v s bytes i = bytes i
number_before (suc n) v s bytes zero = omega arith
number_before (suc n) v s bytes (suc i) = number_before n (v / 256) s bytes i

in_bytes : (ps : List (ℕ × ℕ)) → Bytes (in_bytes_of ps)
unfolding in_bytes_of
in_bytes [] i = omega arith
in_bytes (p ∷ ps) i = number_before p.0 p.1 (in_bytes_of ps) (in_bytes ps) i

-- kind, side, account, item, level, zero, order id, four figures
abbrev limit_fields : (level account item : ℕ) → ℤ → ℤ → ℤ → ℤ → List (ℕ × ℕ)
limit_fields level account item w x y z =
    (1, 1) ∷ (1, 0) ∷ (2, account) ∷ (2, item) ∷ (1, level) ∷ (1, 0) ∷ (8, 0) ∷ (8, bits_of 64 w) ∷ (8, bits_of 64 x) ∷ (8, bits_of 64 y)
    ∷ (8, bits_of 64 z) ∷ []

pub limit_bytes_lem : (a : ℕ) (l : LimitLine) → Bytes (limit_bytes a l)
unfolding limit_bytes event_bytes figure_bytes bytes_of in_bytes_of
limit_bytes_lem a (Own i f) = in_bytes (limit_fields 1 a i f.tci f.tvi f.lci f.lvi)
limit_bytes_lem a (Default c f) = in_bytes (limit_fields 2 a c f.tci f.tvi f.lci f.lvi)
limit_bytes_lem a (OfGroup g x y) = in_bytes (limit_fields 3 a g x y (pos 0) (pos 0))

-- ---- they are read back: a number and a figure, written out and read, and a line of such
read_number : ℕ → ℕ
read_number n = u16_at (bytes_of 2 n ++ []) 0

read_figure : ℤ → ℤ
read_figure z = i64_at (figure_bytes z ++ []) 0

abbrev read_figures : Figures → Figures
read_figures f =
    record { tci = read_figure f.tci; tvi = read_figure f.tvi; lci = read_figure f.lci; lvi = read_figure f.lvi }

abbrev read_line : LimitLine → LimitLine
read_line (Own i f) = Own (read_number i) (read_figures f)
read_line (Default c f) = Default (read_number c) (read_figures f)
read_line (OfGroup g x y) = OfGroup (read_number g) (read_figure x) (read_figure y)

limit_read : (a : ℕ) (l : LimitLine) → decode (limit_bytes a l) ≡ Set (Limit (read_number a) (read_line l))
unfolding
    decode well_formed fields_fit named event_of limit_bytes event_bytes figure_bytes bytes_of u8_at u16_at u64_at i64_at number signed_of
    bits_of
    read_number read_figure
limit_read a (Own i f) = refl
limit_read a (Default c f) = refl
limit_read a (OfGroup g x y) = refl

number_read : (n : ℕ) → n < 65536 → read_number n ≡ n
unfolding read_number u16_at
number_read n small = number_written 2 n [] small

figure_read : (z : ℤ) → Small z → read_figure z ≡ z
unfolding read_figure
figure_read z small = figure_written z [] (omega (signed, magnitude_parts z))

figures_read : (f : Figures) → FourSmall f → read_figures f ≡ f
figures_read f small =
    rw (
      figure_read f.tci small.tci,
      figure_read f.tvi small.tvi,
      figure_read f.lci small.lci,
      figure_read f.lvi small.lvi,
    )

line_read : (l : LimitLine) → number_in l < 65536 → FiguresSmall l → read_line l ≡ l
line_read (Own i f) n small = rw (number_read i n, figures_read f small)
line_read (Default c f) n small = rw (number_read c n, figures_read f small)
line_read (OfGroup g x y) n small = rw (number_read g n, figure_read x small.0, figure_read y small.1)

pub limit_decoded : (a : ℕ) (l : LimitLine) → a < 65536 → number_in l < 65536 → FiguresSmall l → decode (limit_bytes a l) ≡ Set (Limit a l)
limit_decoded a l account item small = limit_read a l ∙ rw (number_read a account, line_read l item small)

-- ---- figures that pass question 9
minus_one_small : (z : ℤ) → is_minus_one z ≡ true → Small z
minus_one_small (pos n) e = absurd (false≢true e)
minus_one_small (negsuc n) e = omega (arith, eqb-true n 0 e)

-- what each figure's test says of it, the test of all says of all
four_small : (test : ℤ → Bool) → ((z : ℤ) → test z ≡ true → Small z) → (f : Figures)
    → test f.tci && test f.tvi && test f.lci && test f.lvi ≡ true → FourSmall f
four_small test says f e =
    let h = four_true (test f.tci) (test f.tvi) (test f.lci) (test f.lvi) e in
    record { tci = says _ h.0; tvi = says _ h.1; lci = says _ h.2; lvi = says _ h.3 }

two_small : (test : ℤ → Bool) → ((z : ℤ) → test z ≡ true → Small z) → (x y : ℤ) → test x && test y ≡ true → Small x × Small y
two_small test says x y e =
    let h = both_true (test x) (test y) e in
    (says x h.0, says y h.1)

module _ (largest : ℕ) (most : largest ≤ 1000000000) where
  limit_small : (z : ℤ) → is_limit largest z ≡ true → Small z
  limit_small z e = omega (arith, figure_fits largest z e)

  figures_small : (f : Figures) → figures_of_line_fit largest f ≡ true → FourSmall f
  unfolding unsets
  figures_small f fit =
      by_test (unsets f) (four_small is_minus_one minus_one_small f) (λ t. four_small (is_limit largest) limit_small f (rw t at fit))

  fits_small : (l : LimitLine) → line_fits largest l ≡ true → FiguresSmall l
  fits_small (Own i f) fit = figures_small f fit
  fits_small (Default c f) fit = figures_small f fit
  fits_small (OfGroup g x y) fit =
      by_test (is_minus_one x && is_minus_one y) (two_small is_minus_one minus_one_small x y)
      (λ t. two_small (is_limit largest) limit_small x y (rw t at fit))

pub limit_decoded_fits : (largest a : ℕ) (l : LimitLine) → line_fits largest l ≡ true → largest ≤ 1000000000 → a < 65536
    → number_in l < 65536
    → decode (limit_bytes a l) ≡ Set (Limit a l)
limit_decoded_fits largest a l fit most account item = limit_decoded a l account item (fits_small largest most l fit)
