-- At the end of a file nothing more is read.
use Rattle.std.specs.Prelude.{◌≡◌, ◌∷◌}
use Rattle.integers.specs.Basics.{ℕ, zero, suc, Bool, refl, List, [], length, drop, le-ltb, arith}
use Rattle.grammar.specs.Bytes.{is_blank}
use Rattle.grammar.specs.Reader.{nothing, span, starts, past_blanks, opening_at, number_at, text_at}
use Rattle.grammar.specs.Inside.{inside_at}
use Rattle.integers.specs.Basics.{None}

drop_whole : {A : Type 0} (s : List A) → drop (length s) s ≡ []
drop_whole [] = refl
drop_whole (x ∷ s) = drop_whole s

span_none : (f : ℕ → Bool) (n : ℕ) → span f n [] ≡ 0
unfolding span
span_none f zero = refl
span_none f (suc n) = refl

module _ (s : List ℕ) where
  past_end : past_blanks s (length s) ≡ length s
  unfolding past_blanks
  past_end = rw (drop_whole s, span_none is_blank (length s)) (omega arith)

  opening_end : (l : List ℕ) → opening_at s l (length s) ≡ nothing
  unfolding opening_at
  opening_end l = rw (past_end, le-ltb (length s) (length s) (omega arith)) refl

  pub number_at_end : (l : List ℕ) → number_at s l (length s) ≡ nothing
  unfolding number_at
  number_at_end l = rw (opening_end l)

  pub text_at_end : (l : List ℕ) → text_at s l (length s) ≡ nothing
  unfolding text_at
  text_at_end l = rw (opening_end l)

  pub inside_at_end : inside_at s (length s) ≡ None
  unfolding inside_at starts
  inside_at_end = rw (drop_whole s) refl
