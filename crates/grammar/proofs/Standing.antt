-- What stands between two places of a file: one piece behind another, and bytes that were looked at.
use Rattle.std.specs.Prelude.{◌+◌, ◌≡◌, ◌++◌}
use Rattle.integers.specs.Basics.{ℕ, refl, ◌∙◌, sym, ap, Bool, true, List, [], length, take, drop}
use mathlib.Core.List.{append_assoc}
use lib.Seq.{drop-drop, length-take-le}
use Rattle.grammar.specs.Bytes.{is_blank, Then, Each}
use Rattle.grammar.specs.Reader.{span, literal_at, past_blanks}
use Rattle.grammar.proofs.Places.{cut_at}
use Rattle.grammar.proofs.Spans.{span_all, span_within}
use Rattle.grammar.proofs.Starts.{starts_split}

-- from place p up to place n stands a P
pub record Stands (s : List ℕ) (p n : ℕ) (P : List ℕ → Type 0) : Type 0 where
  pub piece : List ℕ
  pub there : drop p s ≡ piece ++ drop n s
  pub is : P piece

pub stands_as : {s : List ℕ} {p n : ℕ} {P Q : List ℕ → Type 0} → ((x : List ℕ) → P x → Q x) → Stands s p n P → Stands s p n Q
stands_as f a = record { piece = a.piece; there = a.there; is = f a.piece a.is }

pub stands_then : {s : List ℕ} {p q n : ℕ} {P Q : List ℕ → Type 0} → Stands s p q P → Stands s q n Q → Stands s p n (Then P Q)
stands_then {s} {n} a b =
    record {
      piece = a.piece ++ b.piece;
      there = a.there ∙ ap (λ l. a.piece ++ l) b.there ∙ sym (append_assoc a.piece b.piece (drop n s));
      is = (a.piece, b.piece, refl, a.is, b.is);
    }

-- one piece of two, and another behind it
pub then_assoc : (P Q R : List ℕ → Type 0) (x : List ℕ) → Then (Then P Q) R x → Then P (Then Q R) x
then_assoc P Q R x (a, c, e, (p, q, f, h, i), k) = (p, q ++ c, e ∙ rw f (append_assoc p q c), h, (q, c, refl, i, k))

-- bytes that were looked at as one
pub then_bytes : (a b : List ℕ) (R : List ℕ → Type 0) (x : List ℕ) → Then (λ y. y ≡ a ++ b) R x → Then (λ y. y ≡ a) (Then (λ y. y ≡ b) R) x
then_bytes a b R x (y, z, e, is, r) = (a, b ++ z, e ∙ rw is (append_assoc a b z), refl, (b, z, refl, refl, r))

module _ (s : List ℕ) (p : ℕ) where
  pub stands_nothing : Stands s p p (λ x. x ≡ [])
  stands_nothing = record { piece = []; there = refl; is = refl }

  pub stands_literal : (l : List ℕ) → literal_at s l p ≡ true → Stands s p (p + length l) (λ x. x ≡ l)
  stands_literal l e =
      record { piece = l; there = starts_split l (drop p s) e ∙ ap (λ r. l ++ r) (drop-drop (length l) p s); is = refl }

  -- bytes of a class
  module _ (f : ℕ → Bool) (m : ℕ) where
    abbrev count : ℕ
    count = span f m (drop p s)

    pub stands_span : Stands s p (p + count) (λ x. (x ≡ take count (drop p s)) × Each f x × (length x ≡ count))
    stands_span =
        record {
          piece = take count (drop p s);
          there = cut_at s p count;
          is = (refl, span_all f m (drop p s), length-take-le count (drop p s) (span_within f m (drop p s)));
        }

  pub stands_blank : Stands s p (past_blanks s p) (Each is_blank)
  unfolding past_blanks
  stands_blank = stands_as (λ x a. a.1) (stands_span is_blank (length s))
