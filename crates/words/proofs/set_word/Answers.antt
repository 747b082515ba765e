-- The bytes of `to_le_bytes`, copied, are the word that is put: byte by byte.
use Rattle.std.specs.Prelude.{◌+◌, ◌-◌, ◌≤◌, ◌≡◌}
use Rattle.std.specs.Int.{w64, to_le_bytes}
use Rattle.std.proofs.lemmas.Slice.{put_mid-paste}
use Rattle.integers.specs.Basics.{ℕ, refl, ◌∙◌, sym, List, length, arith}
use borrow.Rule.Slice.PartMut.{put_mid}
use lib.Seq.{sets, sets-eq}
use native.Mathlib.Nat.{div-div-eq-div-mul}
use native.Mathlib.Numerals.{add-one}
use Rattle.words.specs.Bytes.{store}
use Rattle.words.specs.Words.{put_word}
use Rattle.words.proofs.set_word.Goals as goal

store_sets : (m : List ℕ) (a v : ℕ) → store 8 m a v ≡ sets m a (to_le_bytes w64 v)
unfolding store
store_sets m a v = simp (add-one, div-div-eq-div-mul)

-- the eight bytes of v, lowest first, copied over those from byte a on
store_eight : (m : List ℕ) (a v : ℕ) → a + 8 ≤ length m → put_mid a (a + 8 - a) m (to_le_bytes w64 v) ≡ store 8 m a v
store_eight m a v fits =
    let ys : List ℕ = to_le_bytes w64 v in
    put_mid-paste a (a + 8 - a) m ys ys 8 refl (omega arith) refl ∙ sym (store_sets m a v ∙ sets-eq ys m a fits)

pub returns : goal.returns
unfolding put_word
returns c = rw (c.copy_from_slice.ensures.after, c.to_le_bytes.ensures) (store_eight _ _ _ c.requires)
