-- A file by its pieces: the root's start tag, the element in it, and what ends the file.
use Rattle.std.specs.Prelude.{◌+◌, ◌≡◌, ◌&&◌}
use Rattle.integers.specs.Basics.{ℕ, refl, Bool, true, false, cond, List, None, Some, eqb, length}
use Rattle.grammar.specs.Grammar.{Value}
use Rattle.grammar.specs.Reader.{nothing, up_to, literal_at, past_blanks, element_at}
use Rattle.grammar.specs.Document.{Document, root_opens, root_closes, file_starts, document_at, wholly, file_of, file_ends}

module _ (d : Document) (s : List ℕ) where
  -- behind the declaration and blanks
  abbrev pub root_place : ℕ
  root_place = past_blanks s (file_starts d s)

  -- behind the root's start tag and blanks
  abbrev pub element_place : ℕ
  element_place = past_blanks s (root_place + length (root_opens d))

  pub no_root : literal_at s (root_opens d) root_place ≡ false → file_of d s ≡ None
  unfolding file_of document_at
  no_root t = rw t

  pub no_element : literal_at s (root_opens d) root_place ≡ true → element_at s d.element element_place ≡ nothing → file_of d s ≡ None
  unfolding file_of document_at
  no_element t h = rw (t, h)

  ended : (v : Value d.element) (b : Bool) (n : ℕ) → wholly s (cond b (up_to v n) nothing) ≡ cond (b && eqb n (length s)) (Some v) None
  ended v true n = refl
  ended v false n = refl

  pub by_end : {v : Value d.element} {q : ℕ} → literal_at s (root_opens d) root_place ≡ true
      → element_at s d.element element_place ≡ up_to v q → file_of d s ≡ cond (file_ends d s q) (Some v) None
  unfolding file_of document_at file_ends
  by_end {v = v} {q = q} t h = rw (t, h) (ended v (literal_at s (root_closes d) (past_blanks s q)) _)
