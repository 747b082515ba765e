-- A file: an element in its root, with a declaration before it or none, and blanks around tags.
use Prim.Native.String.{String}
use Rattle.std.specs.Prelude.{◌+◌, ◌≡◌, ◌⊎◌, ◌&&◌, ◌++◌}
use Rattle.integers.specs.Basics.{ℕ, Bool, cond, List, [], Option, None, Some, eqb, length}
use Rattle.grammar.specs.Bytes.{bytes, is_blank, Then, Literal, Each}
use Rattle.grammar.specs.Grammar.{Element, Value, Written}
use Rattle.grammar.specs.Reader.{Reading, nothing, up_to, next, literal_at, past_blanks, element_at}
use Rattle.grammar.specs.Readable.{apart, begins_solid, readable}

pub record Document : Type 0 where
  pub declaration : String
  pub root : String
  pub element : Element

abbrev pub root_opens : Document → List ℕ
root_opens d = bytes "<" ++ (bytes d.root ++ bytes ">")

abbrev pub root_closes : Document → List ℕ
root_closes d = bytes "</" ++ (bytes d.root ++ bytes ">")

-- THESE BYTES ARE THIS FILE
abbrev pub File : (d : Document) → Value d.element → List ℕ → Type 0
File d v =
    Then (λ x. (x ≡ []) ⊎ Literal d.declaration x)
    (Then (Each is_blank) (Then (λ x. x ≡ root_opens d)
    (Then (Each is_blank) (Then (Written d.element v)
    (Then (Each is_blank) (Then (λ x. x ≡ root_closes d)
    (Each is_blank)))))))

-- ---- how it is read
abbrev literally : {A : Type 0} → List ℕ → List ℕ → ℕ → (ℕ → Reading A) → Reading A
literally s l p f = cond (literal_at s l p) (f (p + length l)) nothing

abbrev pub file_starts : Document → List ℕ → ℕ
file_starts d s = cond (literal_at s (bytes d.declaration) 0) (length (bytes d.declaration)) 0

-- the element in the root, and the place behind the blanks that follow it
unfoldable pub document_at : (d : Document) → List ℕ → Reading (Value d.element)
document_at d s =
    literally s (root_opens d) (past_blanks s (file_starts d s)) (λ p.
    next (element_at s d.element (past_blanks s p)) (λ v q.
    literally s (root_closes d) (past_blanks s q) (λ r. up_to v (past_blanks s r))))

-- all of the file is read
abbrev pub wholly : {A : Type 0} → List ℕ → Reading A → Option A
wholly s nothing = None
wholly s (up_to v n) = cond (eqb n (length s)) (Some v) None

unfoldable pub file_of : (d : Document) → List ℕ → Option (Value d.element)
file_of d s = wholly s (document_at d s)

-- the file ends behind place p, with the root's end tag and blanks
unfoldable pub file_ends : Document → List ℕ → ℕ → Bool
file_ends d s p =
    let q = past_blanks s p in
    literal_at s (root_closes d) q && eqb (past_blanks s (q + length (root_closes d))) (length s)

unfoldable pub document_readable : Document → Bool
document_readable d =
    begins_solid (root_opens d)
    && (begins_solid (bytes d.declaration) && (apart (bytes d.declaration) (root_opens d) && readable d.element))
