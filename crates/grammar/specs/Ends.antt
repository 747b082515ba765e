-- A reading's end, and its number, for one who hands on no options: where nothing is read the end is the file's, from where nothing more is
-- read.
use Rattle.integers.specs.Basics.{ℕ}
use Rattle.grammar.specs.Reader.{Reading, nothing, up_to}

abbrev pub end_of : {A : Type 0} → ℕ → Reading A → ℕ
end_of e nothing = e
end_of e (up_to v n) = n

-- a number and the place behind it
pub record Found : Type 0 where
  pub value : ℕ
  pub next : ℕ

abbrev pub number_of : ℕ → Reading ℕ → Found
number_of e nothing = record { value = 0; next = e }
number_of e (up_to v n) = record { value = v; next = n }
