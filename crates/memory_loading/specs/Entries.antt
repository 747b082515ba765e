-- What a file of limits says: an entry for each AcctLmt, EqvIxmLmt, ContrtLmt and IxmLmt, in the order of start tags, and whether the
-- counts are those of the children.
use Rattle.std.specs.Prelude.{◌&&◌, ◌∷◌, ◌++◌}
use Rattle.integers.specs.Basics.{ℕ, Bool, true, List, [], Option, eqb, length}
use Rattle.grammar.specs.Bytes.{all}
use Rattle.grammar.specs.Grammar.{Numbers, Value}
use Rattle.limit_file.specs.Layout.{two, four, instrument, contract, group, account, request}

-- an element, with the numbers of those that it stands in, and its limits where it has any
pub data Entry : Type 0 where
  account_entry : (account : ℕ) → Entry
  group_entry : (account group : ℕ) → Option (Numbers two) → Entry
  contract_entry : (account group contract : ℕ) → Option (Numbers four) → Entry
  instrument_entry : (account contract instrument : ℕ) → Option (Numbers four) → Entry

-- ---- lists of entries, one behind the other
unfoldable pub entries_of : {A : Type 0} → (A → List Entry) → List A → List Entry
entries_of f [] = []
entries_of f (v ∷ vs) = f v ++ entries_of f vs

abbrev pub instrument_entries : ℕ → ℕ → Value instrument → List Entry
instrument_entries a c (i, (l, t)) = instrument_entry a c i l ∷ []

abbrev pub contract_entries : ℕ → ℕ → Value contract → List Entry
contract_entries a g ((c, (l, (n, t))), is) = contract_entry a g c l ∷ entries_of (instrument_entries a c) is

abbrev pub group_entries : ℕ → Value group → List Entry
group_entries a ((g, (l, (n, t))), cs) = group_entry a g l ∷ entries_of (contract_entries a g) cs

abbrev pub account_entries : Value account → List Entry
account_entries ((a, (n, t)), gs) = account_entry a ∷ entries_of (group_entries a) gs

abbrev pub entries : Value request → List Entry
entries ((n, t), vs) = entries_of account_entries vs

-- ---- counts: NIxmLmtCfg, NContrtLmtCfg, NEqvIxmLmtCfg and NAccts
abbrev pub instrument_counts : Value instrument → Bool
instrument_counts v = true

abbrev pub contract_counts : Value contract → Bool
contract_counts ((c, (l, (n, t))), is) = eqb n (length is) && all instrument_counts is

abbrev pub group_counts : Value group → Bool
group_counts ((g, (l, (n, t))), cs) = eqb n (length cs) && all contract_counts cs

abbrev pub account_counts : Value account → Bool
account_counts ((a, (n, t)), gs) = eqb n (length gs) && all group_counts gs

abbrev pub counts_right : Value request → Bool
counts_right ((n, t), vs) = eqb n (length vs) && all account_counts vs
