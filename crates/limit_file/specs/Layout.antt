-- The layout of a file of limits, W1 and document 000, section 7.7.2: the manual's elements, each with its attributes in order. Acct,
-- EqvIxm, Contrt and Sym hold roster numbers; LongLmt and ShortLmt are a group's LCC and LVC and a line's LCI and LVI, MaxBidQty and
-- MaxOfrQty a line's TCI and TVI.
use Prim.Native.String.{String}
use Rattle.std.specs.Prelude.{◌∷◌}
use Rattle.integers.specs.Basics.{List, []}
use Rattle.grammar.specs.Grammar.{Attribute, number, text, together, Element, leaf, holding}
use Rattle.grammar.specs.Document.{Document}

-- the limits of a group, and of a contract or an instrument
abbrev pub two : List String
two = "LongLmt" ∷ "ShortLmt" ∷ []

abbrev pub four : List String
four = "LongLmt" ∷ "ShortLmt" ∷ "MaxBidQty" ∷ "MaxOfrQty" ∷ []

-- the attributes of each element
abbrev pub of_request : List Attribute
of_request = text "BrkFrmId" ∷ number "NAccts" ∷ []

abbrev pub of_account : List Attribute
of_account = number "Acct" ∷ text "AcctType" ∷ number "NEqvIxmLmtCfg" ∷ []

abbrev pub of_group : List Attribute
of_group = number "EqvIxm" ∷ together two ∷ number "NContrtLmtCfg" ∷ []

abbrev pub of_contract : List Attribute
of_contract = number "Contrt" ∷ together four ∷ number "NIxmLmtCfg" ∷ []

abbrev pub of_instrument : List Attribute
of_instrument = text "Asset" ∷ text "SecTyp" ∷ number "Sym" ∷ together four ∷ []

-- the elements, each with those that it holds
abbrev pub instrument : Element
instrument = leaf "IxmLmt" of_instrument

abbrev pub contract : Element
contract = holding "ContrtLmt" of_contract instrument

abbrev pub group : Element
group = holding "EqvIxmLmt" of_group contract

abbrev pub account : Element
account = holding "AcctLmt" of_account group

abbrev pub request : Element
request = holding "SetLimRqt" of_request account

abbrev pub limit_file : Document
limit_file = record { declaration = "<?xml version=\"1.0\" encoding=\"iso-8859-1\"?>"; root = "FIXML"; element = request }
