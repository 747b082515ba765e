-- The sample of document 000, section 7.7.2, line by line, with roster numbers and figures in it.
use Prim.Native.String.{String}
use Rattle.std.specs.Prelude.{◌∷◌, ◌++◌}
use Rattle.integers.specs.Basics.{ℕ, List, []}
use Rattle.grammar.specs.Bytes.{bytes}

-- lines, each with a line feed behind it
abbrev pub lines : List String → List ℕ
lines [] = []
lines (t ∷ ts) = bytes t ++ (10 ∷ lines ts)

abbrev pub sample : List ℕ
sample =
    lines ("<?xml version=\"1.0\" encoding=\"iso-8859-1\"?>"
    ∷ "<FIXML>"
    ∷ "  <SetLimRqt BrkFrmId=\"111111\" NAccts=\"1\">"
    ∷ "    <AcctLmt Acct=\"2\" AcctType=\"CM\" NEqvIxmLmtCfg=\"1\">"
    ∷ "      <EqvIxmLmt EqvIxm=\"1\" LongLmt=\"1000\" ShortLmt=\"900\" NContrtLmtCfg=\"1\">"
    ∷ "        <ContrtLmt Contrt=\"3\" NIxmLmtCfg=\"1\">"
    ∷ "          <IxmLmt Asset=\"\" SecTyp=\"FUT\" Sym=\"4\" LongLmt=\"800\" ShortLmt=\"700\" MaxBidQty=\"50\""
    ∷ "MaxOfrQty=\"0060\"/>"
    ∷ "        </ContrtLmt>"
    ∷ "      </EqvIxmLmt>"
    ∷ "    </AcctLmt>"
    ∷ "  </SetLimRqt>"
    ∷ "</FIXML>"
    ∷ [])
