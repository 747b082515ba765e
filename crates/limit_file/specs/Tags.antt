-- What code hands on of a start tag.
use Rattle.integers.specs.Basics.{ℕ}
use Rattle.grammar.specs.Grammar.{Values, Value}
use Rattle.limit_file.specs.declared.AccountTag.{AccountTag}
use Rattle.limit_file.specs.declared.GroupTag.{GroupTag}
use Rattle.limit_file.specs.declared.ContractTag.{ContractTag}
use Rattle.limit_file.specs.declared.InstrumentTag.{InstrumentTag}
use Rattle.limit_file.specs.Layout.{of_request, of_account, of_group, of_contract, instrument}

abbrev pub request_tag : Values of_request → ℕ
request_tag (n, t) = n

abbrev pub account_tag : Values of_account → AccountTag
account_tag (a, (n, t)) = record { account = a; groups = n }

abbrev pub group_tag : Values of_group → GroupTag
group_tag (g, (l, (n, t))) = record { group = g; limits = l; contracts = n }

abbrev pub contract_tag : Values of_contract → ContractTag
contract_tag (c, (l, (n, t))) = record { contract = c; limits = l; instruments = n }

abbrev pub instrument_tag : Value instrument → InstrumentTag
instrument_tag (i, (l, t)) = record { instrument = i; limits = l }
