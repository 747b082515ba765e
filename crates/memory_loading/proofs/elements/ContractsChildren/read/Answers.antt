-- The start tag is read and the contract entered, and then the instruments that it holds; or there is no contract: no tag, or one that
-- does not end.
use Rattle.std.specs.Prelude.{◌∷◌}
use Rattle.integers.specs.Basics.{[]}
use Rattle.limit_file.specs.declared.ContractTag.{ContractTag}
use Rattle.limit_file.specs.Layout.{of_contract, instrument}
use Rattle.limit_file.specs.Tags.{contract_tag}
use Rattle.memory_loading.specs.Entries.{contract_entry, instrument_entries, instrument_counts}
use Rattle.memory_loading.proofs.WholeElements.{tag_missing, tag_unended, tag_read}
use Rattle.memory_loading.proofs.elements.ContractsChildren.read.Goals as goal

pub returns-in_err-tag : goal.returns-in_err-tag
returns-in_err-tag c =
    rw c.from_residual.ensures
    (tag_missing c.args.at.now "ContrtLmt" of_contract instrument contract_tag c.contract_tag.ensures c.requires
    c.in_err-tag.was)

pub returns-in_err-inside : goal.returns-in_err-inside
returns-in_err-inside c =
    rw c.from_residual-in_err-inside.ensures
    (tag_unended c.args.at.now "ContrtLmt" of_contract instrument contract_tag c.contract_tag.ensures c.requires c.in_ok-tag.was
    c.inside.ensures c.in_err-inside.was)

pub returns : goal.returns
returns c =
    let a = c.args.self.now.account in
    tag_read c.args.at.now "ContrtLmt" of_contract instrument contract_tag c.contract_tag.ensures
    (λ (t : ContractTag). contract_entry a c.args.self.now.group t.contract t.limits ∷ []) (λ t. instrument_entries a t.contract)
    (λ t. t.instruments) instrument_counts c.in_ok-tag.was _ _ c.enter-progress.ensures _ _ c.read_children.ensures
