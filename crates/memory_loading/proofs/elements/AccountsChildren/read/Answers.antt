-- The start tag is read and the account entered, and then the groups that it holds; or there is no account.
use Rattle.std.specs.Prelude.{◌∷◌}
use Rattle.integers.specs.Basics.{[]}
use Rattle.limit_file.specs.declared.AccountTag.{AccountTag}
use Rattle.limit_file.specs.Layout.{of_account, group}
use Rattle.limit_file.specs.Tags.{account_tag}
use Rattle.memory_loading.specs.Entries.{account_entry, group_entries, group_counts}
use Rattle.memory_loading.proofs.WholeElements.{tag_missing, tag_read}
use Rattle.memory_loading.proofs.elements.AccountsChildren.read.Goals as goal

pub returns-in_err-tag : goal.returns-in_err-tag
returns-in_err-tag c =
    rw c.from_residual.ensures
    (tag_missing c.args.at.now "AcctLmt" of_account group account_tag c.account_tag.ensures c.requires c.in_err-tag.was)

pub returns : goal.returns
returns c =
    tag_read c.args.at.now "AcctLmt" of_account group account_tag c.account_tag.ensures
    (λ (t : AccountTag). account_entry t.account ∷ []) (λ t. group_entries t.account) (λ t. t.groups) group_counts
    c.in_ok-tag.was _ _ c.enter-progress.ensures _ _ c.read_children.ensures
