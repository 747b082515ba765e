-- The start tag is read, and then the accounts that the request holds, or there is no request; nothing is entered of the request itself.
use Rattle.integers.specs.Basics.{ℕ, []}
use Rattle.limit_file.specs.Layout.{of_request, account}
use Rattle.limit_file.specs.Tags.{request_tag}
use Rattle.memory_loading.specs.Entries.{account_entries, account_counts}
use Rattle.memory_loading.specs.Passing.{beginning}
use Rattle.memory_loading.proofs.Passes.{passed_none}
use Rattle.memory_loading.proofs.WholeElements.{tag_missing, tag_read}
use Rattle.memory_loading.proofs.elements.read_request.Goals as goal

pub returns-in_err-accounts : goal.returns-in_err-accounts
returns-in_err-accounts c =
    rw c.from_residual.ensures
    (tag_missing c.args.at.now "SetLimRqt" of_request account request_tag c.request_tag.ensures c.requires
    c.in_err-accounts.was)

pub returns : goal.returns
returns c =
    tag_read c.args.at.now "SetLimRqt" of_request account request_tag c.request_tag.ensures (λ (n : ℕ). [])
    (λ n. account_entries) (λ n. n) account_counts c.in_ok-accounts.was _ _ (passed_none {j = beginning} c.requires) _ _
    c.read_children.ensures
