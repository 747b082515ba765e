-- The start tag is read and the group entered, and then the contracts that it holds; or there is no group: no tag, or one that
-- does not end.
use Rattle.std.specs.Prelude.{◌∷◌}
use Rattle.integers.specs.Basics.{[]}
use Rattle.limit_file.specs.declared.GroupTag.{GroupTag}
use Rattle.limit_file.specs.Layout.{of_group, contract}
use Rattle.limit_file.specs.Tags.{group_tag}
use Rattle.memory_loading.specs.Entries.{group_entry, contract_entries, contract_counts}
use Rattle.memory_loading.proofs.WholeElements.{tag_missing, tag_unended, tag_read}
use Rattle.memory_loading.proofs.elements.GroupsChildren.read.Goals as goal

pub returns-in_err-tag : goal.returns-in_err-tag
returns-in_err-tag c =
    rw c.from_residual.ensures
    (tag_missing c.args.at.now "EqvIxmLmt" of_group contract group_tag c.group_tag.ensures c.requires c.in_err-tag.was)

pub returns-in_err-inside : goal.returns-in_err-inside
returns-in_err-inside c =
    rw c.from_residual-in_err-inside.ensures
    (tag_unended c.args.at.now "EqvIxmLmt" of_group contract group_tag c.group_tag.ensures c.requires c.in_ok-tag.was
    c.inside.ensures c.in_err-inside.was)

pub returns : goal.returns
returns c =
    let a = c.args.self.now.account in
    tag_read c.args.at.now "EqvIxmLmt" of_group contract group_tag c.group_tag.ensures
    (λ (t : GroupTag). group_entry a t.group t.limits ∷ []) (λ t. contract_entries a t.group) (λ t. t.contracts) contract_counts
    c.in_ok-tag.was _ _ c.enter-progress.ensures _ _ c.read_children.ensures
