-- Attribute after attribute, each from the place behind the one before it on.
use Rattle.integers.specs.Basics.{◌∙◌, sym}
use Rattle.grammar.proofs.Handed.{tag_from, number_from, text_from, no_more}
use Rattle.limit_file.specs.Layout.{of_account}
use Rattle.limit_file.specs.Tags.{account_tag}
use Rattle.limit_file.proofs.account_tag.Goals as goal

pub returns : goal.returns
returns c =
    sym
    (tag_from c.args.at.now.bytes c.args.at.now.at "AcctLmt" of_account account_tag c.in_ok-name.ensures
    ∙ number_from _ _ _ _ _ c.in_ok-account.ensures.read ∙ text_from _ _ _ _ _ c.in_ok-sort.ensures
    ∙ number_from _ _ _ _ _ c.in_ok-groups.ensures.read ∙ no_more _ _ _)
