-- Attribute after attribute, each from the place behind the one before it on.
use Rattle.integers.specs.Basics.{◌∙◌, sym, ap}
use Rattle.grammar.specs.Found.{found_or_none}
use Rattle.grammar.proofs.Handed.{tag_from, number_from, together_from, no_more}
use Rattle.limit_file.specs.Layout.{of_group}
use Rattle.limit_file.specs.Tags.{group_tag}
use Rattle.limit_file.proofs.group_tag.Goals as goal

pub returns : goal.returns
returns c =
    sym
    (tag_from c.args.at.now.bytes c.args.at.now.at "EqvIxmLmt" of_group group_tag c.in_ok-name.ensures
    ∙ number_from _ _ _ _ _ c.in_ok-group.ensures.read
    ∙ together_from _ _ _ _ _ (c.or_none-limits.ensures ∙ ap (found_or_none _) c.read.ensures)
    ∙ number_from _ _ _ _ _ c.in_ok-contracts.ensures.read ∙ no_more _ _ _)
