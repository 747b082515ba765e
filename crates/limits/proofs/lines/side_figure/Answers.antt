-- The side's half of the word is the four bytes that are read.
use Rattle.std.specs.Prelude.{◌+◌, ◌*◌}
use Rattle.integers.specs.Basics.{ℕ, ◌∙◌, ap, pos}
use Rattle.words.specs.Fields.{u32_at}
use Rattle.limits.proofs.LinesRead.{half_field}
use Rattle.limits.proofs.lines.side_figure.Goals as goal

pub returns-clause-figure : goal.returns-clause-figure
returns-clause-figure c =
    c.of.ensures
    ∙ ap pos (c.at.ensures ∙ ap (λ (k : ℕ). u32_at c.args.line.now (c.args.k * 8 + k)) c.side_byte.ensures
    ∙ half_field _ _ (λ i. (c.type_inv.line i).fits) c.args.side)
