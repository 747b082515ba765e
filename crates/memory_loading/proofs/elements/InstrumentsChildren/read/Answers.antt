-- The instrument is read and entered; or there is none.
use Rattle.std.specs.Prelude.{◌∷◌}
use Rattle.integers.specs.Basics.{[]}
use Rattle.limit_file.specs.declared.InstrumentTag.{InstrumentTag}
use Rattle.limit_file.specs.Layout.{instrument}
use Rattle.limit_file.specs.Tags.{instrument_tag}
use Rattle.memory_loading.specs.Entries.{instrument_entry}
use Rattle.memory_loading.proofs.WholeElements.{leaf_missing, leaf_read}
use Rattle.memory_loading.proofs.elements.InstrumentsChildren.read.Goals as goal

pub returns-in_err-tag : goal.returns-in_err-tag
returns-in_err-tag c =
    rw c.from_residual.ensures
    (leaf_missing c.args.at.now instrument instrument_tag c.instrument_at.ensures c.requires c.in_err-tag.was)

pub returns : goal.returns
returns c =
    leaf_read c.args.at.now instrument instrument_tag c.instrument_at.ensures
    (λ (t : InstrumentTag). instrument_entry c.args.self.now.account c.args.self.now.contract t.instrument t.limits ∷ [])
    c.in_ok-tag.was _ _ c.enter.ensures
