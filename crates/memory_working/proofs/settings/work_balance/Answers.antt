-- S is stored at the account and instrument, which an acceptance has put on the roster, as the 64 bits that read back as it.
use Rattle.integers.specs.Basics.{◌∙◌, ap, w64, to_z-of_z}
use Rattle.memory_layout.specs.FieldStores.{store_balance}
use Rattle.memory_working.specs.Working.{worked}
use Rattle.memory_working.proofs.Rooms.{room}
use Rattle.memory_working.proofs.settings.work_balance.Goals as goal

pub returns : goal.returns
unfolding worked
returns c =
    c.set_balance.ensures ∙ ap (store_balance _ _ _) (to_z-of_z w64 c.args.balance c.ranges.balance)

pub set_balance-requires : goal.set_balance-requires
set_balance-requires c = room c.requires
