-- Each kind of block stores one bit, which is set where the figure is not 0; its account, instrument or group is on the roster.
use Rattle.integers.specs.Basics.{arith}
use Rattle.memory_working.proofs.Rooms.{room}
use Rattle.memory_working.proofs.Blocking.{ready_block, worked_block}
use Rattle.memory_working.proofs.settings.work_block.Goals as goal

pub block_account-requires : goal.block_account-requires
block_account-requires c = omega (arith, room (ready_block c.in-Account.is c.requires))

pub block_instrument-requires : goal.block_instrument-requires
block_instrument-requires c = omega (arith, room (ready_block c.in-Instrument.is c.requires))

pub block_group-requires : goal.block_group-requires
block_group-requires c = omega (arith, room (ready_block c.in-GroupFor.is c.requires))

pub returns-in-Account : goal.returns-in-Account
returns-in-Account c = worked_block _ _ c.ranges.on c.in-Account.is c.block_account.ensures

pub returns-in-Instrument : goal.returns-in-Instrument
returns-in-Instrument c = worked_block _ _ c.ranges.on c.in-Instrument.is c.block_instrument.ensures

pub returns-in-GroupFor : goal.returns-in-GroupFor
returns-in-GroupFor c = worked_block _ _ c.ranges.on c.in-GroupFor.is c.block_group.ensures
