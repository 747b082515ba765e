-- S is the balance's word, and `open_in` gives B and V of the records by the list; `position_by` makes PCI and PVI of them.
use Rattle.std.specs.Prelude.{◌≡◌}
use Rattle.integers.specs.Basics.{◌∙◌, w64, to_z-of_z}
use Rattle.words.specs.Words.{signed_at}
use Rattle.ledger.specs.declared.order.Side.TheVariants.{Buy, Sell}
use Rattle.ledger.specs.Positions.{of_instrument}
use Rattle.ledger.proofs.Fits.{again}
use Rattle.order_list.proofs.listed_position.Goals as goal

pub position_by-requires : goal.position_by-requires
position_by-requires c =
    let e : again c.signed_word.result ≡ signed_at c.args.balances.now c.args.instrument =
    to_z-of_z w64 c.signed_word.result (record { sfits = c.signed_word.type_inv }) ∙ c.signed_word.ensures in
    let bought = c.of-buys.ensures ∙ c.open_in-open.ensures.0 in
    let sold = c.of-sells.ensures ∙ c.open_in-open.ensures.1 in
    rw (e, bought, sold) (c.requires.1.small Buy, c.requires.1.small Sell)

pub returns : goal.returns
unfolding of_instrument
returns c =
    let e : again c.signed_word.result ≡ signed_at c.args.balances.now c.args.instrument =
    to_z-of_z w64 c.signed_word.result (record { sfits = c.signed_word.type_inv }) ∙ c.signed_word.ensures in
    let bought = c.of-buys.ensures ∙ c.open_in-open.ensures.0 in
    let sold = c.of-sells.ensures ∙ c.open_in-open.ensures.1 in
    record {
      its_balance = c.position_by.ensures.0 ∙ e;
      its_long = c.position_by.ensures.1 ∙ rw (e, bought);
      its_short = c.position_by.ensures.2 ∙ rw (e, sold);
    }
