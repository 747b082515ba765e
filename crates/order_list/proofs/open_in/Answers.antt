-- The list of free places, with the orders loaded into it, counts for B and V of the records.
use Rattle.std.proofs.Common.{◌∙◌, ap, pos}
use Rattle.ledger.specs.declared.order.Side.TheVariants.{Buy, Sell}
use Rattle.order_list.proofs.Loading.{loaded_free, listed_open, listed_small}
use Rattle.order_list.proofs.open_in.Goals as goal

pub counted_to-requires : goal.counted_to-requires
counted_to-requires c =
    let few = c.requires.0 in
    listed_small c.args.records.now few _ (c.load_into.ensures ∙ loaded_free c.args.records.now few) Buy c.args.account
    c.args.instrument (c.requires.1 Buy)

pub counted_to-requires-2 : goal.counted_to-requires-2
counted_to-requires-2 c =
    let few = c.requires.0 in
    listed_small c.args.records.now few _ (c.load_into.ensures ∙ loaded_free c.args.records.now few) Sell c.args.account
    c.args.instrument (c.requires.1 Sell)

pub returns : goal.returns
returns c =
    let few = c.requires.0 in
    let list = c.load_into.ensures ∙ loaded_free c.args.records.now few in (
      ap (λ n. pos n) c.counted_to.ensures ∙ listed_open c.args.records.now few _ list Buy c.args.account c.args.instrument,
      ap (λ n. pos n) c.counted_to-2.ensures ∙ listed_open c.args.records.now few _ list Sell c.args.account c.args.instrument,
    )
