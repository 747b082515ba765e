-- All that a day of bytes computes with, as one name: `unfolding computes` unfolds each.
use Rattle.words.specs.Bytes.{number}
use Rattle.words.specs.Fields.{u8_at, u16_at, u64_at, i64_at}
use Rattle.integers.specs.TwosComplement.{signed_of, bits_of}
use Rattle.integers.specs.Sum.{sum_over, below}
use Rattle.ledger.specs.Derivatives.{one}
use Rattle.ledger.specs.Orders.{remaining, filled_by, replaced_total, closes}
use Rattle.ledger.specs.Roster.{group_of_instrument}
use Rattle.ledger.specs.Records.{side_of}
use Rattle.ledger.specs.Positions.{stands_in, open_on, of_instrument, group_part, sum_group, potential, position}
use Rattle.ledger.specs.Fillings.{fill_moves, balance_after}
use Rattle.limits.specs.Lines.{line_in_force, limit}
use Rattle.limits.specs.Questions.{first_no, all_pass}
use Rattle.limits.specs.Asked.{limits_set, size_fits, moves_instrument, moves_group, within, position_questions}
use Rattle.book.specs.Market.{derivatives}
use Rattle.book.specs.Decoding.{named, fields_fit, well_formed, event_of, decode}
use Rattle.book.specs.OpenOrders.{find, insert, change, kept}
use Rattle.book.specs.Books.{empty_book, unsets, line_of, group_line_of, set_line, set_block, new_order, order_after, changed, book_after}
use Rattle.book.specs.States.{mark}
use Rattle.book.specs.Table.{is_event, account_known, item_known, figures_fit, not_yet_trading, id_open, quantity_fits, entered, id_free}
use Rattle.book.specs.Table.{place_free, questions_before, limit_questions, answer}
use Rattle.book.specs.EventLists.{keep, memory_after, state_after}
use Rattle.book.specs.SetAgain.{line_set, line_over}
use Rattle.book.specs.EventBytes.{bytes_of, figure_bytes, event_bytes}
use Rattle.book.specs.Written.{as_bytes}
use Rattle.book.specs.Positions.{instrument_in, group_in}
use Rattle.book.specs.Rosters.{roster_of_tables}
use Rattle.book.specs.Edges.{edge_tables, starred_edges}
use Rattle.book.specs.Listing.{listing_tables, listing_events}
use Rattle.book.specs.LongerDay.{longer_tables, morning, afternoon, evening}

unfoldable pub computes : Unit {0}
unfolding
    number u8_at u16_at u64_at i64_at signed_of sum_over below remaining filled_by replaced_total closes group_of_instrument side_of
    stands_in open_on
    of_instrument group_part sum_group potential position fill_moves balance_after line_in_force limit first_no all_pass limits_set
    size_fits
    moves_instrument
    moves_group within position_questions derivatives one named fields_fit well_formed event_of decode find insert change kept empty_book
    unsets
    line_of
    group_line_of set_line set_block new_order order_after changed book_after mark is_event account_known item_known
    figures_fit not_yet_trading id_open quantity_fits entered
    id_free place_free questions_before limit_questions answer keep memory_after state_after line_set line_over as_bytes bytes_of
    figure_bytes
    event_bytes bits_of instrument_in group_in roster_of_tables edge_tables starred_edges listing_tables listing_events longer_tables
    morning
    afternoon evening
computes = tt
