-- A memory passes question 5 exactly where it shows a sound book and its other words are in range.
use Rattle.std.specs.Prelude.{◌≤◌, ◌<◌, ◌≡◌}
use Rattle.integers.specs.Basics.{ℕ, true, List, ListMemᴰ, arith}
use Rattle.words.specs.Words.{word_at}
use Rattle.ledger.specs.declared.order.Order.{Order}
use Rattle.ledger.specs.Records.{order_at}
use Rattle.book.specs.Sound.{OrderFits, Sound, Ascending}
use Rattle.memory_layout.specs.Layout.{count_word}
use Rattle.memory_layout.specs.View.{roster_of, records_of, open_orders, book_of, trading_of, view}
use Rattle.memory_layout.specs.Stores.{Records}
use Rattle.memory_layout.proofs.Lengths.{length_open}
use Rattle.memory_soundness.specs.Soundness.{orders_sound, sound_desk}
use Rattle.memory_soundness.specs.SoundMemory.{SoundMemory}
use Rattle.memory_soundness.proofs.Records.{Fit}
use Rattle.memory_soundness.proofs.Questions.{Conditions, each_out, each_in}
use Rattle.memory_soundness.proofs.RosterFacts.{roster_out, roster_in_lem}
use Rattle.memory_soundness.proofs.LineFacts.{figures_out, figures_in, lines_fit}
use Rattle.memory_soundness.proofs.OrderFacts.{ascend_out, ascend_in, order_member, each_member, records_out, records_in_lem}
use Rattle.memory_soundness.proofs.PositionFacts.{positions_out, positions_in}

-- ---- out
module _ (m : List ℕ) (c : Conditions m) where
  fit : (p : ℕ) → p < word_at m count_word → Fit (roster_of m) (trading_of m) (order_at (records_of m) p)
  unfolding orders_sound
  fit p h = records_out (records_of m) (roster_of m) (trading_of m) 0 (word_at m count_word) c.orders p (omega arith) (omega arith)

  member_fits : (o : Order) → ListMemᴰ o (open_orders m) → OrderFits (roster_of m) o
  unfolding open_orders
  member_fits =
      each_member (records_of m) (OrderFits (roster_of m)) 0 (word_at m count_word)
      (λ q a b. let f = fit q (omega arith) in record {
        account = f.account;
        instrument = f.instrument;
        total = f.total;
        remains =
            f.remains;
      })

  member_marked : (o : Order) → ListMemᴰ o (open_orders m) → trading_of m o.account ≡ true
  unfolding open_orders
  member_marked =
      each_member (records_of m) (λ o. trading_of m o.account ≡ true) 0 (word_at m count_word)
      (λ q a b. (fit q (omega arith)).marked)

  shown : Sound (view m)
  unfolding book_of
  shown =
      record {
        roster = roster_out m c.roster;
        lines = lines_fit m (figures_out m c.lines);
        count = omega (arith, length_open m, c.count);
        fits = member_fits;
        ids = ascend_out 0 (open_orders m) c.ids;
        bounded = positions_out m c.positions member_fits;
        marked = member_marked;
      }

pub sound_out : (m : List ℕ) → sound_desk m ≡ true → SoundMemory m
sound_out m e =
    let c = each_out m e in
    record {
      long = c.long;
      kind = c.kind;
      first = c.first;
      figures = figures_out m c.lines;
      book = shown m c;
    }

-- ---- in
module _ (m : List ℕ) (h : SoundMemory m) where
  pub all_fit : (p : ℕ) → p < word_at m count_word → Fit (roster_of m) (trading_of m) (order_at (records_of m) p)
  unfolding book_of open_orders
  all_fit p l =
      let s = records_of m in
      let k = order_member s 0 (word_at m count_word) p (omega arith) (omega arith) in
      let f = h.book.fits (order_at s p) k in
      record {
        account = f.account;
        instrument = f.instrument;
        total = f.total;
        remains = f.remains;
        marked =
            h.book.marked (order_at s p) k;
      }

  orders_in_lem : orders_sound m ≡ true
  unfolding orders_sound
  orders_in_lem = records_in_lem (records_of m) (roster_of m) (trading_of m) 0 (word_at m count_word) (λ q a b. all_fit q (omega arith))

  pub sound_count : word_at m count_word ≤ 256
  unfolding book_of
  sound_count = omega (arith, length_open m, h.book.count)

  pub sound_records : Records m
  sound_records = record { long = h.long; count = sound_count; first = h.first }

  pub sound_ids : Ascending 0 (open_orders m)
  unfolding book_of
  sound_ids = h.book.ids

  pub sound_in : sound_desk m ≡ true
  unfolding book_of
  sound_in =
      each_in m
      (record {
        long = h.long;
        kind = h.kind;
        count = sound_count;
        first = h.first;
        ids = ascend_in h.book.ids;
        roster = roster_in_lem m h.book.roster;
        lines = figures_in m h.figures;
        orders = orders_in_lem;
        positions = positions_in m h.book.bounded;
      })
