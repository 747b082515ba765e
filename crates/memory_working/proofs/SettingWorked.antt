-- An accepted setting, by what it sets: the view of the memory with it stored is the view before it, worked, and what each store keeps,
-- storing it keeps.
use Rattle.std.specs.Prelude.{◌+◌, ◌*◌, ◌≡◌}
use Rattle.integers.specs.Basics.{ℕ, List, arith}
use Rattle.integers.specs.Magnitude.{sized}
use Rattle.words.specs.Words.{put_word}
use Rattle.book.specs.declared.LimitLine.TheVariants.{Own, Default, OfGroup}
use Rattle.book.specs.declared.Blocked.TheVariants.{Account, Instrument, GroupFor}
use Rattle.book.specs.declared.Setting.{Setting}
use Rattle.book.specs.declared.Setting.TheVariants.{Limit, Balance, Block}
use Rattle.book.specs.declared.Event.TheVariants.{Set}
use Rattle.book.specs.Books.{line_of, group_line_of}
use Rattle.book.specs.States.{work}
use Rattle.book.proofs.SoundLines.{line_fits_lem, group_line_fits}
use Rattle.memory_layout.specs.Layout.{account_block_word, instrument_block_word, group_block_row, own_set_row, default_set_row, group_set_row, own_row}
use Rattle.memory_layout.specs.Layout.{default_row, group_row}
use Rattle.memory_layout.specs.View.{market_of, view}
use Rattle.memory_layout.proofs.MarketRead.{market_most}
use Rattle.memory_layout.proofs.ViewStores.{view_balance}
use Rattle.memory_layout.proofs.ViewBlocks.{view_block_account, view_block_instrument, view_block_group}
use Rattle.memory_layout.proofs.ViewLimits.{view_own, view_default, view_of_group}
use Rattle.memory_soundness.specs.SoundMemory.{SoundMemory}
use Rattle.memory_working.specs.Working.{setting_stored}
use Rattle.memory_working.proofs.AcceptedFacts.{AcceptedFacts, laid, balance_told}
use Rattle.memory_working.proofs.Small.{small_line, small_group_line}
use Rattle.memory_working.proofs.StoreRuns.{Stores, keeps_line, keeps_group_line, keeps_balance}

module _ (m : List ℕ) (held : SoundMemory m) where
  pub setting_shown : (x : Setting) → AcceptedFacts m (Set x) → view (setting_stored m x) ≡ work (view m) (Set x)
  setting_shown (Limit a (Own i f)) t =
      view_own m (laid m held) a i f (small_line (market_most m) (line_of f) (line_fits_lem _ f t.2)) t.0 t.1
  setting_shown (Limit a (Default c f)) t =
      view_default m (laid m held) a c f (small_line (market_most m) (line_of f) (line_fits_lem _ f t.2)) t.0 t.1
  setting_shown (Limit a (OfGroup g x y)) t =
      view_of_group m (laid m held) a g x y (small_group_line (market_most m) (group_line_of x y) (group_line_fits _ x y t.2)) t.0
      t.1
  setting_shown (Balance a i z) t =
      view_balance m (laid m held) a i z t.0 t.1 (omega (sized, market_most m, balance_told (market_of m).largest z t.2))
  setting_shown (Block (Account a) z) t = view_block_account m (laid m held) z a t.0
  setting_shown (Block (Instrument i) z) t = view_block_instrument m (laid m held) z i t.1
  setting_shown (Block (GroupFor a g) z) t = view_block_group m (laid m held) z a g t.0 t.1

  pub setting_kept : (x : Setting) → AcceptedFacts m (Set x) → (P : List ℕ → Type 0)
      → ((l : List ℕ) (k v : ℕ) → Stores m k v → P l → P (put_word l k v)) → P m → P (setting_stored m x)
  setting_kept (Limit a (Own i f)) t P keeps p =
      let sized = (laid m held).sized in
      keeps_line _ P keeps m (market_most m) (own_set_row a + i) (own_row a + i * 2) (λ v h. omega arith) p (λ j v low high h. omega arith)
      (line_of f) (line_fits_lem (market_of m).largest f t.2)
  setting_kept (Limit a (Default c f)) t P keeps p =
      let sized = (laid m held).sized in
      keeps_line _ P keeps m (market_most m) (default_set_row a + c) (default_row a + c * 2) (λ v h. omega arith) p
      (λ j v low high h. omega arith) (line_of f) (line_fits_lem (market_of m).largest f t.2)
  setting_kept (Limit a (OfGroup g x y)) t P keeps p =
      let sized = (laid m held).sized in
      keeps_group_line _ P keeps m (market_most m) (group_set_row a + g) (group_row a + g) (λ v h. omega arith) p
      (λ j v low high h. omega arith) (group_line_of x y) (group_line_fits (market_of m).largest x y t.2)
  setting_kept (Balance a i z) t P keeps p = keeps_balance m P keeps held m a i z t.0 t.1 p
  setting_kept (Block (Account a) z) t P keeps p =
      let sized = (laid m held).sized in
      keeps m (account_block_word a) _ (omega arith) p
  setting_kept (Block (Instrument i) z) t P keeps p =
      let sized = (laid m held).sized in
      keeps m (instrument_block_word i) _ (omega arith) p
  setting_kept (Block (GroupFor a g) z) t P keeps p =
      let sized = (laid m held).sized in
      keeps m (group_block_row a + g) _ (omega arith) p
