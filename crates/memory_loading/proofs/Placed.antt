-- Whether an item stands under its own parent: one that is not on the roster passes, and of one that is the parent is compared.
use Rattle.std.specs.Prelude.{◌≡◌, ◌||◌}
use Rattle.integers.specs.Basics.{ℕ, ◌∙◌, sym, Bool, true, false, not, eqb}
use Rattle.ledger.specs.Roster.{Numbered}
use Rattle.book.specs.Decoding.{between}
use Rattle.book.proofs.Tables.{between_numbered}

-- t was answered to u, whether it is on the roster
module _ {t u : Bool} (told : t ≡ u) where
  pub unknown_placed : t ≡ false → (b : Bool) → true ≡ (not u || b)
  unknown_placed h b = rw (sym told ∙ h)

  pub known_placed : t ≡ true → (parent : ℕ) {read said : ℕ} → read ≡ said → eqb read parent ≡ (not u || eqb said parent)
  known_placed h parent e = rw (sym told ∙ h, e)

pub known_numbered : (most n : ℕ) {t : Bool} → t ≡ between 1 most n → t ≡ true → Numbered most n
known_numbered most n told h = between_numbered most n (sym told ∙ h)
