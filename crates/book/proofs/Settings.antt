-- A setting is a LIMIT or sets no line, and is a BALANCE or sets no balance.
use Rattle.std.specs.Prelude.{◌≡◌}
use Rattle.integers.specs.Basics.{ℕ, refl, sym, subst, Option, None, Some, ℤ}
use Rattle.book.specs.declared.LimitLine.{LimitLine}
use Rattle.book.specs.declared.Setting.{Setting}
use Rattle.book.specs.declared.Setting.TheVariants.{Limit, Balance}
use Rattle.book.specs.Settings.{IsLimit, as_limit, IsBalance, as_balance}

module _ (P : Setting → Type 0) (x : Setting) where
  pub by_limit : ((a : ℕ) (l : LimitLine) → P (Limit a l)) → (as_limit x ≡ None → P x) → P x
  by_limit limit other = by (as_limit x) refl
    where
      by : (y : Option (IsLimit x)) → as_limit x ≡ y → P x
      by None e = other e
      by (Some s) e = subst P (sym s.is) (limit s.account s.line)

  pub by_balance : ((a i : ℕ) (z : ℤ) → P (Balance a i z)) → (as_balance x ≡ None → P x) → P x
  by_balance balance other = by (as_balance x) refl
    where
      by : (y : Option (IsBalance x)) → as_balance x ≡ y → P x
      by None e = other e
      by (Some s) e = subst P (sym s.is) (balance s.account s.instrument s.balance)
