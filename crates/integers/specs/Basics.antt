-- The words that nearly every proof uses, under one name: equality, truth values, natural and whole numbers, lists, options, tests, and the
-- rules of tactics.
pub use Rattle.std.specs.Prelude.{ℕ, zero, suc, ◌+◌, ◌*◌, ◌-◌, ◌/◌, ◌%◌, ◌^◌, ◌≤◌, ◌<◌, ◌≡◌, refl, ◌⊎◌, ◌↔◌, ◌≢◌, Bool, true, false, not, ◌&&◌, ◌||◌, cond, ℤ, pos, negsuc, neg_ℤ, nat_abs, ◌+ℤ◌, ◌-ℤ◌, ◌*ℤ◌, ◌≤ℤ◌, ◌<ℤ◌, T, leb, ltb, eqb, length, get_or, set, take, drop, replicate}
pub use Rattle.std.proofs.Common.{◌∙◌, sym, ap, subst, inl, inr, ⊎_elim, true≢false, length-set, Fits, SFits, to_z, of_z, arith, rules, leb-true, ltb-true, ltb-false, eqb-true, le-leb, lt-ltb, le-ltb, eq-eqb, ne_eqb}
pub use Rattle.std.proofs.Math.Path.{fun_ext}
pub use Rattle.std.proofs.Math.Logic.{by_cases}
pub use Rattle.std.proofs.lemmas.Bool.{false≢true, not-true, not-false, eqb-false, lt-leb}
pub use mathlib.Core.List.Memᴰ.{head as ListMemᴰ_head}
pub use mathlib.Core.List.Memᴰ.{not-nil as ListMemᴰ_not_nil}
pub use mathlib.Core.List.Memᴰ.{tail as ListMemᴰ_tail}
pub use mathlib.Core.List.{List, [], ◌∷◌, ◌++◌, map, Memᴰ as ListMemᴰ}
pub use Rattle.std.specs.Prelude.{Option, None, Some}
pub use Rattle.std.proofs.Math.IntN.{+ℤ_idl, +ℤ_idr}
pub use Rattle.std.specs.Int.Signed.{le_z, lt_z, mag, non_neg}
pub use Rattle.std.specs.Int.{w32, w64}
pub use Rattle.std.proofs.lemmas.Int.{to_z-of_z}
pub use Rattle.std.proofs.Math.Decide.{ℕ_discrete}
pub use Rattle.integers.specs.Parts.{signed, magnitude_parts, negation_parts, sum_parts, difference_parts}
