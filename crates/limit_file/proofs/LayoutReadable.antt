-- The layout passes the grammar's test, so what is read of bytes is just what the layout has, and they are one file of limits at most.
use Rattle.std.specs.Prelude.{◌≡◌, ◌↔◌}
use Rattle.integers.specs.Basics.{ℕ, refl, true, List, Some}
use Rattle.grammar.specs.Bytes.{is_blank}
use Rattle.grammar.specs.Readable.{apart, begins_solid, names_solid, told, attributes_readable, readable}
use Rattle.grammar.specs.Document.{document_readable, file_of, File}
use Rattle.grammar.specs.Grammar.{Value}
use Rattle.grammar.proofs.Files.{file_iff, file_one}
use Rattle.limit_file.specs.Layout.{request, limit_file}

pub layout_readable : document_readable limit_file ≡ true
unfolding document_readable readable attributes_readable told names_solid begins_solid apart is_blank
layout_readable = refl

-- what is read is just what the layout has, and bytes have one reading
pub limit_file_iff : (s : List ℕ) (v : Value request) → (file_of limit_file s ≡ Some v) ↔ File limit_file v s
limit_file_iff s v = file_iff limit_file s v layout_readable

pub one_limit_file : (s : List ℕ) (v w : Value request) → File limit_file v s → File limit_file w s → v ≡ w
one_limit_file s v w = file_one limit_file s v w layout_readable
