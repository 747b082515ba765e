-- The sample is a file of the layout, and says one group's line and one instrument's.
use Rattle.std.specs.Prelude.{◌≡◌, ◌∷◌}
use Rattle.integers.specs.Basics.{refl, [], None, Some}
use Rattle.grammar.specs.Bytes.{is_blank, is_digit, is_plain, value_from}
use Rattle.grammar.specs.Grammar.{Value}
use Rattle.grammar.specs.Reader.{starts, span, past_blanks, opening_at, digits_at, plain_at, number_at, text_at, numbers_at, attributes_at, tag_at}
use Rattle.grammar.specs.Reader.{childless_at, many_at, children_at, element_at}
use Rattle.grammar.specs.Document.{document_at, file_of, File}
use Rattle.grammar.proofs.Files.{file_sound}
use Rattle.limit_file.specs.Layout.{request, limit_file}
use Rattle.limit_file.specs.Sample.{sample}

pub said : Value request
said = (
  (1, tt),
  (
    (2, (1, tt)),
    (
      (1, (Some (1000, (900, tt)), (1, tt))),
      (
        (3, (None, (1, tt))),
        (4, (Some (800, (700, (50, (60, tt)))), tt))
            ∷ [],
      )
          ∷ [],
    )
        ∷ [],
  )
      ∷ [],
)

pub sample_read : file_of limit_file sample ≡ Some said
unfolding said file_of document_at element_at children_at many_at childless_at tag_at attributes_at numbers_at text_at number_at plain_at
    digits_at opening_at past_blanks span starts is_blank is_digit is_plain value_from
sample_read = refl

pub sample_file : File limit_file said sample
sample_file = file_sound limit_file sample said sample_read
