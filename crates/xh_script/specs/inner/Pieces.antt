-- The text of a piece.
use Rattle.std.specs.Prelude.{ℕ, List}
use Rattle.std.specs.Fmt.{decimal}
use Rattle.xh_script.specs.declared.writing.Piece.{Piece}
use Rattle.xh_script.specs.declared.writing.Piece.TheVariants.{Text, Number}

abbrev pub piece_text : Piece → List ℕ
piece_text (Text text) = text.now
piece_text (Number n) = decimal n
