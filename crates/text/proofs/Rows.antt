-- The worked texts, by computing. Assumes nothing.
use mathlib.Core.Path.{refl}
use Rattle.text.specs.Ascii.{ascii}
use Rattle.text.specs.Decimal.{digits, front, decimal, signed_decimal}
use Rattle.text.specs.Reading.{all_digits, value_after, read_decimal}
use Rattle.text.specs.Texts.{WorkedTexts}

pub worked_texts_lem : WorkedTexts
unfolding ascii digits front decimal signed_decimal all_digits value_after read_decimal
worked_texts_lem = record {
  nought = refl;
  thirteen = refl;
  minus_twelve_thousand = refl;
  four_digits = refl;
  least = refl;
  words = refl;
  read_nothing = refl;
  read_zero = refl;
  read_zeros = refl;
  read_largest = refl;
  read_too_large = refl;
  read_letter = refl;
  read_sign = refl;
}
