-- Texts that pin the digits' order, the sign and the characters' codes, those of 01's printed lines and the ends of the machine's numbers among them; and texts that are read, or cannot be.
use Rattle.std.specs.Prelude.{◌≡◌, [], ◌∷◌, negsuc, Some, None}
use Rattle.text.specs.Ascii.{ascii}
use Rattle.text.specs.Decimal.{digits, decimal, signed_decimal}
use Rattle.text.specs.Reading.{read_decimal}

-- the claim
pub record WorkedTexts : Type 0 where
  -- 0
  pub nought : decimal 0 ≡ 48 ∷ []
  -- 13
  pub thirteen : decimal 13 ≡ 49 ∷ 51 ∷ []
  -- -12000
  pub minus_twelve_thousand : signed_decimal (negsuc 11999) ≡ 45 ∷ 49 ∷ 50 ∷ 48 ∷ 48 ∷ 48 ∷ []
  -- 0500: the decimals of 0.0500
  pub four_digits : digits 4 500 ≡ 48 ∷ 53 ∷ 48 ∷ 48 ∷ []
  -- -9223372036854775808, the least signed number of 64 bits
  pub least : signed_decimal (negsuc 9223372036854775807) ≡ 45 ∷ 57 ∷ 50 ∷ 50 ∷ 51 ∷ 51 ∷ 55 ∷ 50 ∷ 48 ∷ 51 ∷ 54 ∷ 56 ∷ 53 ∷ 52 ∷ 55 ∷ 55 ∷ 53 ∷ 56 ∷ 48 ∷ 56 ∷ []
  -- words: letters, a space, a digit and a line feed
  pub words : ascii "at 1\n" ≡ 97 ∷ 116 ∷ 32 ∷ 49 ∷ 10 ∷ []
  -- read: nothing, zero, zeros in front, the largest number and one more, a letter, a sign
  pub read_nothing : read_decimal (ascii "") ≡ None
  pub read_zero : read_decimal (ascii "0") ≡ Some 0
  pub read_zeros : read_decimal (ascii "007") ≡ Some 7
  pub read_largest : read_decimal (ascii "4294967295") ≡ Some 4294967295
  pub read_too_large : read_decimal (ascii "4294967296") ≡ None
  pub read_letter : read_decimal (ascii "12a") ≡ None
  pub read_sign : read_decimal (ascii "-1") ≡ None
