-- What a word of a line may be.
use Rattle.std.specs.Prelude.{ℕ, ◌+◌, ◌-◌, ◌*◌, ◌%◌, ◌&&◌, ◌||◌, ◌==◌, Bool, not, List, [], ◌∷◌, length, nat_le, nat_lt, if◌then◌else◌, codes, slice_index}
use Rattle.std.specs.List.{list_all, fold}
use Rattle.std.specs.Str.{bytes_eq}
use Rattle.xh_script.specs.declared.limits.TheConstants.{MAX_NAME, MAX_DIGITS, MAX_HEX}

abbrev pub is_lower : ℕ → Bool
is_lower b = nat_le 97 b && nat_le b 122

abbrev pub is_digit : ℕ → Bool
is_digit b = nat_le 48 b && nat_le b 57

abbrev pub is_name_byte : ℕ → Bool
is_name_byte b = is_lower b || is_digit b

-- the words that begin head lines
abbrev pub is_keyword : List ℕ → Bool
is_keyword word = bytes_eq word (codes "process") || bytes_eq word (codes "wire") || bytes_eq word (codes "contract")

-- lower-case letters or digits, a letter first, and no keyword
abbrev pub is_name : List ℕ → Bool
is_name word =
    nat_lt 0 (length word) && nat_le (length word) MAX_NAME && is_lower (slice_index word 0)
    && list_all is_name_byte word && not (is_keyword word)

abbrev pub has_no_zero_in_front : List ℕ → Bool
has_no_zero_in_front word = (length word == 1) || not (slice_index word 0 == 48)

-- digits, with no zero in front of others
abbrev pub is_numeral : List ℕ → Bool
is_numeral word =
    nat_lt 0 (length word) && nat_le (length word) MAX_DIGITS && has_no_zero_in_front word && list_all is_digit word

-- what digits say
abbrev pub value_of : List ℕ → ℕ
value_of digits = fold (λ n b. n * 10 + (b - 48)) 0 digits

abbrev pub is_hex_letter : ℕ → Bool
is_hex_letter b = nat_le 97 b && nat_le b 102

abbrev pub is_hex_digit : ℕ → Bool
is_hex_digit b = is_digit b || is_hex_letter b

-- lower-case hexadecimal digits, two for each byte, of one byte or more
abbrev pub is_hex : List ℕ → Bool
is_hex word = nat_le 2 (length word) && nat_le (length word) (2 * MAX_HEX) && (length word % 2 == 0) && list_all is_hex_digit word

-- what a hexadecimal digit says
abbrev pub hex_value : ℕ → ℕ
hex_value b = if is_digit b then b - 48 else if is_hex_letter b then b - 87 else 0

-- the bytes that pairs of hexadecimal digits say
abbrev pub hex_bytes : List ℕ → List ℕ
hex_bytes (high ∷ low ∷ more) = (16 * hex_value high + hex_value low) ∷ hex_bytes more
hex_bytes _ = []
